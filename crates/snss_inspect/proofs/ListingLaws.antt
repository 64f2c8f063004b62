-- A walk over the files of a disk from the newest down, which lists each and finds the chosen one.
use Rattle.std.proofs.Common.{◌≡◌, ◌≢◌, ℕ, ◌<◌, ◌≤◌, Bool, true, false, not, ◌&&◌, ◌||◌, List, [], ◌∷◌, ◌++◌, length, append_assoc, Option, Some, None, option_map, IsSome, IfSome, MatchOption, refl, sym, ap, ◌∙◌, subst, inl, inr, arith, eq-eqb}
use Rattle.std.proofs.lemmas.Bool.{cases_lt, ne_eqb}
use Rattle.std.proofs.lemmas.List.{append-nil}
use Rattle.snss_frames.specs.Frame.{Frame}
use Rattle.session_disk.specs.declared.family.Family.{Family}
use Rattle.session_disk.specs.Moments.{Standing, Moment, bytes_of, bytes_at, IsBelow, IsNewestBelow}
use Rattle.session_disk.specs.Images.{Image, as_it_reads}
use Rattle.file_rotation.specs.declared.choice.Chosen.{Chosen}
use Rattle.file_rotation.specs.Choice.{IsChoice}
use Rattle.file_rotation.specs.Recovery.{IsLawful}
use Rattle.report_lines.specs.Reports.{IsUnderway, WrotePrefix}
use Rattle.report_lines.proofs.ReportLaws.{begun, made as made_more, sent, goes_on}
use Rattle.file_reports.specs.FileReading.{FileReading, IsReading}
use Rattle.file_reports.specs.FileKinds.{kind_of, is_lawful}
use Rattle.file_reports.proofs.FileReadingLaws.{lawful_reading, unlawful_reading}
use Rattle.snss_inspect.specs.declared.listing.FileLine.{FileLine}
use Rattle.snss_inspect.specs.Listings.{ListedFile, IsNewestFile, AreListed, is_chosen, is_first, line_text, file_line, file_lines}

-- whether the chosen file was listed: it isn't below the bound
abbrev pub IsFound : Option ℕ → Option Chosen → Bool → Type 0
IsFound below chosen true = MatchOption chosen ⊥ (λ c. IsBelow below c.stamp → ⊥)
IsFound below chosen false = IfSome chosen (λ c. IsBelow below c.stamp)

-- what is still to be listed, from the next file on
pub record Remaining (m : Moment) (family : Family) (chosen : Option Chosen) (whole text : List ℕ) (next : Option ℕ) (has_lawful : Bool) : Type 0 where
  pub below : Option ℕ
  pub newest : IsNewestBelow m.standing below next
  pub files : List ListedFile
  pub listed : AreListed (as_it_reads m) below files
  pub found : IsFound below chosen has_lawful
  pub says : text ++ file_lines family chosen files ≡ whole

pub remaining_first : (m : Moment) (family : Family) (chosen : Option Chosen) (files : List ListedFile) (next : Option ℕ) → IsNewestBelow m.standing None next → AreListed (as_it_reads m) None files → Remaining m family chosen (file_lines family chosen files) [] next false
remaining_first m family chosen files next newest listed = record {
  below = None;
  newest = newest;
  files = files;
  listed = listed;
  found = any chosen;
  says = refl;
}
  where
    any : (c : Option Chosen) → IsFound None c false
    any None = tt
    any (Some c) = tt

some_reads : (file : Option Standing) → IsSome file → IsSome (option_map (λ (f : Standing). f.bytes) file)
some_reads None some = absurd (let h = some in cc)
some_reads (Some file) some = refl

reads_some : (file : Option Standing) → IsSome (option_map (λ (f : Standing). f.bytes) file) → IsSome file
reads_some None some = absurd (let h = some in cc)
reads_some (Some file) some = refl

some_is : (bytes : List ℕ) (file : Option (List ℕ)) → file ≡ Some bytes → IsSome file
some_is bytes file e = rw e refl

reads_bytes : (bytes : List ℕ) (file : Option Standing) → option_map (λ (f : Standing). f.bytes) file ≡ Some bytes → bytes_of file ≡ bytes
reads_bytes bytes None e = absurd cc
reads_bytes bytes (Some file) e = cc

below_lower : (below : Option ℕ) (s t : ℕ) → t ≤ s → IsBelow below s → IsBelow below t
below_lower None s t h b = tt
below_lower (Some bound) s t h b = omega arith

-- a file's bytes are a lawful file's, or aren't
abbrev pub IsLawfulBy : Bool → List ℕ → Type 0
IsLawfulBy true bytes = (frames : List Frame) × IsLawful bytes frames
IsLawfulBy false bytes = (frames : List Frame) → IsLawful bytes frames → ⊥

-- The newest file that remains is the chosen one exactly where it is lawful and no newer one was.
pub record Marks (chosen : Option Chosen) (stamp : ℕ) (has_lawful lawful : Bool) : Type 0 where
  pub marked : is_chosen chosen stamp ≡ (not has_lawful && lawful)
  pub found : IsFound (Some stamp) chosen (has_lawful || lawful)

module _ (image : Image) (below : Option ℕ) (file : ListedFile) (newest : IsNewestFile image below file) where
  -- a newer one was chosen
  marks_passed : (chosen : Option Chosen) (lawful : Bool) → IsFound below chosen true → Marks chosen file.stamp true lawful
  marks_passed None lawful found = absurd found
  marks_passed (Some c) lawful found = record {
    marked = ne_eqb c.stamp file.stamp (λ same. found (rw (sym same) at newest.within));
    found = λ lower. found (below_lower below file.stamp c.stamp (omega (arith, lower)) newest.within);
  }

  -- this one is
  marks_lawful : (chosen : Option Chosen) (frames : List Frame) → IsLawful file.bytes frames → IsChoice image chosen → IsFound below chosen false → Marks chosen file.stamp false true
  marks_lawful None frames lawful choice found = absurd (choice file.stamp file.bytes frames newest.stands lawful)
  marks_lawful (Some c) frames lawful choice found =
      let upto = newest.newest c.stamp (some_is choice.newest.bytes (image c.stamp) choice.newest.stands) found in
      let not_less : c.stamp < file.stamp → ⊥ = λ less. choice.newest.newest file.stamp file.bytes frames less newest.stands lawful in
      elim (cases_lt c.stamp file.stamp) [
        | inl less ↦ absurd (not_less less)
        | inr not_below ↦ record {
          marked = eq-eqb c.stamp file.stamp (omega (arith, upto, not_below));
          found = not_less;
        }
      ]

  -- this one isn't, nor was a newer one
  marks_unlawful : (chosen : Option Chosen) → ((frames : List Frame) → IsLawful file.bytes frames → ⊥) → IsChoice image chosen → IsFound below chosen false → Marks chosen file.stamp false false
  marks_unlawful None unlawful choice found = record { marked = refl; found = tt }
  marks_unlawful (Some c) unlawful choice found =
      let upto = newest.newest c.stamp (some_is choice.newest.bytes (image c.stamp) choice.newest.stands) found in
      let differs : c.stamp ≢ file.stamp = λ same.
      let own : choice.newest.bytes ≡ file.bytes = (let there = ap image same in let here = choice.newest.stands in let stands = newest.stands in cc) in
      unlawful choice.frames (rw own at choice.newest.lawful) in
      record {
        marked = ne_eqb c.stamp file.stamp differs;
        found = elim (cases_lt c.stamp file.stamp) [
          | inl less ↦ less
          | inr not_below ↦ absurd (differs (omega (arith, upto, not_below)))
        ];
      }

  pub marks : (chosen : Option Chosen) (has_lawful lawful : Bool) → IsLawfulBy lawful file.bytes → IsChoice image chosen → IsFound below chosen has_lawful → Marks chosen file.stamp has_lawful lawful
  marks chosen true lawful holds choice found = marks_passed chosen lawful found
  marks chosen false true holds choice found = marks_lawful chosen holds.0 holds.1 choice found
  marks chosen false false holds choice found = marks_unlawful chosen holds choice found

is_lawful_by : (bytes : List ℕ) (reading : FileReading) (lawful : Bool) → IsReading bytes reading → is_lawful (kind_of reading) ≡ lawful → IsLawfulBy lawful bytes
is_lawful_by bytes reading true reads e =
    let is = (lawful_reading bytes reading reads e).1 in (is.frames, is.lawful)
is_lawful_by bytes reading false reads e = unlawful_reading bytes reading reads e

-- What the first file that remains gives: its line, and what then remains.
pub record Listed (m : Moment) (family : Family) (chosen : Option Chosen) (whole text : List ℕ) (stamp : ℕ) (bytes : List ℕ) (has_lawful : Bool) : Type 0 where
  pub file : ListedFile
  pub stamp_is : file.stamp ≡ stamp
  pub bytes_are : file.bytes ≡ bytes
  pub reads : IsReading bytes file.reading
  pub marked : is_chosen chosen stamp ≡ is_first has_lawful (kind_of file.reading)
  pub rest : List ℕ
  pub says : (text ++ file_line family chosen file) ++ rest ≡ whole
  pub goes_on : (next : Option ℕ) → IsNewestBelow m.standing (Some stamp) next →
      Remaining m family chosen whole (text ++ file_line family chosen file) next (has_lawful || is_lawful (kind_of file.reading))

module _ (m : Moment) (family : Family) (chosen : Option Chosen) (whole text : List ℕ) (stamp : ℕ) (bytes : List ℕ) (has_lawful : Bool)
    (choice : IsChoice (as_it_reads m) chosen) (read : bytes ≡ bytes_at stamp m) where
  listed_by : (below : Option ℕ) (files : List ListedFile) → IsNewestBelow m.standing below (Some stamp) → AreListed (as_it_reads m) below files → IsFound below chosen has_lawful →
      text ++ file_lines family chosen files ≡ whole → Listed m family chosen whole text stamp bytes has_lawful
  listed_by below [] newest none found says = absurd (none stamp (some_reads (m.standing stamp) newest.stands) newest.within)
  listed_by below (file ∷ files) newest (first, others) found says =
      let up = newest.greatest file.stamp (reads_some (m.standing file.stamp) (some_is file.bytes (as_it_reads m file.stamp) first.stands)) first.within in
      let down = first.newest stamp (some_reads (m.standing stamp) newest.stands) newest.within in
      let here : file.stamp ≡ stamp = omega (arith, up, down) in
      let own : file.bytes ≡ bytes = sym (reads_bytes file.bytes (m.standing file.stamp) first.stands) ∙ ap (λ (s : ℕ). bytes_at s m) here ∙ sym read in
      let mark = marks (as_it_reads m) below file first chosen has_lawful (is_lawful (kind_of file.reading))
      (is_lawful_by file.bytes file.reading (is_lawful (kind_of file.reading)) first.reads refl) choice found in
      record {
        file = file;
        stamp_is = here;
        bytes_are = own;
        reads = rw own at first.reads;
        marked = rw here at mark.marked;
        rest = file_lines family chosen files;
        says = append_assoc text (file_line family chosen file) (file_lines family chosen files) ∙ says;
        goes_on = λ next below_stamp. record {
          below = Some stamp;
          newest = below_stamp;
          files = files;
          listed = rw here at others;
          found = rw here at mark.found;
          says = append_assoc text (file_line family chosen file) (file_lines family chosen files) ∙ says;
        };
      }

  pub listed_next : Remaining m family chosen whole text (Some stamp) has_lawful → Listed m family chosen whole text stamp bytes has_lawful
  listed_next r = listed_by r.below r.files r.newest r.listed r.found r.says

-- where no file is left, all are listed
all_listed : (m : Moment) (family : Family) (chosen : Option Chosen) (whole text : List ℕ) (below : Option ℕ) (files : List ListedFile) → IsNewestBelow m.standing below None → AreListed (as_it_reads m) below files →
    text ++ file_lines family chosen files ≡ whole → text ≡ whole
all_listed m family chosen whole text below [] none listed says = sym (append-nil text) ∙ says
all_listed m family chosen whole text below (file ∷ files) none (first, others) says =
    absurd (none file.stamp (reads_some (m.standing file.stamp) (some_is file.bytes (as_it_reads m file.stamp) first.stands)) first.within)

pub remaining_none : (m : Moment) (family : Family) (chosen : Option Chosen) (whole text : List ℕ) (has_lawful : Bool) → Remaining m family chosen whole text None has_lawful → text ≡ whole
remaining_none m family chosen whole text has_lawful r = all_listed m family chosen whole text r.below r.files r.newest r.listed r.says

line_of : (family : Family) (chosen : Option Chosen) (file : ListedFile) (stamp : ℕ) (bytes : List ℕ) (has_lawful : Bool) (line : FileLine) →
    line ≡ record { family = family; stamp = stamp; length = length bytes; kind = line.kind; is_chosen = is_first has_lawful line.kind } → line.kind ≡ kind_of file.reading →
    file.stamp ≡ stamp → file.bytes ≡ bytes → is_chosen chosen stamp ≡ is_first has_lawful (kind_of file.reading) → file_line family chosen file ≡ line_text line
line_of family chosen file stamp bytes has_lawful line is kind_is here own marked =
    ap line_text (rw (kind_is, here, own, marked) refl ∙ sym is)

-- The walk: this text was made so far, of which whole pieces went out, and this remains to be listed.
pub record Listing (m : Moment) (family : Family) (chosen : Option Chosen) (whole : List ℕ) (next : Option ℕ) (has_lawful : Bool) (before now : Option (List ℕ)) (old waiting : List ℕ) : Type 0 where
  pub text : List ℕ
  pub underway : IsUnderway before now waiting (old ++ text)
  pub remaining : Remaining m family chosen whole text next has_lawful

-- the same behind the line of a file, before the next file is known
pub record Lined (m : Moment) (family : Family) (chosen : Option Chosen) (whole : List ℕ) (stamp : ℕ) (has_lawful : Bool) (before now : Option (List ℕ)) (old waiting : List ℕ) : Type 0 where
  pub text : List ℕ
  pub underway : IsUnderway before now waiting (old ++ text)
  pub rest : List ℕ
  pub says : text ++ rest ≡ whole
  pub remaining : (next : Option ℕ) → IsNewestBelow m.standing (Some stamp) next → Remaining m family chosen whole text next has_lawful

-- some prefix of a text that is underway went out
cut_of : (before now : Option (List ℕ)) (waiting old text rest whole : List ℕ) → IsUnderway before now waiting (old ++ text) → text ++ rest ≡ whole → WrotePrefix before now (old ++ whole)
cut_of before now waiting old text rest whole underway says =
    goes_on before now (old ++ text) rest (old ++ whole) (append_assoc old text rest ∙ ap (λ (x : List ℕ). old ++ x) says) (waiting, underway)

module _ (m : Moment) (family : Family) (chosen : Option Chosen) where
  pub listing_first : (files : List ListedFile) (next : Option ℕ) (before : Option (List ℕ)) (old : List ℕ) → IsNewestBelow m.standing None next → AreListed (as_it_reads m) None files →
      Listing m family chosen (file_lines family chosen files) next false before before old old
  listing_first files next before old newest listed = record {
    text = [];
    underway = rw (append-nil old) (begun before old);
    remaining = remaining_first m family chosen files next newest listed;
  }

  module _ (whole : List ℕ) (before : Option (List ℕ)) (old : List ℕ) where
    pub listing_cut : (next : Option ℕ) (has_lawful : Bool) (now : Option (List ℕ)) (waiting : List ℕ) → Listing m family chosen whole next has_lawful before now old waiting → WrotePrefix before now (old ++ whole)
    listing_cut next has_lawful now waiting l =
        cut_of before now waiting old l.text (file_lines family chosen l.remaining.files) whole l.underway l.remaining.says

    -- all files are listed
    pub listing_all : (has_lawful : Bool) (now : Option (List ℕ)) (waiting : List ℕ) → Listing m family chosen whole None has_lawful before now old waiting → IsUnderway before now waiting (old ++ whole)
    listing_all has_lawful now waiting l =
        subst (λ (x : List ℕ). IsUnderway before now waiting (old ++ x)) (remaining_none m family chosen whole l.text has_lawful l.remaining) l.underway

    -- the line of the next file
    pub listing_line : (stamp : ℕ) (has_lawful : Bool) (bytes : List ℕ) (line : FileLine) (now : Option (List ℕ)) (waiting lengthened : List ℕ) → IsChoice (as_it_reads m) chosen → bytes ≡ bytes_at stamp m →
        line ≡ record { family = family; stamp = stamp; length = length bytes; kind = line.kind; is_chosen = is_first has_lawful line.kind } → ((reading : FileReading) → IsReading bytes reading → line.kind ≡ kind_of reading) →
        lengthened ≡ waiting ++ line_text line → Listing m family chosen whole (Some stamp) has_lawful before now old waiting →
        Lined m family chosen whole stamp (has_lawful || is_lawful line.kind) before now old lengthened
    listing_line stamp has_lawful bytes line now waiting lengthened choice read is kinds made l =
        let next = listed_next m family chosen whole l.text stamp bytes has_lawful choice read l.remaining in
        let kind_is : line.kind ≡ kind_of next.file.reading = kinds next.file.reading next.reads in
        let same : file_line family chosen next.file ≡ line_text line = line_of family chosen next.file stamp bytes has_lawful line is kind_is next.stamp_is next.bytes_are next.marked in
        record {
          text = l.text ++ line_text line;
          underway = subst (λ (w : List ℕ). IsUnderway before now w (old ++ (l.text ++ line_text line))) (sym made)
              (rw (append_assoc old l.text (line_text line)) at (made_more before now waiting (old ++ l.text) (line_text line) l.underway));
          rest = next.rest;
          says = rw same at next.says;
          remaining = rw (same, sym kind_is) at next.goes_on;
        }

    pub lined_cut : (stamp : ℕ) (has_lawful : Bool) (now : Option (List ℕ)) (waiting : List ℕ) → Lined m family chosen whole stamp has_lawful before now old waiting → WrotePrefix before now (old ++ whole)
    lined_cut stamp has_lawful now waiting l = cut_of before now waiting old l.text l.rest whole l.underway l.says

    pub lined_sent : (stamp : ℕ) (has_lawful : Bool) (now later : Option (List ℕ)) (waiting left : List ℕ) → Lined m family chosen whole stamp has_lawful before now old waiting → IsUnderway now later left waiting →
        Lined m family chosen whole stamp has_lawful before later old left
    lined_sent stamp has_lawful now later waiting left l went = record {
      text = l.text;
      underway = sent before now later waiting (old ++ l.text) left l.underway went;
      rest = l.rest;
      says = l.says;
      remaining = l.remaining;
    }

    pub lined_stopped : (stamp : ℕ) (has_lawful : Bool) (now later : Option (List ℕ)) (waiting : List ℕ) → Lined m family chosen whole stamp has_lawful before now old waiting → WrotePrefix now later waiting →
        WrotePrefix before later (old ++ whole)
    lined_stopped stamp has_lawful now later waiting l (left, went) =
        lined_cut stamp has_lawful later left (lined_sent stamp has_lawful now later waiting left l went)

    pub lined_next : (stamp : ℕ) (next : Option ℕ) (has_lawful : Bool) (now : Option (List ℕ)) (waiting : List ℕ) → Lined m family chosen whole stamp has_lawful before now old waiting → IsNewestBelow m.standing (Some stamp) next →
        Listing m family chosen whole next has_lawful before now old waiting
    lined_next stamp next has_lawful now waiting l newest = record { text = l.text; underway = l.underway; remaining = l.remaining next newest }

-- the newest file of some stands
pub newest_stands : (standing : ℕ → Option Standing) (below next : Option ℕ) → IsNewestBelow standing below next → IfSome next (λ stamp. IsSome (standing stamp))
newest_stands standing below None newest = tt
newest_stands standing below (Some stamp) newest = newest.stands
