-- How the parts of a report follow one another, and where it stops.
use Rattle.std.proofs.Common.{◌≡◌, ℕ, true, false, nat_lt, List, ◌++◌, length, drop, append_assoc, Option, Result, Ok, Err, IsErr, refl, sym, ◌∙◌, arith}
use Rattle.std.proofs.lemmas.Bool.Decides.{nat_tests}
use Rattle.snss_frames.specs.Frame.{Frame}
use Rattle.snss_frames.specs.Reading.{Reads}
use Rattle.snss_frames.specs.declared.header.Version.{Version}
use Rattle.session_disk.specs.declared.family.Family.{Family}
use Rattle.report_lines.specs.Reports.{IsUnderway, WrotePrefix, Adds}
use Rattle.report_lines.proofs.ReportLaws.{adds_more, adds_stopped, adds_first, adds_none}
use Rattle.file_reading.specs.Heads.{head_of}
use Rattle.file_reading.specs.declared.head.FileHead.{FileHead}
use Rattle.file_reading.specs.declared.head.FileHead.TheVariants.{Known}
use Rattle.file_reports.specs.FileReading.{FileReading, TooShort, Foreign, Framed, IsReading}
use Rattle.file_reports.specs.FileKinds.{head_of_file}
use Rattle.file_reports.specs.FileTexts.{check_text, show_text, last_line}
use Rattle.file_reports.specs.Lines.{head_line, header_line, frame_lines, tally_lines}
use Rattle.file_reports.specs.Tallies.{tally}

-- it stops before any more of it went out
pub adds_refused : {T E : Type 0} (before : Option (List ℕ)) (old new more : List ℕ) (result : Result T E) → IsErr result → Adds before before old new more result
adds_refused before old new more (Ok x) err = absurd cc
adds_refused before old new more (Err e) err = adds_none before old more

-- it stops in its first part
pub adds_cut : {T E : Type 0} (before now : Option (List ℕ)) (old new first others : List ℕ) (result : Result T E) → IsErr result → WrotePrefix before now (old ++ first) → Adds before now old new (first ++ others) result
adds_cut before now old new first others (Ok x) err cut = absurd cc
adds_cut before now old new first others (Err e) err cut = adds_first before now old first others cut

-- it goes on behind its first part
pub adds_behind : {T E : Type 0} (before now later : Option (List ℕ)) (old mid new first others : List ℕ) (result : Result T E) → IsUnderway before now mid (old ++ first) → Adds now later mid new others result → Adds before later old new (first ++ others) result
adds_behind before now later old mid new first others (Ok x) u adds = adds_more before now later old mid new first others u adds
adds_behind before now later old mid new first others (Err e) u adds = adds_stopped before now later old mid first others u adds

-- and behind what was only made
pub adds_made : {T E : Type 0} (before now : Option (List ℕ)) (old mid new first others : List ℕ) (result : Result T E) → mid ≡ old ++ first → Adds before now mid new others result → Adds before now old new (first ++ others) result
adds_made before now old mid new first others (Ok x) made adds = rw (made, append_assoc old first others) at adds
adds_made before now old mid new first others (Err e) made adds = rw (made, append_assoc old first others) at adds

-- the header's line, and what is said behind it of the frames and the rest
abbrev pub file_text : (List Frame → List ℕ → List ℕ) → FileReading → List ℕ
file_text behind (TooShort n) = header_line (TooShort n)
file_text behind (Foreign fault) = header_line (Foreign fault)
file_text behind (Framed version frames rest) = header_line (Framed version frames rest) ++ behind frames rest

abbrev pub counts_text : Family → List Frame → List ℕ → List ℕ
counts_text family frames rest = tally_lines (tally family frames) ++ last_line frames rest

abbrev pub commands_text : Family → List Frame → List ℕ → List ℕ
commands_text family frames rest = frame_lines family 8 frames ++ last_line frames rest

pub check_parts : (family : Family) (reading : FileReading) → check_text family reading ≡ file_text (counts_text family) reading
check_parts family (TooShort n) = refl
check_parts family (Foreign fault) = refl
check_parts family (Framed version frames rest) = refl

pub show_parts : (family : Family) (reading : FileReading) → show_text family reading ≡ file_text (commands_text family) reading
show_parts family (TooShort n) = refl
show_parts family (Foreign fault) = refl
show_parts family (Framed version frames rest) = refl

-- what the head of a file says is what its reading says
pub head_read : (bytes : List ℕ) (reading : FileReading) → IsReading bytes reading → head_of bytes ≡ head_of_file reading
head_read bytes (TooShort n) is = let short : nat_lt (length bytes) 8 ≡ true = grind (arith, nat_tests, is) in rw (short, is.0) refl
head_read bytes (Foreign fault) is = let long : nat_lt (length bytes) 8 ≡ false = grind (arith, nat_tests, is) in rw (long, is.1) refl
head_read bytes (Framed version frames rest) is = let long : nat_lt (length bytes) 8 ≡ false = grind (arith, nat_tests, is) in rw (long, is.1) refl

-- it stops, of whatever kind the refusal is
pub adds_failed : {T E : Type 0} (before now : Option (List ℕ)) (old new more : List ℕ) (result : Result T E) → IsErr result → WrotePrefix before now (old ++ more) → Adds before now old new more result
adds_failed before now old new more (Ok x) err cut = absurd cc
adds_failed before now old new more (Err e) err cut = cut

module _ {T E : Type 0} (behind : List Frame → List ℕ → List ℕ) (before now : Option (List ℕ)) (old new : List ℕ) (result : Result T E) (head : FileHead) where
  -- it stops in the header's line
  pub header_cut : (reading : FileReading) → head ≡ head_of_file reading → IsErr result → WrotePrefix before now (old ++ head_line head) → Adds before now old new (file_text behind reading) result
  header_cut (TooShort n) said err cut = adds_failed before now old new (header_line (TooShort n)) result err (rw said at cut)
  header_cut (Foreign fault) said err cut = adds_failed before now old new (header_line (Foreign fault)) result err (rw said at cut)
  header_cut (Framed version frames rest) said err cut =
      adds_cut before now old new (header_line (Framed version frames rest)) (behind frames rest) result err (rw said at cut)

  -- it goes on behind the header's line
  pub header_goes_on : (later : Option (List ℕ)) (mid : List ℕ) (version : Version) (bytes : List ℕ) (reading : FileReading) → head ≡ head_of_file reading → head ≡ Known version → IsReading bytes reading →
      IsUnderway before later mid (old ++ head_line head) → ((frames : List Frame) (rest : List ℕ) → Reads (drop 8 bytes) frames rest → Adds later now mid new (behind frames rest) result) →
      Adds before now old new (file_text behind reading) result
  header_goes_on later mid version bytes (TooShort n) said known is u adds = absurd (let both = sym known ∙ said in cc)
  header_goes_on later mid version bytes (Foreign fault) said known is u adds = absurd (let both = sym known ∙ said in cc)
  header_goes_on later mid version bytes (Framed other frames rest) said known is u adds =
      adds_behind before later now old mid new (header_line (Framed other frames rest)) (behind frames rest) result (rw said at u) (adds frames rest is.2)

-- it ends behind the header's line
pub header_done : (behind : List Frame → List ℕ → List ℕ) (before now : Option (List ℕ)) (old new : List ℕ) (head : FileHead) (later : Option (List ℕ)) (mid : List ℕ) (version : Version) (bytes : List ℕ) (reading : FileReading) →
    head ≡ head_of_file reading → head ≡ Known version → IsReading bytes reading → IsUnderway before later mid (old ++ head_line head) →
    ((frames : List Frame) (rest : List ℕ) → Reads (drop 8 bytes) frames rest → IsUnderway later now new (mid ++ behind frames rest)) → IsUnderway before now new (old ++ file_text behind reading)
header_done behind before now old new head later mid version bytes reading said known is u adds =
    header_goes_on {T = Unit {0}} {E = Unit {0}} behind before now old new (Ok tt) head later mid version bytes reading said known is u adds
