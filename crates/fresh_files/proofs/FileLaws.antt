-- A file of a restated state and of the commands that came since, cut anywhere: a cut of the restating part is no lawful
-- file, and a longer one is, and folds to the state after a prefix of these commands.
use Rattle.std.proofs.Common.{◌≡◌, ℕ, ◌+◌, ◌<◌, ◌≤◌, List, [], ◌∷◌, ◌++◌, length, take, map, append_assoc, sym, ap, ◌∙◌, subst, arith}
use Rattle.std.proofs.lemmas.List.{length-append, length-take, length-drop, length-map, take-map, take_all, append-nil}
use Rattle.std.specs.List.{AllByRecursion, flat_map}
use Rattle.machine_law.specs.Kind.{Kind, fold}
use Rattle.machine_law.specs.Kind as machine
use Rattle.snss_frames.specs.Header.{header}
use Rattle.snss_frames.specs.Frame.{Frame, IsFrame, frame_bytes, marker}
use Rattle.snss_frames.specs.declared.header.Version.TheVariants.{Three}
use Rattle.snss_frames.proofs.HeaderLaws.{length-header}
use Rattle.file_rotation.specs.Recovery.{IsLawful, AreCommands, FoldsTo}
use Rattle.file_rotation.proofs.WalkLaws.{flat_map-append, All-append}
use Rattle.file_rotation.proofs.MarkedLaws.{marked_prefix, marked_length, IsMarkedFile, Cut, none, some, cut_anywhere, unmarked_frames, folds_marked}
use Rattle.fresh_files.specs.Fresh.{frame_of, frames, fresh, IsWritten, Restates}

module _ {S C : Type 0} (kind : Kind S C) where
  -- every state of a machine is restated where its compaction can be written
  pub restates_from : (IsState : S → Type 0) (IsCommand : C → Type 0) → machine.IsLawful kind IsState IsCommand → (state : S) → IsState state → AllByRecursion (IsWritten kind) (kind.compaction state) → Restates kind state
  restates_from IsState IsCommand laws state is written = record { written = written; unmarked = laws.unmarked state is; folds_back = laws.folds_back state is }

  frames_fit : (commands : List C) → AllByRecursion (IsWritten kind) commands → AllByRecursion IsFrame (map (frame_of kind) commands)
  frames_fit [] h = tt
  frames_fit (c ∷ cs) h = (h.0.fits, frames_fit cs h.1)

  -- the frames of written commands are these commands
  frames_read : (commands : List C) → AllByRecursion (IsWritten kind) commands → AreCommands kind (map (frame_of kind) commands) commands
  frames_read [] h = tt
  frames_read (c ∷ cs) h = (h.0.reads_back, frames_read cs h.1)

module _ {S C : Type 0} (kind : Kind S C) (base : S) where
  -- the bytes of the file
  abbrev pub file : List C → List ℕ
  file kept = fresh kind base ++ frames kind kept

  -- What the first n bytes of it read to: they are lawful, and their frames fold to the state after the first so many
  -- commands. All commands are among these whose frames end within the n bytes.
  pub record ReadsCut (kept : List C) (n : ℕ) : Type 0 where
    pub count : ℕ
    pub within : count ≤ length kept
    pub covers : (k : ℕ) → k ≤ length kept → length (file (take k kept)) ≤ n → k ≤ count
    pub read : List Frame
    pub lawful : IsLawful (take n (file kept)) read
    pub folds : FoldsTo kind read (fold kind base (take count kept))

  -- the frames that restate the state
  abbrev restating : List Frame
  restating = map (frame_of kind) (kind.compaction base)

  prefix_bytes : frames kind (kind.compaction base) ++ frame_bytes marker ≡ flat_map frame_bytes (marked_prefix restating)
  prefix_bytes =
      ap (λ (x : List ℕ). flat_map frame_bytes restating ++ x) (sym (append-nil (frame_bytes marker))) ∙ sym (flat_map-append restating (marker ∷ []))

  file_parts : (kept : List C) → file kept ≡ header Three ++ flat_map frame_bytes (marked_prefix restating ++ map (frame_of kind) kept)
  unfolding fresh
  file_parts kept =
      append_assoc (header Three) (frames kind (kind.compaction base) ++ frame_bytes marker) (frames kind kept)
      ∙ ap (λ (x : List ℕ). header Three ++ (x ++ frames kind kept)) prefix_bytes
      ∙ ap (λ (x : List ℕ). header Three ++ x) (sym (flat_map-append (marked_prefix restating) (map (frame_of kind) kept)))

  length_file : (kept : List C) → length (file kept) ≡ 8 + length (flat_map frame_bytes (marked_prefix restating ++ map (frame_of kind) kept))
  length_file kept =
      let more = flat_map frame_bytes (marked_prefix restating ++ map (frame_of kind) kept) in
      omega (arith, ap length (file_parts kept), length-append (header Three) more, length-header Three)

  length_fresh : length (fresh kind base) ≡ marked_length restating
  length_fresh =
      ap length (sym (append-nil (fresh kind base))) ∙ length_file [] ∙ ap (λ (fs : List Frame). 8 + length (flat_map frame_bytes fs)) (append-nil (marked_prefix restating))

  module _ (IsState : S → Type 0) (IsCommand : C → Type 0) (laws : machine.IsLawful kind IsState IsCommand) (restates : Restates kind base) (kept : List C) (kept_written : AllByRecursion (IsWritten kind) kept) where
    abbrev later : List Frame
    later = map (frame_of kind) kept

    marked_file : IsMarkedFile (file kept) restating later
    marked_file = record {
      written = file_parts kept;
      fits = All-append IsFrame (marked_prefix restating) later
          (All-append IsFrame restating (marker ∷ []) (frames_fit kind (kind.compaction base) restates.written) (record { id = omega arith; payload = omega arith }, tt))
          (frames_fit kind kept kept_written);
      unmarked = unmarked_frames kind restating (kind.compaction base) (frames_read kind (kind.compaction base) restates.written) restates.unmarked;
    }

    -- a lawful cut with the marker has the restating part
    marked_long : (n i : ℕ) → IsLawful (take n (file kept)) (marked_prefix restating ++ take i later) → length (fresh kind base) ≤ n
    marked_long n i l =
        omega (
          arith,
          length_fresh,
          l.file.head,
          ap length l.file.read.whole,
          length-drop 8 (take n (file kept)),
          length-take n (file kept),
          ap length (flat_map-append (marked_prefix restating) (take i later)),
          length-append (flat_map frame_bytes (marked_prefix restating)) (flat_map frame_bytes (take i later)),
          length-append (flat_map frame_bytes (marked_prefix restating ++ take i later)) l.file.rest,
        )

    refused_by : (n : ℕ) → Cut (file kept) restating later n → n < length (fresh kind base) → (fs : List Frame) → IsLawful (take n (file kept)) fs → ⊥
    refused_by n (none refused _) short = refused
    refused_by n (some i _ _ lawful) short = absurd (omega (arith, marked_long n i lawful))

    -- a prefix of the file that ends before the marker does isn't lawful
    pub short_prefix : (n : ℕ) → n < length (fresh kind base) → (fs : List Frame) → IsLawful (take n (file kept)) fs → ⊥
    short_prefix n = refused_by n (cut_anywhere (file kept) restating later marked_file n)

    reads_by : (n : ℕ) → Cut (file kept) restating later n → length (fresh kind base) ≤ n → ReadsCut kept n
    reads_by n (none _ short) long = absurd (omega (arith, length_fresh))
    reads_by n (some i within covers lawful) long = record {
      count = i;
      within = omega (arith, within, length-map kept (frame_of kind));
      covers = λ k small there. covers k (omega (arith, length-map kept (frame_of kind)))
          (omega (arith, there, length_file (take k kept), ap (λ (fs : List Frame). length (flat_map frame_bytes (marked_prefix restating ++ fs))) (take-map (frame_of kind) k kept)));
      read = marked_prefix restating ++ take i later;
      lawful = lawful;
      folds = subst (λ (s : S). FoldsTo kind (marked_prefix restating ++ take i later) (fold kind s (take i kept))) restates.folds_back
          (folds_marked kind IsState IsCommand laws restating later (kind.compaction base) kept laws.has_marker.0 i
          (frames_read kind (kind.compaction base) restates.written) laws.has_marker.1 (frames_read kind kept kept_written));
    }

    -- a longer one is, and reads to the state after the commands up to the cut
    pub long_prefix : (n : ℕ) → length (fresh kind base) ≤ n → ReadsCut kept n
    long_prefix n = reads_by n (cut_anywhere (file kept) restating later marked_file n)

    -- the whole file reads to the state after all of them
    pub whole_file : (n : ℕ) → length (file kept) ≤ n → (r : ReadsCut kept n) → r.count ≡ length kept
    whole_file n long r =
        let all : take (length kept) kept ≡ kept = take_all (length kept) kept (omega arith) in
        omega (arith, r.within, r.covers (length kept) (omega arith) (omega (arith, ap (λ (cs : List C). length (file cs)) all)))

-- the file of a restated state alone
module _ {S C : Type 0} (kind : Kind S C) (IsState : S → Type 0) (IsCommand : C → Type 0) (laws : machine.IsLawful kind IsState IsCommand)
    (base : S) (restates : Restates kind base) where
  -- no shorter prefix of it is lawful
  pub fresh_short : (n : ℕ) → n < length (fresh kind base) → (fs : List Frame) → IsLawful (take n (fresh kind base)) fs → ⊥
  fresh_short n short fs l = short_prefix kind base IsState IsCommand laws restates [] tt n short fs (rw (sym (append-nil (fresh kind base))) at l)

  -- all of it is, and reads to the very state
  pub fresh_reads : (fs : List Frame) × IsLawful (fresh kind base) fs × FoldsTo kind fs base
  fresh_reads =
      let r = long_prefix kind base IsState IsCommand laws restates [] tt (length (fresh kind base)) (omega arith) in
      let all : take (length (fresh kind base)) (file kind base []) ≡ fresh kind base =
      ap (take (length (fresh kind base))) (append-nil (fresh kind base)) ∙ take_all (length (fresh kind base)) (fresh kind base) (omega arith) in
      let nothing : List C = [] in
      let left : take r.count nothing ≡ nothing = take_all r.count nothing (omega arith) in
      (r.read, rw all at r.lawful, rw left at r.folds)
