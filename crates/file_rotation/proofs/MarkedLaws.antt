-- A written file of version 3 whose marker stands behind some first frames, cut anywhere: before the marker's end it isn't
-- lawful, from there on it reads to the first frames, the marker, and a prefix of what follows.
use Rattle.std.proofs.Common.{◌≡◌, ℕ, ◌+◌, ◌-◌, ◌<◌, ◌≤◌, suc, List, [], ◌∷◌, ◌++◌, length, take, drop, Ok, Contains, sym, ap, ◌∙◌, subst, inl, inr, arith}
use Rattle.std.proofs.lemmas.Bool.{cases_lt}
use Rattle.std.proofs.lemmas.List.{length-append, length-take, take_all, take-append-le, take-append-drop}
use Rattle.std.proofs.lemmas.List.Elements.{Contains-append_left, Contains-append_cases, Contains-push, Contains-push_cases}
use Rattle.std.proofs.Math.Seq.{take-append-add}
use Rattle.std.specs.List.{AllByRecursion, flat_map}
use Rattle.machine_law.specs.Kind as law
use Rattle.machine_law.specs.Kind.{Kind, fold, IsMarker}
use Rattle.snss_frames.specs.Header.{header, header_of}
use Rattle.snss_frames.specs.Frame.{Frame, IsFrame, frame_bytes, marker}
use Rattle.snss_frames.specs.Reading.{Reads}
use Rattle.snss_frames.specs.declared.header.Version.{Version}
use Rattle.snss_frames.specs.declared.header.Version.TheVariants.{One, Three}
use Rattle.snss_frames.proofs.HeaderLaws.{header_of-header, length-header, take-header, drop-header}
use Rattle.snss_frames.proofs.ReadingLaws.{reading_cut, one_reading, CutReading}
use Rattle.file_rotation.specs.Recovery.{IsMarked, IsLawful, AreCommands, FoldsTo}
use Rattle.file_rotation.proofs.FoldLaws.{fold-append, AreCommands-append}
use Rattle.file_rotation.proofs.ExtensionLaws.{folds_extended}

-- the frames up to the marker
abbrev pub marked_prefix : List Frame → List Frame
marked_prefix before = before ++ marker ∷ []

pub record IsMarkedFile (bytes : List ℕ) (before after : List Frame) : Type 0 where
  pub written : bytes ≡ header Three ++ flat_map frame_bytes (marked_prefix before ++ after)
  pub fits : AllByRecursion IsFrame (marked_prefix before ++ after)
  pub unmarked : Contains before marker → ⊥

-- the bytes of such a file up to the end of its marker
abbrev pub marked_length : List Frame → ℕ
marked_length before = 8 + length (flat_map frame_bytes (marked_prefix before))

-- the first n bytes
pub data Cut (bytes : List ℕ) (before after : List Frame) (n : ℕ) : Type 0 where
  none : ((fs : List Frame) → IsLawful (take n bytes) fs → ⊥) → n < marked_length before → Cut bytes before after n
  some : (i : ℕ) → i ≤ length after → ((k : ℕ) → k ≤ length after → 8 + length (flat_map frame_bytes (marked_prefix before ++ take k after)) ≤ n → k ≤ i) →
      IsLawful (take n bytes) (marked_prefix before ++ take i after) → Cut bytes before after n

marked_three : (version : Version) (fs : List Frame) → version ≡ Three → IsMarked version fs → Contains fs marker
marked_three One fs e h = absurd cc
marked_three Three fs e h = h

module _ (bytes : List ℕ) (before after : List Frame) (file : IsMarkedFile bytes before after) where
  abbrev all : List Frame
  all = marked_prefix before ++ after

  length-prefix : length (marked_prefix before) ≡ suc (length before)
  length-prefix = omega (arith, length-append before (marker ∷ []))

  length-all : length all ≡ suc (length before) + length after
  length-all = omega (arith, length-append (marked_prefix before) after, length-prefix)

  length-bytes : length bytes ≡ 8 + length (flat_map frame_bytes all)
  length-bytes = omega (arith, ap length file.written, length-append (header Three) (flat_map frame_bytes all), length-header Three)

  -- a prefix of eight bytes or more is the header and a prefix of the frames
  parts : (m : ℕ) → take (8 + m) bytes ≡ header Three ++ take m (flat_map frame_bytes all)
  parts m = ap (take (8 + m)) file.written ∙ (rw (length-header Three) at (take-append-add (header Three) (flat_map frame_bytes all) m))

  body : (m : ℕ) → drop 8 (take (8 + m) bytes) ≡ take m (flat_map frame_bytes all)
  body m = ap (drop 8) (parts m) ∙ drop-header Three (take m (flat_map frame_bytes all))

  said : (m : ℕ) → header_of (take 8 (take (8 + m) bytes)) ≡ Ok Three
  said m = ap header_of (ap (take 8) (parts m) ∙ take-header Three (take m (flat_map frame_bytes all))) ∙ header_of-header Three

  -- a lawful prefix has the marker among the frames that it reads to
  prefix_marked : (m : ℕ) (fs gs : List Frame) (rest : List ℕ) → Reads (take m (flat_map frame_bytes all)) gs rest → IsLawful (take (8 + m) bytes) fs → Contains gs marker
  prefix_marked m fs gs rest reads lawful =
      let same = one_reading (take m (flat_map frame_bytes all)) fs gs lawful.file.rest rest (rw (body m) at lawful.file.read) reads in
      rw same.0 at (marked_three lawful.version fs (let is = said m in let says = lawful.file.said in cc) lawful.marked)

  -- fewer frames than up to the marker are without it
  few_unmarked : (count : ℕ) → count ≤ length before → Contains (take count all) marker → ⊥
  few_unmarked count few h =
      let short : take count all ≡ take count before =
      take-append-le count (marked_prefix before) after (omega (arith, length-prefix)) ∙ take-append-le count before (marker ∷ []) few in
      let here = rw short at h in
      file.unmarked (rw (sym (take-append-drop count before)) (Contains-append_left (take count before) (drop count before) marker here))

  prefix_frames : take (length (marked_prefix before)) all ≡ marked_prefix before
  prefix_frames = take-append-le (length (marked_prefix before)) (marked_prefix before) after (omega arith) ∙ take_all (length (marked_prefix before)) (marked_prefix before) (omega arith)

  few_short : (m : ℕ) (cut : CutReading all m) → cut.count ≤ length before → 8 + m < marked_length before
  few_short m cut few =
      elim (cases_lt (8 + m) (marked_length before)) [
        | inl less ↦ less
        | inr enough ↦
            let covered : length (marked_prefix before) ≤ cut.count =
            cut.covers (length (marked_prefix before)) (omega (arith, length-append (marked_prefix before) after)) (rw prefix_frames (omega arith)) in
            absurd (omega (arith, length-prefix))
      ]

  later_frames : (i : ℕ) → take (length (marked_prefix before) + i) all ≡ marked_prefix before ++ take i after
  later_frames i = take-append-add (marked_prefix before) after i

  long_cut : (m i : ℕ) (cut : CutReading all m) → cut.count ≡ length (marked_prefix before) + i → Cut bytes before after (8 + m)
  long_cut m i cut e =
      let frames : take cut.count all ≡ marked_prefix before ++ take i after = ap (λ (n : ℕ). take n all) e ∙ later_frames i in
      some i (omega (arith, cut.within, length-append (marked_prefix before) after))
      (λ k small there.
      let covered : length (marked_prefix before) + k ≤ cut.count =
      cut.covers (length (marked_prefix before) + k) (omega (arith, length-append (marked_prefix before) after)) (rw (later_frames k) (omega arith)) in
      omega arith)
      (record {
        version = Three;
        file = record {
          head = omega (arith, ap length (parts m), length-append (header Three) (take m (flat_map frame_bytes all)), length-header Three);
          said = said m;
          rest = cut.rest;
          read = rw (body m, sym frames) cut.reads;
        };
        marked = Contains-append_left (marked_prefix before) (take i after) marker (Contains-push before marker);
      })

  cut_behind : (m : ℕ) → Cut bytes before after (8 + m)
  cut_behind m =
      let cut = reading_cut all m file.fits in
      elim (cases_lt (length before) cut.count) [
        | inl marked ↦ long_cut m (cut.count - length (marked_prefix before)) cut (omega (arith, length-prefix))
        | inr few ↦ none (λ fs lawful. few_unmarked cut.count few (prefix_marked m fs (take cut.count all) cut.rest cut.reads lawful)) (few_short m cut few)
      ]

  pub cut_anywhere : (n : ℕ) → Cut bytes before after n
  cut_anywhere n =
      elim (cases_lt n 8) [
        | inl short ↦ none (λ fs lawful. let head = lawful.file.head in omega (arith, length-take n bytes)) (omega arith)
        | inr enough ↦ (let split : 8 + (n - 8) ≡ n = omega arith in rw split at (cut_behind (n - 8)))
      ]

module _ {S C : Type 0} (kind : Kind S C) where
  -- commands without a marker are frames without it
  pub unmarked_frames : (frames : List Frame) (commands : List C) → AreCommands kind frames commands → AllByRecursion (λ command. IsMarker kind command → ⊥) commands → Contains frames marker → ⊥
  unmarked_frames [] commands are unmarked h = omega (arith, h.1)
  unmarked_frames (f ∷ frames) [] are unmarked h = are
  unmarked_frames (f ∷ frames) (c ∷ commands) are unmarked h =
      elim (Contains-append_cases (f ∷ []) frames marker h) [
        | inl first ↦ elim (Contains-push_cases [] f marker first) [
          | inl nothing ↦ absurd (omega (arith, nothing.1))
          | inr same ↦ unmarked.0 (subst (λ (x : Frame). kind.Payload x.id c x.payload) same are.0)
        ]
        | inr later ↦ unmarked_frames frames commands are.1 unmarked.1 later
      ]

  -- such a file, cut behind its marker, folds to the state of the first commands, stepped by a prefix of the later ones
  pub folds_marked : (IsState : S → Type 0) (IsCommand : C → Type 0) → law.IsLawful kind IsState IsCommand → (before after : List Frame) (first later : List C) (mark : C) (i : ℕ) →
      AreCommands kind before first → IsMarker kind mark → AreCommands kind after later → FoldsTo kind (marked_prefix before ++ take i after) (fold kind (fold kind kind.start first) (take i later))
  folds_marked IsState IsCommand laws before after first later mark i are is are_later =
      let prefix : AreCommands kind (marked_prefix before) (first ++ mark ∷ []) = AreCommands-append kind before (marker ∷ []) first (mark ∷ []) are (is, tt) in
      let state : fold kind kind.start first ≡ fold kind kind.start (first ++ mark ∷ []) =
      sym (laws.marker (fold kind kind.start first) mark is) ∙ sym (fold-append kind kind.start first (mark ∷ [])) in
      folds_extended kind (marked_prefix before) after (fold kind kind.start first) later i (first ++ mark ∷ [], prefix, state) are_later
