-- What stays in front of a command, without a last one that it covers: of the account, of what waits, and of what the
-- journal knows of its file.
use Rattle.std.proofs.Common.{◌≡◌, ◌⊎◌, ℕ, ◌+◌, ◌-◌, ◌<◌, ◌≤◌, true, false, ◌&&◌, nat_lt, List, [], ◌∷◌, ◌++◌, length, take, Option, Some, None, refl, sym, ap, ◌∙◌, inl, inr, append_assoc, arith}
use Rattle.std.proofs.lemmas.Bool.{cases_Bool}
use Rattle.std.proofs.lemmas.Bool.Decides.{nat_tests}
use Rattle.std.proofs.lemmas.List.{length-append, take_all, take_at}
use Rattle.std.specs.List.{AllByRecursion}
use Rattle.snss_frames.specs.Frame.{frame_bytes}
use Rattle.snss_frames.proofs.FrameLaws.{length-frame}
use Rattle.machine_law.specs.Kind.{Kind, fold}
use Rattle.session_disk.specs.Moments.{Moment}
use Rattle.file_rotation.proofs.FoldLaws.{fold-append}
use Rattle.fresh_files.specs.Fresh.{frame_of, frames, frame_length, fresh, IsWritten}
use Rattle.fresh_files.proofs.CommandLaws.{OfMachine}
use Rattle.log_writer.specs.Account.{Account, covers_last_of, spared}
use Rattle.log_writer.specs.Waiting.{Waiting, covers_last, place_in}
use Rattle.log_writer.specs.Steps.{extent_behind, extent_before}
use Rattle.log_writer.specs.Journals.{EndsAs, JournalRuns}
use Rattle.log_writer.specs.declared.journal.Extent.{Extent}
use Rattle.log_writer.specs.declared.journal.Present.{Present}
use Rattle.log_writer.specs.declared.pending.LastFrame.{LastFrame}
use Rattle.log_writer.proofs.JournalLaws.{frames-append, frames-one}
use Rattle.log_writer.proofs.WaitingLaws.{before_last, last_place, in_front, covered_place, some_covered}

All-front : {X : Type 0} (P : X → Type 0) (xs ys : List X) → AllByRecursion P (xs ++ ys) → AllByRecursion P xs
All-front P [] ys all = tt
All-front P (x ∷ xs) ys all = (all.0, All-front P xs ys all.1)

abbrev pub extent_at : ℕ → ℕ → Extent
extent_at after whole = record { after = after; length = whole }

extent_same : {after whole later longer : ℕ} → after ≡ later → whole ≡ longer → extent_at after whole ≡ extent_at later longer
extent_same e f = λ i. extent_at (e i) (f i)

extent_behind_all : {S : Type 0} (present : Present S) (whole : ℕ) → extent_behind present whole whole ≡ extent_at present.after present.length
extent_behind_all present whole = let none : nat_lt whole whole ≡ false = grind (arith, nat_tests) in rw none refl

extent_behind_last : {S : Type 0} (present : Present S) (whole place : ℕ) → place < whole → extent_behind present whole place ≡ extent_at (present.after - 1) (present.length - (whole - place))
extent_behind_last present whole place less = let before : nat_lt place whole ≡ true = grind (arith, nat_tests) in rw before refl

module _ {S C : Type 0} (kind : Kind S C) where
  covers_last_of-push : (front : List C) (last c : C) → covers_last_of kind (front ++ last ∷ []) c ≡ kind.covers last c
  covers_last_of-push [] last c = refl
  covers_last_of-push (x ∷ []) last c = refl
  covers_last_of-push (x ∷ y ∷ rest) last c = covers_last_of-push (y ∷ rest) last c

  covers_by : (whole : ℕ) (last : Option (LastFrame C)) (a : Account S C) (c : C) → EndsAs kind whole last a → covers_last kind last c ≡ (nat_lt 0 a.late && covers_last_of kind a.kept c)
  covers_by whole None a c ends = sym (rw ends refl)
  covers_by whole (Some last) a c ends =
      let waits : nat_lt 0 a.late ≡ true = (let some = ends.waits in grind (arith, nat_tests)) in
      sym (rw (waits, ends.parts) (covers_last_of-push ends.front last.command c))

  -- a command covers the last one of the account exactly where it covers the last one that waits
  pub covers_same : (w : Waiting C) (a : Account S C) (c : C) → EndsAs kind (length w.bytes) w.last a → covers_last kind w.last c ≡ (nat_lt 0 a.late && covers_last_of kind a.kept c)
  covers_same w a c ends = covers_by (length w.bytes) w.last a c ends

  -- all commands, or all but a last one that is covered
  abbrev pub IsAllButCovered : List C → List C → C → Type 0
  IsAllButCovered all left c = (all ≡ left) ⊎ ((last : C) × (all ≡ left ++ last ∷ []) × (kind.covers last c ≡ true))

  -- the state after the command is the same without what it covers
  pub covered_step : OfMachine kind → (base : S) (all left : List C) (c : C) → IsAllButCovered all left c → kind.step (fold kind base left) c ≡ kind.step (fold kind base all) c
  covered_step of_machine base all left c (inl same) = ap (λ (cs : List C). kind.step (fold kind base cs) c) (sym same)
  covered_step of_machine base all left c (inr but) =
      sym (ap (λ (cs : List C). kind.step (fold kind base cs) c) but.1 ∙ ap (λ (s : S). kind.step s c) (fold-append kind base left (but.0 ∷ []))
      ∙ of_machine.laws.covered (fold kind base left) but.0 c but.2)

  left_written : (all left : List C) (c : C) → IsAllButCovered all left c → AllByRecursion (IsWritten kind) all → AllByRecursion (IsWritten kind) left
  left_written all left c (inl same) written = rw same at written
  left_written all left c (inr but) written = All-front (IsWritten kind) left (but.0 ∷ []) (rw but.1 at written)

  account_same : (a : Account S C) (kept : List C) (late : ℕ) → a.kept ≡ kept → a.late ≡ late → a ≡ record a { kept = kept; late = late }
  account_same a kept late e f = λ i. record a { kept = e i; late = f i }

  -- what a journal knows of a file with these commands
  abbrev pub extent_of : S → List C → Extent
  extent_of base cs = extent_at (length cs) (length (fresh kind base) + length (frames kind cs))

  pub frames-push : (cs : List C) (c : C) → frames kind (cs ++ c ∷ []) ≡ frames kind cs ++ frame_bytes (frame_of kind c)
  frames-push cs c = frames-append kind cs (c ∷ []) ∙ ap (λ (x : List ℕ). frames kind cs ++ x) (frames-one kind c)

  pub length-frames-push : (cs : List C) (c : C) → length (frames kind (cs ++ c ∷ [])) ≡ length (frames kind cs) + frame_length kind c
  length-frames-push cs c = omega (arith, ap length (frames-push cs c), length-append (frames kind cs) (frame_bytes (frame_of kind c)), length-frame (kind.id c) (kind.payload c))

  module _ (m : Moment) (present : Present S) (w : Waiting C) (a : Account S C) (first : S) (q : List C) (r : JournalRuns kind m present w a first q) (c : C) where
    -- What stays: so many of the commands that wait, their frames, and all commands with them.
    pub record Stays : Type 0 where
      pub waiting : List C
      pub is : spared kind a c ≡ record a { kept = r.holds.done ++ waiting; late = length waiting }
      pub within : place_in kind w c ≤ length w.bytes
      pub bytes : take (place_in kind w c) w.bytes ≡ frames kind waiting
      pub extent : extent_before kind present w c ≡ extent_of a.base (r.holds.done ++ waiting)
      pub all_but : IsAllButCovered a.kept (r.holds.done ++ waiting) c

    -- nothing is covered
    all_stay : covers_last kind w.last c ≡ false → Stays
    all_stay none =
        let h = r.holds in
        let kept : spared kind a c ≡ a = (let same = sym (covers_same w a c r.ends) ∙ none in rw same refl) in
        let place : place_in kind w c ≡ length w.bytes = rw none refl in
        record {
          waiting = h.waiting;
          is = kept ∙ account_same a (h.done ++ h.waiting) (length h.waiting) h.parts h.late;
          within = omega (arith, place);
          bytes = ap (λ (n : ℕ). take n w.bytes) place ∙ take_all (length w.bytes) w.bytes (omega arith) ∙ h.waits;
          extent = ap (extent_behind present (length w.bytes)) place ∙ extent_behind_all present (length w.bytes)
              ∙ extent_same (h.after ∙ ap length h.parts) (h.whole ∙ ap (λ (cs : List C). length (fresh kind a.base) + length (frames kind cs)) h.parts);
          all_but = inl h.parts;
        }

    -- the last one is covered
    last_goes : (last : LastFrame C) → w.last ≡ Some last → covers_last kind w.last c ≡ true → Stays
    last_goes last here covers =
        let h = r.holds in
        let (rest, waits) = before_last kind m present w a first q r last here in
        let kept = h.done ++ rest in
        let parts : a.kept ≡ kept ++ last.command ∷ [] =
        h.parts ∙ ap (λ (cs : List C). h.done ++ cs) waits ∙ sym (append_assoc h.done rest (last.command ∷ [])) in
        let size = length-append kept (last.command ∷ []) in
        let without : spared kind a c ≡ record a { kept = take (length a.kept - 1) a.kept; late = a.late - 1 } =
        (let same = sym (covers_same w a c r.ends) ∙ covers in rw same refl) in
        let place = covered_place kind m present w a first q r c last here covers in
        let front = last_place kind m present w a first q r last here in
        let whole : length w.bytes ≡ last.place + frame_length kind last.command =
        omega (arith, front, ap length h.waits, ap (λ (cs : List C). length (frames kind cs)) waits, length-frames-push rest last.command) in
        record {
          waiting = rest;
          is = without
              ∙ account_same (record a { kept = take (length a.kept - 1) a.kept; late = a.late - 1 }) kept (length rest)
              (ap (λ (cs : List C). take (length cs - 1) cs) parts ∙ take_at kept (last.command ∷ []) (length (kept ++ last.command ∷ []) - 1) (omega (arith, size)))
              (omega (arith, h.late, ap length waits, length-append rest (last.command ∷ [])));
          within = omega (arith, place, whole);
          bytes = ap (λ (n : ℕ). take n w.bytes) place ∙ in_front kind m present w a first q r last here;
          extent = ap (extent_behind present (length w.bytes)) place ∙ extent_behind_last present (length w.bytes) last.place (omega (arith, whole))
              ∙ extent_same (omega (arith, h.after, ap length parts, size))
              (omega (arith, h.whole, whole, ap (λ (cs : List C). length (frames kind cs)) parts, length-frames-push kept last.command));
          all_but = inr (last.command, parts, ap (λ (l : Option (LastFrame C)). covers_last kind l c) (sym here) ∙ covers);
        }

    pub stays : Stays
    stays = elim (cases_Bool (covers_last kind w.last c)) [
      | inl covers ↦ (let (last, here) = some_covered kind m present w a first q r c w.last covers in last_goes last here covers)
      | inr none ↦ all_stay none
    ]

    -- what stays can be written, as all could
    pub stays_written : (s : Stays) → AllByRecursion (IsWritten kind) (r.holds.done ++ s.waiting)
    stays_written s = left_written a.kept (r.holds.done ++ s.waiting) c s.all_but r.holds.written
