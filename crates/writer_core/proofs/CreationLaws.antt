-- How many files a run makes, where its commands fit into one file: no length makes a rotation due, so each comes when
-- as many commands stand after the marker as may, and none of these is counted for another rotation.
use Rattle.std.proofs.Common.{◌≡◌, ℕ, zero, suc, ◌+◌, ◌-◌, ◌*◌, ◌/◌, ◌≤◌, Bool, true, false, ◌&&◌, if◌then◌else◌, nat_lt, List, [], ◌∷◌, ◌++◌, length, take, Option, append_assoc, append-nil, suc-mul, refl, sym, ap, ◌∙◌, subst, inl, inr, arith}
use Rattle.std.proofs.lemmas.Bool.{cases_Bool}
use Rattle.std.proofs.lemmas.Bool.Decides.{nat_tests}
use Rattle.std.proofs.lemmas.List.{length-append, take_at}
use Rattle.std.proofs.lemmas.Nat.{le-div}
use Rattle.machine_law.specs.Kind.{Kind, fold}
use Rattle.file_rotation.proofs.FoldLaws.{fold-append}
use Rattle.fresh_files.specs.Fresh.{fresh, frames, frame_length}
use Rattle.fresh_files.proofs.CommandLaws.{OfMachine}
use Rattle.log_writer.specs.Account.{Account, Outcome, Becomes, Needs, pending_room, covers_last_of, state_of, length_of, waiting_of, spared, restated, is_due_at, is_due, behind_all, rotated, extended, written, compacted, opened, synced}
use Rattle.log_writer.proofs.DueLaws.{written_due, written_not_due}
use Rattle.log_writer.proofs.JournalLaws.{frames-append}
use Rattle.log_writer.proofs.SparedLaws.{IsAllButCovered, covered_step, length-frames-push}
use Rattle.writer_core.specs.Course.{Options, Course, Goes, TooLong, LastStamp, after_outcome, from_account, after_jobs, course_of, meets_last}
use Rattle.writer_core.specs.Creations.{AllFit, compactions, compactions_of}
use Rattle.writer_core.specs.Jobs.{commands, commands_of}
use Rattle.writer_core.specs.Working.{Beginning, course}
use Rattle.writer_core.specs.declared.item.Job.{Job}
use Rattle.writer_core.specs.declared.item.Job.TheVariants as job
use Rattle.writer_core.proofs.CourseLaws.{within_is, stays_last, stays_long}

-- a rotation that comes without want of room comes by the number of commands
due_by_count : (every max_file after whole frame : ℕ) → whole + frame ≤ max_file → is_due_at every max_file after whole frame ≡ true → every ≤ after
due_by_count every max_file after whole frame fits due = grind (arith, nat_tests)

both_true : (s t : Bool) → (s && t) ≡ true → t ≡ true
both_true true t e = e
both_true false t e = absurd cc

module _ {S C : Type 0} (kind : Kind S C) where
  -- the last of some commands, where it is covered
  record EndsCovered (cs : List C) (c : C) : Type 0 where
    front : List C
    last : C
    parts : cs ≡ front ++ last ∷ []
    covers : kind.covers last c ≡ true

  ends_covered : (cs : List C) (c : C) → covers_last_of kind cs c ≡ true → EndsCovered cs c
  ends_covered [] c e = absurd cc
  ends_covered (last ∷ []) c e = record { front = []; last = last; parts = refl; covers = e }
  ends_covered (x ∷ y ∷ rest) c e =
      let ends = ends_covered (y ∷ rest) c e in
      record { front = x ∷ ends.front; last = ends.last; parts = ap (λ (cs : List C). x ∷ cs) ends.parts; covers = ends.covers }

  -- an account without a last command that the next one covers
  record IsSpared (a : Account S C) (c : C) : Type 0 where
    kept : List C
    late : ℕ
    is : spared kind a c ≡ record a { kept = kept; late = late }
    all_but : IsAllButCovered kind a.kept kept c

  is_spared : (a : Account S C) (c : C) → IsSpared a c
  is_spared a c = by_cover (nat_lt 0 a.late && covers_last_of kind a.kept c) refl
    where
      by_cover : (t : Bool) → (nat_lt 0 a.late && covers_last_of kind a.kept c) ≡ t → IsSpared a c
      by_cover true e =
          let ends = ends_covered a.kept c (both_true (nat_lt 0 a.late) (covers_last_of kind a.kept c) e) in
          let size = length-append ends.front (ends.last ∷ []) in
          let front : take (length a.kept - 1) a.kept ≡ ends.front =
          ap (λ (cs : List C). take (length cs - 1) cs) ends.parts ∙ take_at ends.front (ends.last ∷ []) (length (ends.front ++ ends.last ∷ []) - 1) (omega (arith, size)) in
          record {
            kept = ends.front;
            late = a.late - 1;
            is = ap (λ (t : Bool). if t then record a { kept = take (length a.kept - 1) a.kept; late = a.late - 1 } else a) e ∙ ap (λ (cs : List C). record a { kept = cs; late = a.late - 1 }) front;
            all_but = inr (ends.last, ends.parts, ends.covers);
          }
      by_cover false e = record {
        kept = a.kept;
        late = a.late;
        is = ap (λ (t : Bool). if t then record a { kept = take (length a.kept - 1) a.kept; late = a.late - 1 } else a) e;
        all_but = inl refl;
      }

  -- what stays isn't more
  no_more : (cs left : List C) (c : C) → IsAllButCovered kind cs left c → (length left ≤ length cs) × (length (frames kind left) ≤ length (frames kind cs))
  no_more cs left c (inl same) = (omega (arith, ap length same), omega (arith, ap (λ (x : List C). length (frames kind x)) same))
  no_more cs left c (inr but) = (
    omega (arith, ap length but.1, length-append left (but.0 ∷ [])),
    omega (arith, ap (λ (x : List C). length (frames kind x)) but.1, length-frames-push kind left but.0),
  )

  -- the outcome with which a course goes on
  goes_becomes : (options : Options) (greatest : Option ℕ) (made : ℕ) (outcome : Outcome S C) (next : Account S C) → after_outcome kind options greatest made outcome ≡ Goes next → outcome ≡ Becomes next
  goes_becomes options greatest made (Needs n) next e = absurd cc
  goes_becomes options greatest made (Becomes a) next e = by_last (nat_lt made a.made && meets_last greatest made) e
    where
      by_last : (t : Bool) → (if◌then◌else◌ {A = Course S C} t LastStamp (Goes a)) ≡ Goes next → Becomes a ≡ Becomes next
      by_last true e = absurd cc
      by_last false e = cc

  -- a course that goes at its end went before it
  goes_before : (options : Options) (greatest : Option ℕ) (jobs : List (Job C)) (x : Course S C) (next : Account S C) → after_jobs kind options greatest jobs x ≡ Goes next → (mid : Account S C) × (x ≡ Goes mid)
  goes_before options greatest jobs (Goes mid) next e = (mid, refl)
  goes_before options greatest jobs (TooLong n) next e = absurd (let stuck = stays_long kind options greatest jobs n in cc)
  goes_before options greatest jobs LastStamp next e = absurd (let stuck = stays_last kind options greatest jobs in cc)

  -- All commands of a run fit into one file, whatever of them it restates.
  module _ (of_machine : OfMachine kind) (options : Options) (greatest : Option ℕ) (first : S) (all : List C) (fit : AllFit kind first all options.max_file) where
    -- An account of the first of them and of so many compactions. Each of its rotations has `every` commands of its own,
    -- and none of these is kept any more.
    record MadeFew (q : List C) (asked : ℕ) (a : Account S C) : Type 0 where
      state : state_of kind a ≡ fold kind first q
      place : ℕ
      base : a.base ≡ fold kind first (take place all)
      short : length (frames kind a.kept) ≤ length (frames kind q)
      rotations : ℕ
      made : a.made ≡ 1 + asked + rotations
      left : rotations * options.every + length a.kept ≤ length q

    folds_push : (q : List C) (asked : ℕ) (a : Account S C) (c : C) → MadeFew q asked a → kind.step (state_of kind a) c ≡ fold kind first (q ++ c ∷ [])
    folds_push q asked a c m = ap (λ (s : S). kind.step s c) m.state ∙ sym (fold-append kind first q (c ∷ []))

    -- a state that is restated
    restates_front : (q rest : List C) (asked : ℕ) (a : Account S C) → all ≡ q ++ rest → MadeFew q asked a → state_of kind a ≡ fold kind first (take (length q) all)
    restates_front q rest asked a parts m = m.state ∙ ap (fold kind first) (sym (ap (take (length q)) parts ∙ take_at q rest (length q) refl))

    -- the command and what stays before it fit into the file
    frames_fit : (q rest : List C) (asked : ℕ) (a : Account S C) (c : C) → all ≡ q ++ c ∷ rest → MadeFew q asked a → (s : IsSpared a c) → length_of kind (spared kind a c) + frame_length kind c ≤ options.max_file
    frames_fit q rest asked a c parts m s =
        let whole : all ≡ (q ++ c ∷ []) ++ rest = parts ∙ sym (append_assoc q (c ∷ []) rest) in
        let restated = ap (λ (x : S). length (fresh kind x)) m.base in
        omega (
          arith,
          fit m.place,
          restated,
          m.short,
          (no_more a.kept s.kept c s.all_but).1,
          ap (length_of kind) s.is,
          length-frames-push kind q c,
          ap (λ (x : List C). length (frames kind x)) whole,
          ap length (frames-append kind (q ++ c ∷ []) rest),
          length-append (frames kind (q ++ c ∷ [])) (frames kind rest),
        )

    -- one command
    few_rotated : (q rest : List C) (asked : ℕ) (a next : Account S C) (c : C) → all ≡ q ++ c ∷ rest → MadeFew q asked a → is_due kind options.every options.max_file a c ≡ true → rotated kind options.max_file a c ≡ Becomes next → MadeFew (q ++ c ∷ []) asked next
    few_rotated q rest asked a next c parts m due e =
        let fresh_one : Account S C = record { base = state_of kind a; kept = c ∷ []; late = 1; made = suc a.made } in
        let needed = length (fresh kind (state_of kind a)) + frame_length kind c in
        let is : next ≡ fresh_one = within_is kind options.max_file needed next fresh_one (nat_lt options.max_file needed) e in
        let s = is_spared a c in
        let fits = frames_fit q rest asked a c parts m s in
        let enough = due_by_count options.every options.max_file (length (spared kind a c).kept) (length_of kind (spared kind a c)) (frame_length kind c) fits due in
        subst (MadeFew (q ++ c ∷ []) asked) (sym is)
        (record {
          state = folds_push q asked a c m;
          place = length q;
          base = restates_front q (c ∷ rest) asked a parts m;
          short = omega (arith, length-frames-push kind q c, length-frames-push kind [] c);
          rotations = suc m.rotations;
          made = omega (arith, m.made);
          left = omega (arith, m.left, enough, suc-mul m.rotations options.every, ap (λ (x : Account S C). length x.kept) s.is, (no_more a.kept s.kept c s.all_but).0, length-append q (c ∷ []));
        })

    few_extended : (q : List C) (asked : ℕ) (a next : Account S C) (c : C) → MadeFew q asked a → extended kind options.max_file a c ≡ Becomes next → MadeFew (q ++ c ∷ []) asked next
    few_extended q asked a next c m e =
        let rest = spared kind a c in
        let late = if nat_lt pending_room (length (frames kind (waiting_of kind rest)) + frame_length kind c) then 1 else rest.late + 1 in
        let needed = length_of kind rest + frame_length kind c in
        let s = is_spared a c in
        let stays = no_more a.kept s.kept c s.all_but in
        let is : next ≡ behind_all kind (record a { kept = s.kept; late = s.late }) c late =
        within_is kind options.max_file needed next (behind_all kind rest c late) (nat_lt options.max_file needed) e ∙ ap (λ (x : Account S C). behind_all kind x c late) s.is in
        subst (MadeFew (q ++ c ∷ []) asked) (sym is)
        (record {
          state = fold-append kind a.base s.kept (c ∷ []) ∙ covered_step kind of_machine a.base a.kept s.kept c s.all_but ∙ folds_push q asked a c m;
          place = m.place;
          base = m.base;
          short = omega (arith, m.short, stays.1, length-frames-push kind q c, length-frames-push kind s.kept c);
          rotations = m.rotations;
          made = m.made;
          left = omega (arith, m.left, stays.0, length-append s.kept (c ∷ []), length-append q (c ∷ []));
        })

    few_written : (q rest : List C) (asked : ℕ) (a next : Account S C) (c : C) → all ≡ q ++ c ∷ rest → MadeFew q asked a → written kind options.every options.max_file a c ≡ Becomes next → MadeFew (q ++ c ∷ []) asked next
    few_written q rest asked a next c parts m e = elim (cases_Bool (is_due kind options.every options.max_file a c)) [
      | inl due ↦ few_rotated q rest asked a next c parts m due (written_due kind options.every options.max_file a c due ∙ e)
      | inr none ↦ few_extended q asked a next c m (written_not_due kind options.every options.max_file a c none ∙ e)
    ]

    -- one compaction, a sync, and no job
    few_compacted : (q rest : List C) (asked : ℕ) (a next : Account S C) → all ≡ q ++ rest → MadeFew q asked a → compacted kind options.max_file a ≡ Becomes next → MadeFew q (asked + 1) next
    few_compacted q rest asked a next parts m e =
        let fresh_one = restated kind (state_of kind a) (suc a.made) in
        let needed = length (fresh kind (state_of kind a)) in
        let is : next ≡ fresh_one = within_is kind options.max_file needed next fresh_one (nat_lt options.max_file needed) e in
        subst (MadeFew q (asked + 1)) (sym is)
        (record {
          state = m.state;
          place = length q;
          base = restates_front q rest asked a parts m;
          short = omega arith;
          rotations = m.rotations;
          made = omega (arith, m.made);
          left = omega (arith, m.left);
        })

    few_synced : (q : List C) (asked : ℕ) (a : Account S C) → MadeFew q asked a → MadeFew q asked (synced kind a)
    few_synced q asked a m = record { state = m.state; place = m.place; base = m.base; short = m.short; rotations = m.rotations; made = m.made; left = m.left }

    none_more : (q : List C) (asked : ℕ) (a : Account S C) → MadeFew q asked a → MadeFew (q ++ []) (asked + 0) a
    none_more q asked a m = subst (λ (x : List C). MadeFew x (asked + 0) a) (sym (append-nil q)) (subst (λ (n : ℕ). MadeFew q n a) (let same : asked ≡ asked + 0 = omega arith in same) m)

    -- the opening
    few_opened : (next : Account S C) → opened kind options.max_file first ≡ Becomes next → MadeFew [] 0 next
    few_opened next e =
        let needed = length (fresh kind first) in
        subst (MadeFew [] 0) (sym (within_is kind options.max_file needed next (restated kind first 1) (nat_lt options.max_file needed) e))
        (record { state = refl; place = 0; base = refl; short = omega arith; rotations = 0; made = refl; left = omega arith })

    -- one job
    few_job : (todo : Job C) (q rest : List C) (asked : ℕ) (a next : Account S C) → all ≡ q ++ (commands_of todo ++ rest) → MadeFew q asked a → from_account kind options greatest todo a ≡ Goes next → MadeFew (q ++ commands_of todo) (asked + compactions_of todo) next
    few_job (job.Write c) q rest asked a next parts m e =
        subst (λ (n : ℕ). MadeFew (q ++ c ∷ []) n next) (let same : asked ≡ asked + 0 = omega arith in same)
        (few_written q rest asked a next c parts m (goes_becomes options greatest a.made (written kind options.every options.max_file a c) next e))
    few_job job.Sync q rest asked a next parts m e = none_more q asked next (subst (MadeFew q asked) (let is : synced kind a ≡ next = cc in is) (few_synced q asked a m))
    few_job job.Compact q rest asked a next parts m e =
        subst (λ (x : List C). MadeFew x (asked + 1) next) (sym (append-nil q))
        (few_compacted q rest asked a next parts m (goes_becomes options greatest a.made (compacted kind options.max_file a) next e))
    few_job job.Nothing q rest asked a next parts m e = none_more q asked next (subst (MadeFew q asked) (let is : a ≡ next = cc in is) m)

    -- jobs one after another
    few_jobs : (jobs : List (Job C)) (q : List C) (asked : ℕ) (a next : Account S C) → all ≡ q ++ commands jobs → MadeFew q asked a → after_jobs kind options greatest jobs (Goes a) ≡ Goes next → MadeFew all (asked + compactions jobs) next
    few_jobs [] q asked a next parts m e =
        subst (λ (x : List C). MadeFew x (asked + 0) next) (sym parts) (none_more q asked next (subst (MadeFew q asked) (let is : a ≡ next = cc in is) m))
    few_jobs (todo ∷ later) q asked a next parts m e =
        let (mid, here) = goes_before options greatest later (from_account kind options greatest todo a) next e in
        subst (λ (n : ℕ). MadeFew all n next) (let same : asked + compactions_of todo + compactions later ≡ asked + (compactions_of todo + compactions later) = omega arith in same)
        (few_jobs later (q ++ commands_of todo) (asked + compactions_of todo) mid next (parts ∙ sym (append_assoc q (commands_of todo) (commands later))) (few_job todo q (commands later) asked a mid parts m here)
        (ap (after_jobs kind options greatest later) (sym here) ∙ e))

    -- all jobs of a run
    few_course : (jobs : List (Job C)) (a : Account S C) → all ≡ commands jobs → course_of kind options greatest first jobs ≡ Goes a → MadeFew all (compactions jobs) a
    few_course jobs a parts e =
        let (mid, here) = goes_before options greatest jobs (after_outcome kind options greatest zero (opened kind options.max_file first)) a e in
        subst (λ (n : ℕ). MadeFew all n a) (let same : 0 + compactions jobs ≡ compactions jobs = omega arith in same)
        (few_jobs jobs [] 0 mid a parts (few_opened mid (goes_becomes options greatest zero (opened kind options.max_file first) mid here)) (ap (after_jobs kind options greatest jobs) (sym here) ∙ e))

  -- where the commands of a run fit into one file, how many files it makes
  pub creations_few : OfMachine kind → (b : Beginning S) (jobs : List (Job C)) (a : Account S C) → 1 ≤ b.options.every → course kind b jobs ≡ Goes a → AllFit kind b.first (commands jobs) b.options.max_file →
      a.made ≤ 1 + compactions jobs + length (commands jobs) / b.options.every
  creations_few of_machine b jobs a some e fit =
      let m = few_course of_machine b.options b.greatest b.first (commands jobs) fit jobs a refl e in
      let within = le-div m.rotations (length (commands jobs)) b.options.every some (omega (arith, m.left)) in
      omega (arith, m.made, within)
