-- The outcome of a command for which there is room: as the journal is, when what waits was appended, or behind a fresh
-- file.
use Rattle.std.proofs.Common.{◌≡◌, ℕ, suc, ◌+◌, ◌-◌, ◌<◌, ◌≤◌, Bool, true, false, ◌&&◌, if◌then◌else◌, nat_lt, List, [], ◌++◌, length, take, drop, Option, Result, refl, subst, sym, ap, ◌∙◌, arith}
use Rattle.std.proofs.lemmas.Bool.Decides.{nat_tests}
use Rattle.std.proofs.lemmas.List.{append-nil, length-append, length-take-le, drop_at}
use Rattle.machine_law.specs.Kind.{Kind}
use Rattle.session_disk.specs.Moments.{Moment, after_append}
use Rattle.fresh_files.specs.Fresh.{fresh, frames, frame_length}
use Rattle.log_writer.specs.Account.{Account, Outcome, Becomes, pending_room, covers_last_of, state_of, length_of, waiting_of, spared, restated, within, synced, added, extended, rotated, written}
use Rattle.log_writer.specs.Account as account
use Rattle.log_writer.specs.Waiting.{Waiting, behind, covers_last, place_in}
use Rattle.log_writer.specs.Steps.{extent_before}
use Rattle.log_writer.specs.Journals.{JournalRuns, JournalAdvances, HasRoom, JournalMakesRoom}
use Rattle.log_writer.specs.declared.journal.Extent.{Extent}
use Rattle.log_writer.specs.declared.journal.Present.{Present}
use Rattle.log_writer.specs.declared.fault.First.{First}
use Rattle.log_writer.specs.declared.fault.JournalFault.{JournalFault}
use Rattle.log_writer.proofs.RefusalLaws.{within_limit}
use Rattle.log_writer.proofs.WaitingLaws.{appended_covered, appended_uncovered}
use Rattle.log_writer.proofs.SparedLaws.{stays, covers_same, extent_at}

and_right : (b c : Bool) → (b && c) ≡ true → c ≡ true
and_right true c e = e
and_right false c e = absurd (let no = e in cc)

module _ {S C : Type 0} (kind : Kind S C) where
  -- how many wait behind a command, where the outcome is within the limit
  extended_as : (max_file : ℕ) (rest : Account S C) (c : C) (waits late : ℕ) (passes : Bool) → nat_lt pending_room (waits + frame_length kind c) ≡ passes → (if passes then 1 else rest.late + 1) ≡ late →
      length_of kind rest + frame_length kind c ≤ max_file →
      within kind max_file (length_of kind rest + frame_length kind c) (account.behind_all kind rest c (if nat_lt pending_room (waits + frame_length kind c) then 1 else rest.late + 1)) ≡ Becomes (account.behind_all kind rest c late)
  extended_as max_file rest c waits late passes e f small =
      within_limit kind max_file _ _ small ∙ ap (λ (b : Bool). Becomes (account.behind_all kind rest c (if b then 1 else rest.late + 1))) e ∙ ap (λ (n : ℕ). Becomes (account.behind_all kind rest c n)) f

  module _ (m : Moment) (present : Present S) (w : Waiting C) (a : Account S C) (first : S) (q : List C) (r : JournalRuns kind m present w a first q) (c : C) where
    -- what the journal knows without what is covered, by the account
    pub extent_known : extent_before kind present w c ≡ extent_at (length (spared kind a c).kept) (length_of kind (spared kind a c))
    extent_known =
        let s = stays kind m present w a first q r c in
        s.extent ∙ ap (λ (x : Account S C). extent_at (length x.kept) (length_of kind x)) (sym s.is)

    pub length_before : (extent_before kind present w c).length ≡ length_of kind (spared kind a c)
    length_before = ap (λ (e : Extent). e.length) extent_known

    -- as many bytes wait in front of the command as its place says
    waits_before : length (frames kind (waiting_of kind (spared kind a c))) ≡ place_in kind w c
    waits_before =
        let s = stays kind m present w a first q r c in
        let done = r.holds.done in
        let late : drop (length (done ++ s.waiting) - length s.waiting) (done ++ s.waiting) ≡ s.waiting =
        drop_at done s.waiting (length (done ++ s.waiting) - length s.waiting) (omega (arith, length-append done s.waiting)) in
        ap (λ (x : Account S C). length (frames kind (waiting_of kind x))) s.is ∙ ap (λ (cs : List C). length (frames kind cs)) late
        ∙ ap length (sym s.bytes) ∙ length-take-le (place_in kind w c) w.bytes s.within

    length_known : (max_file : ℕ) → (extent_before kind present w c).length + frame_length kind c ≤ max_file → length_of kind (spared kind a c) + frame_length kind c ≤ max_file
    length_known max_file small = omega (arith, small, length_before)

    waits_passes : (passes : Bool) → nat_lt pending_room (place_in kind w c + frame_length kind c) ≡ passes → nat_lt pending_room (length (frames kind (waiting_of kind (spared kind a c))) + frame_length kind c) ≡ passes
    waits_passes passes e = ap (λ (n : ℕ). nat_lt pending_room (n + frame_length kind c)) waits_before ∙ e

    -- a command for which there is room waits with the others
    pub room_for : (max_file : ℕ) → place_in kind w c + frame_length kind c ≤ pending_room → (extent_before kind present w c).length + frame_length kind c ≤ max_file → extended kind max_file a c ≡ Becomes (added kind a c)
    room_for max_file room small =
        extended_as max_file (spared kind a c) c (length (frames kind (waiting_of kind (spared kind a c)))) _ false (waits_passes false (grind (arith, nat_tests))) refl (length_known max_file small)

    -- else it waits alone
    room_alone : (max_file : ℕ) → pending_room < place_in kind w c + frame_length kind c → (extent_before kind present w c).length + frame_length kind c ≤ max_file → extended kind max_file a c ≡ Becomes (account.behind_all kind (spared kind a c) c 1)
    room_alone max_file full small =
        extended_as max_file (spared kind a c) c (length (frames kind (waiting_of kind (spared kind a c)))) _ true (waits_passes true (grind (arith, nat_tests))) refl (length_known max_file small)

    -- behind all others, which are in the file
    pub room_behind_all : (max_file : ℕ) → covers_last kind w.last c ≡ false → pending_room < length w.bytes + frame_length kind c → (extent_before kind present w c).length + frame_length kind c ≤ max_file →
        extended kind max_file a c ≡ Becomes (added kind (synced kind a) c)
    room_behind_all max_file none full small =
        let place : place_in kind w c ≡ length w.bytes = rw none refl in
        let kept : spared kind a c ≡ a = (let same = sym (covers_same kind w a c r.ends) ∙ none in rw same refl) in
        room_alone max_file (omega (arith, full, place)) small ∙ ap (λ (x : Account S C). Becomes (account.behind_all kind x c 1)) kept

    -- or in the place of the last one
    pub room_before_last : (max_file : ℕ) → covers_last kind w.last c ≡ true → pending_room < place_in kind w c + frame_length kind c → (extent_before kind present w c).length + frame_length kind c ≤ max_file →
        extended kind max_file a c ≡ Becomes (added kind (record a { late = 1 }) c)
    room_before_last max_file covers full small =
        let both = sym (covers_same kind w a c r.ends) ∙ covers in
        let last : covers_last_of kind a.kept c ≡ true = and_right (nat_lt 0 a.late) (covers_last_of kind a.kept c) both in
        let without : spared kind a c ≡ record a { kept = take (length a.kept - 1) a.kept; late = a.late - 1 } = rw both refl in
        let alone : spared kind (record a { late = 1 }) c ≡ record a { kept = take (length a.kept - 1) a.kept; late = 0 } = rw last refl in
        room_alone max_file full small ∙ ap (λ (x : Account S C). Becomes (account.behind_all kind x c 1)) without
        ∙ sym (ap (λ (x : Account S C). Becomes (account.behind_all kind x c (x.late + 1))) alone)

    module _ (max_file : ℕ) (small : (extent_before kind present w c).length + frame_length kind c ≤ max_file) where
      -- the journal has room for the command as it is
      pub has_room_for : place_in kind w c + frame_length kind c ≤ pending_room → HasRoom kind m m present w a (extended kind max_file a c) c first q
      has_room_for room = record { rest = a; is = room_for max_file room small; runs = r; made = refl }

      module _ (full : pending_room < place_in kind w c + frame_length kind c) where
        appended_by : (covers : Bool) → covers_last kind w.last c ≡ covers →
            HasRoom kind m (after_append present.stamp (take (place_in kind w c) w.bytes) m) present (behind (place_in kind w c) w) a (extended kind max_file a c) c first q
        appended_by false none =
            let place : place_in kind w c ≡ length w.bytes = rw none refl in
            record {
              rest = synced kind a;
              is = room_behind_all max_file none (omega (arith, full, place)) small;
              runs = appended_uncovered kind m present w a first q r c none;
              made = refl;
            }
        appended_by true covers = record {
          rest = record a { late = 1 };
          is = room_before_last max_file covers full small;
          runs = appended_covered kind m present w a first q r c covers;
          made = refl;
        }

        -- it has when what waits in front of the command was appended
        pub has_room_appended : (new : Moment) (left : Waiting C) → new ≡ after_append present.stamp (take (place_in kind w c) w.bytes) m → left ≡ behind (place_in kind w c) w →
            HasRoom kind m new present left a (extended kind max_file a c) c first q
        has_room_appended new left e is =
            subst (λ (x : Moment). HasRoom kind m x present left a (extended kind max_file a c) c first q) (sym e)
            (subst (λ (x : Waiting C). HasRoom kind m (after_append present.stamp (take (place_in kind w c) w.bytes) m) present x a (extended kind max_file a c) c first q) (sym is) (appended_by (covers_last kind w.last c) refl))

  -- behind a fresh file it is the only one
  pub room_restated : (max_file : ℕ) (a : Account S C) (c : C) → length (fresh kind (state_of kind a)) + frame_length kind c ≤ max_file →
      rotated kind max_file a c ≡ Becomes (added kind (restated kind (state_of kind a) (suc a.made)) c)
  room_restated max_file a c small = within_limit kind max_file _ _ small

  -- a journal whose file was replaced by one of its state has room for the command
  pub has_room_restated : (before m : Moment) (present : Present S) (w : Waiting C) (a : Account S C) (first : S) (q : List C) (c : C) →
      JournalAdvances kind before m present w a (Becomes (restated kind (state_of kind a) (suc a.made))) first (q ++ []) →
      (max_file : ℕ) → length (fresh kind (state_of kind a)) + frame_length kind c ≤ max_file → HasRoom kind before m present w a (rotated kind max_file a c) c first q
  has_room_restated before m present w a first q c done max_file small =
      let next : done.next ≡ restated kind (state_of kind a) (suc a.made) = (let is = done.is in cc) in
      record {
        rest = restated kind (state_of kind a) (suc a.made);
        is = room_restated max_file a c small;
        runs = subst (λ (x : List C). JournalRuns kind m present w (restated kind (state_of kind a) (suc a.made)) first x) (append-nil q)
            (subst (λ (x : Account S C). JournalRuns kind m present w x first (q ++ [])) next done.runs);
        made = done.made ∙ ap (λ (x : Account S C). before.creates + x.made) next;
      }

  -- the same outcome, called otherwise
  pub makes_room_as : {T : Type 0} (before : Moment) (failed : Option First) (m : Moment) (present : Present S) (w : Waiting C) (a : Account S C) (outcome other : Outcome S C) (first : S) (q : List C) (c : C) (result : Result T JournalFault) →
      outcome ≡ other → JournalMakesRoom kind before failed m present w a outcome c first q result → JournalMakesRoom kind before failed m present w a other c first q result
  makes_room_as before failed m present w a outcome other first q c result e h = subst (λ (o : Outcome S C). JournalMakesRoom kind before failed m present w a o c first q result) e h
