-- The course of a list of jobs, one job further: a stamp stays tied to the number of files that were made, so the last
-- stamp is met exactly where the course says so, and what has stopped stays stopped.
use Rattle.std.proofs.Common.{◌≡◌, ℕ, suc, ◌+◌, ◌-◌, ◌<◌, ◌≤◌, ◌^◌, max, Bool, true, false, ◌&&◌, if◌then◌else◌, ◌==◌, nat_lt, List, [], ◌∷◌, ◌++◌, length, take, Option, None, Some, IsSome, Result, Ok, Err, refl, sym, ap, ◌∙◌, subst, inl, inr, arith}
use Rattle.std.proofs.lemmas.Bool.{cases_eq}
use Rattle.std.proofs.lemmas.Bool.Decides.{nat_tests}
use Rattle.machine_law.specs.Kind.{Kind}
use Rattle.session_disk.specs.Moments.{Standing, Moment, IsNewestBelow}
use Rattle.file_rotation.specs.Stamps.{fresh_stamp}
use Rattle.file_rotation.specs.declared.stamp.LastStamp.{LastStamp as StampRefused}
use Rattle.fresh_files.specs.Fresh.{fresh, frames, frame_length}
use Rattle.fresh_files.specs.Rotation.{IsFreshStamp}
use Rattle.log_writer.specs.Account.{Account, Outcome, Becomes, Needs, pending_room, covers_last_of, state_of, length_of, waiting_of, spared, behind_all, within, is_due, rotated, extended, written, compacted, restated, opened}
use Rattle.log_writer.specs.Journals.{JournalHolds}
use Rattle.log_writer.specs.declared.journal.Present.{Present}
use Rattle.log_writer.proofs.RefusalLaws.{within_limit}
use Rattle.writer_core.specs.Course.{Options, Course, Goes, TooLong, LastStamp, meets_last, IsTied, after_outcome, after_job, after_jobs}
use Rattle.writer_core.specs.declared.item.Job.{Job}

-- stamps

-- The next stamp is tied again, whether the clock or the last stamp gave it.
pub tied_more : (greatest : Option ℕ) (made clock stamp next : ℕ) → clock ≤ 2 ^ 62 → next ≡ max clock (stamp + 1) → IsTied greatest made stamp → IsTied greatest (suc made) next
tied_more None made clock stamp next bound e tied = omega (arith, bound, e, tied)
tied_more (Some greatest) made clock stamp next bound e tied =
    (omega (arith, e, tied.0), omega (arith, e, tied.1), omega (arith, bound, e, tied.2))

-- A stamp that isn't the last one lets one more file be made.
pub not_last : (greatest : Option ℕ) (made stamp : ℕ) → stamp < 2 ^ 63 - 1 → IsTied greatest made stamp → meets_last greatest made ≡ false
not_last None made stamp small tied = refl
not_last (Some greatest) made stamp small tied = let below : greatest + made < 2 ^ 63 - 1 = omega (arith, small, tied.1) in grind (arith, nat_tests)

pub is_last : (greatest : Option ℕ) (made stamp : ℕ) → made < 2 ^ 62 - 1 → stamp ≡ 2 ^ 63 - 1 → IsTied greatest made stamp → meets_last greatest made ≡ true
is_last None made stamp few last tied = absurd (omega (arith, few, last, tied))
is_last (Some greatest) made stamp few last tied = let here : greatest + made ≡ 2 ^ 63 - 1 = omega (arith, few, last, tied.1, tied.2) in grind (arith, nat_tests)

-- the greatest stamp is one
pub newest_same : (standing : ℕ → Option Standing) (one other : Option ℕ) → IsNewestBelow standing None one → IsNewestBelow standing None other → one ≡ other
newest_same standing None None one other = refl
newest_same standing None (Some y) one other = absurd (one y other.stands tt)
newest_same standing (Some x) None one other = absurd (other x one.stands tt)
newest_same standing (Some x) (Some y) one other = ap Some (omega (arith, one.greatest y other.stands tt, other.greatest x one.stands tt))

-- what a fresh stamp is, behind the greatest one and without one
fresh_behind : (clock greatest stamp : ℕ) (t : Bool) → if◌then◌else◌ {A = Result ℕ StampRefused} t (Err (record { 0 = greatest })) (Ok (max clock (greatest + 1))) ≡ Ok stamp → stamp ≡ max clock (greatest + 1)
fresh_behind clock greatest stamp true e = absurd cc
fresh_behind clock greatest stamp false e = cc

pub fresh_more : (IsMoment : ℕ → Type 0) (m : Moment) (stamp greatest : ℕ) → IsNewestBelow m.standing None (Some greatest) → (f : IsFreshStamp IsMoment m stamp) → stamp ≡ max f.clock (greatest + 1)
fresh_more IsMoment m stamp greatest newest f =
    let same = newest_same m.standing f.greatest (Some greatest) f.newest newest in
    fresh_behind f.clock greatest stamp (greatest == 2 ^ 63 - 1) (subst (λ (g : Option ℕ). fresh_stamp f.clock g ≡ Ok stamp) same f.value)

fresh_first : (clock stamp : ℕ) → fresh_stamp clock None ≡ Ok stamp → stamp ≡ clock
fresh_first clock stamp e = cc

-- the first file of a run is tied
pub tied_first : (IsMoment : ℕ → Type 0) (m : Moment) (stamp : ℕ) (greatest : Option ℕ) → IsNewestBelow m.standing None greatest → IsFreshStamp IsMoment m stamp → IsTied greatest 1 stamp
tied_first IsMoment m stamp None newest f =
    let same = newest_same m.standing f.greatest None f.newest newest in
    let at = fresh_first f.clock stamp (subst (λ (g : Option ℕ). fresh_stamp f.clock g ≡ Ok stamp) same f.value) in
    omega (arith, f.bound, at)
tied_first IsMoment m stamp (Some greatest) newest f =
    let at = fresh_more IsMoment m stamp greatest newest f in
    (omega (arith, at), omega (arith, at), omega (arith, f.bound, at))

-- the file of a journal is the newest
pub newest_own : {S C : Type 0} (kind : Kind S C) (m : Moment) (present : Present S) (pending : List ℕ) (a : Account S C) → JournalHolds kind m present pending a → IsNewestBelow m.standing None (Some present.stamp)
newest_own kind m present pending a h = record {
  stands = subst IsSome (sym h.stands) refl;
  within = tt;
  greatest = λ s there within. elim (cases_eq s present.stamp) [
    | inl same ↦ omega (arith, same)
    | inr away ↦ below s away (m.standing s) refl there
  ];
}
  where
    below : (s : ℕ) → (s ≡ present.stamp → ⊥) → (file : Option Standing) → m.standing s ≡ file → IsSome (m.standing s) → s ≤ present.stamp
    below s away None e there = absurd (let none : IsSome {T = Standing} None = subst IsSome e there in cc)
    below s away (Some file) e there = let older = h.others s file away e in omega (arith, older.below)

-- the next account

module _ {S C : Type 0} (kind : Kind S C) where
  -- what an outcome within a limit becomes
  pub within_is : (max_file needed : ℕ) (next known : Account S C) (t : Bool) → (if t then Needs needed else Becomes known) ≡ Becomes next → next ≡ known
  within_is max_file needed next known true e = absurd cc
  within_is max_file needed next known false e = cc

  over : (needed max_file : ℕ) (next : Account S C) → max_file < needed → within kind max_file needed next ≡ Needs needed
  over needed max_file next more = grind (arith, nat_tests)

  -- An outcome is an account where so many bytes are within the limit, with one file more where a rotation comes.
  pub record IsLimited (max_file made : ℕ) (rotates : Bool) (needed : ℕ) (outcome : Outcome S C) : Type 0 where
    pub next : Account S C
    pub is : outcome ≡ within kind max_file needed next
    pub counted : next.made ≡ (if rotates then suc made else made)

  -- no file is made or gone with a command that is covered
  spared_made : (a : Account S C) (c : C) → (spared kind a c).made ≡ a.made
  spared_made a c = by_cover (nat_lt 0 a.late && covers_last_of kind a.kept c)
    where
      by_cover : (t : Bool) → (if t then record a { kept = take (length a.kept - 1) a.kept; late = a.late - 1 } else a).made ≡ a.made
      by_cover true = refl
      by_cover false = refl

  pub limited_written : (every max_file : ℕ) (a : Account S C) (c : C) →
      IsLimited max_file a.made (is_due kind every max_file a c) ((if is_due kind every max_file a c then length (fresh kind (state_of kind a)) else length_of kind (spared kind a c)) + frame_length kind c) (written kind every max_file a c)
  limited_written every max_file a c = by_due (is_due kind every max_file a c)
    where
      by_due : (t : Bool) → IsLimited max_file a.made t ((if t then length (fresh kind (state_of kind a)) else length_of kind (spared kind a c)) + frame_length kind c) (if t then rotated kind max_file a c else extended kind max_file a c)
      by_due true = record { next = record { base = state_of kind a; kept = c ∷ []; late = 1; made = suc a.made }; is = refl; counted = refl }
      by_due false =
          let rest = spared kind a c in
          let late = if nat_lt pending_room (length (frames kind (waiting_of kind rest)) + frame_length kind c) then 1 else rest.late + 1 in
          record { next = behind_all kind rest c late; is = refl; counted = spared_made a c }

  pub limited_compacted : (max_file : ℕ) (a : Account S C) → IsLimited max_file a.made true (length (fresh kind (state_of kind a))) (compacted kind max_file a)
  limited_compacted max_file a = record { next = restated kind (state_of kind a) (suc a.made); is = refl; counted = refl }

  module _ (max_file made : ℕ) (rotates : Bool) (needed : ℕ) (outcome : Outcome S C) (limited : IsLimited max_file made rotates needed outcome) where
    pub limited_over : max_file < needed → outcome ≡ Needs needed
    limited_over more = limited.is ∙ over needed max_file limited.next more

    pub limited_fits : needed ≤ max_file → outcome ≡ Becomes limited.next
    limited_fits fits = limited.is ∙ within_limit kind max_file needed limited.next fits

    -- how many files the next account counts
    pub limited_made : (next : Account S C) → outcome ≡ Becomes next → next.made ≡ (if rotates then suc made else made)
    limited_made next e =
        ap (λ (x : Account S C). x.made) (within_is max_file needed next limited.next (nat_lt max_file needed) (sym limited.is ∙ e)) ∙ limited.counted

  module _ (options : Options) (greatest : Option ℕ) where
    -- no file was made, or one that doesn't meet the last stamp
    pub goes_same : (made : ℕ) (a : Account S C) → a.made ≤ made → after_outcome kind options greatest made (Becomes a) ≡ Goes a
    goes_same made a few = grind (arith, nat_tests)

    pub goes_fresh : (made : ℕ) (a : Account S C) → meets_last greatest made ≡ false → after_outcome kind options greatest made (Becomes a) ≡ Goes a
    goes_fresh made a none = ap (λ (t : Bool). if nat_lt made a.made && t then LastStamp else Goes a) none ∙ never (nat_lt made a.made)
      where
        never : (t : Bool) → (if t && false then LastStamp else Goes a) ≡ Goes a
        never true = refl
        never false = refl

    pub meets : (made : ℕ) (a : Account S C) → made < a.made → meets_last greatest made ≡ true → after_outcome kind options greatest made (Becomes a) ≡ LastStamp
    meets made a more last =
        ap (λ (t : Bool). if nat_lt made a.made && t then LastStamp else Goes a) last ∙ ap (λ (t : Bool). if t && true then LastStamp else Goes a) (let less : nat_lt made a.made ≡ true = grind (arith, nat_tests) in less)

    pub after_append : (jobs more : List (Job C)) (course : Course S C) → after_jobs kind options greatest (jobs ++ more) course ≡ after_jobs kind options greatest more (after_jobs kind options greatest jobs course)
    after_append [] more course = refl
    after_append (todo ∷ later) more course = after_append later more (after_job kind options greatest todo course)

    pub stays_long : (jobs : List (Job C)) (n : ℕ) → after_jobs kind options greatest jobs (TooLong n) ≡ TooLong n
    stays_long [] n = refl
    stays_long (todo ∷ later) n = stays_long later n

    pub stays_last : (jobs : List (Job C)) → after_jobs kind options greatest jobs LastStamp ≡ LastStamp
    stays_last [] = refl
    stays_last (todo ∷ later) = stays_last later

  -- the opening's account
  pub opened_over : (max_file : ℕ) (state : S) → max_file < length (fresh kind state) → opened kind max_file state ≡ Needs (length (fresh kind state))
  opened_over max_file state more = over (length (fresh kind state)) max_file (restated kind state 1) more

  pub opened_fits : (max_file : ℕ) (state : S) → length (fresh kind state) ≤ max_file → opened kind max_file state ≡ Becomes (restated kind state 1)
  opened_fits max_file state fits = within_limit kind max_file (length (fresh kind state)) (restated kind state 1) fits

  pub opened_made : (max_file : ℕ) (state : S) (next : Account S C) → opened kind max_file state ≡ Becomes next → next.made ≡ 1
  opened_made max_file state next is = ap (λ (x : Account S C). x.made) (within_is max_file (length (fresh kind state)) next (restated kind state 1) (nat_lt max_file (length (fresh kind state))) is)

-- an entry under whose greatest stamp one more stands doesn't have the last one
pub first_goes : (greatest : Option ℕ) (stamp : ℕ) → stamp < 2 ^ 63 → IsTied greatest 1 stamp → meets_last greatest 0 ≡ false
first_goes None stamp bound tied = refl
first_goes (Some greatest) stamp bound tied = let below : greatest + 0 < 2 ^ 63 - 1 = omega (arith, bound, tied.0) in grind (arith, nat_tests)

pub last_first : (stamp : ℕ) → stamp ≡ 2 ^ 63 - 1 → meets_last (Some stamp) 0 ≡ true
last_first stamp e = let here : stamp + 0 ≡ 2 ^ 63 - 1 = omega (arith, e) in grind (arith, nat_tests)
