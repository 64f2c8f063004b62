-- What is left of a journal where a call is refused: it is as it was, or it has failed and stands for the same commands.
use Rattle.std.proofs.Common.{◌≡◌, ℕ, ◌≤◌, List, ◌++◌, take, Option, None, Result, Ok, Err, IsErr, IsErrOf, refl, sym, ap, ◌∙◌, subst, arith}
use Rattle.std.proofs.lemmas.Bool.Decides.{nat_tests}
use Rattle.machine_law.specs.Kind.{Kind}
use Rattle.session_disk.specs.declared.failure.DiskError.{DiskError}
use Rattle.session_disk.specs.declared.failure.DiskError.TheVariants as error
use Rattle.session_disk.specs.Moments.{Moment}
use Rattle.session_disk.specs.Histories.{History, Leaves}
use Rattle.session_disk.proofs.Leaves.{Leaves-weaken, Leaves-now}
use Rattle.file_rotation.specs.Recovery.{IsGood}
use Rattle.file_rotation.proofs.ChoiceLaws.{good_longer}
use Rattle.log_writer.specs.Account.{Account, Outcome, Becomes, within}
use Rattle.log_writer.specs.Waiting.{Waiting}
use Rattle.log_writer.specs.Journals.{LeavesAppended, JournalRuns, JournalRemains, JournalFollows, HasRoom, JournalMakesRoom}
use Rattle.log_writer.specs.Faults.{first_of}
use Rattle.log_writer.specs.declared.journal.Present.{Present}
use Rattle.log_writer.specs.declared.fault.First.{First}
use Rattle.log_writer.specs.declared.fault.JournalFault.{JournalFault}
use Rattle.log_writer.proofs.WaitingLaws.{appended_leaves}
use Rattle.log_writer.proofs.SyncLaws.{stands_now}

-- what isn't too long comes about
pub within_limit : {S C : Type 0} (kind : Kind S C) (max_file needed : ℕ) (next : Account S C) → needed ≤ max_file → within kind max_file needed next ≡ Becomes next
within_limit kind max_file needed next small = grind (arith, nat_tests)

module _ {S C T : Type 0} (kind : Kind S C) (before : Moment) (failed : Option First) (m : Moment) (present : Present S) (w : Waiting C) (a : Account S C) (outcome : Outcome S C) where
  -- an answer that is some refusal
  pub follows_refused : (first : S) (q more : List C) (result : Result T JournalFault) → IsErr result → JournalRemains kind failed m present w first q →
      JournalFollows kind before failed m present w a outcome first q more result
  follows_refused first q more (Ok x) is remains = absurd (let no = is in cc)
  follows_refused first q more (Err fault) is remains = remains

  -- of a call that makes room
  pub room_refused : (c : C) (first : S) (q : List C) (result : Result T JournalFault) → IsErr result → JournalRemains kind failed m present w first q →
      JournalMakesRoom kind before failed m present w a outcome c first q result
  room_refused c first q (Ok x) is remains = absurd (let no = is in cc)
  room_refused c first q (Err fault) is remains = remains

-- the same next account, called otherwise
pub follows_as : {S C T : Type 0} (kind : Kind S C) (before : Moment) (failed : Option First) (m : Moment) (present : Present S) (w : Waiting C) (a : Account S C) (outcome other : Outcome S C) (first : S) (q more : List C)
    (result : Result T JournalFault) → outcome ≡ other → JournalFollows kind before failed m present w a outcome first q more result → JournalFollows kind before failed m present w a other first q more result
follows_as kind before failed m present w a outcome other first q more result e h = subst (λ (o : Outcome _ _). JournalFollows kind before failed m present w a o first q more result) e h

-- a journal as it was, where nothing of it has changed
pub remains_same : {S C : Type 0} (kind : Kind S C) (m : Moment) (present : Present S) (w : Waiting C) (a : Account S C) (first : S) (q : List C) → JournalRuns kind m present w a first q →
    (failed : Option First) (new : Moment) (now : Present S) (left : Waiting C) → failed ≡ None → new ≡ m → now ≡ present → left ≡ w → JournalRemains kind failed new now left first q
remains_same kind m present w a first q r failed new now left none same kept waits =
    subst (λ (f : Option First). JournalRemains kind f new now left first q) (sym none) (
      a,
      subst (λ (x : Moment). JournalRuns kind x now left a first q) (sym same)
          (subst (λ (x : Present _). JournalRuns kind m x left a first q) (sym kept) (subst (λ (x : Waiting _). JournalRuns kind m present x a first q) (sym waits) r)),
    )

-- one that made room for a command, which isn't taken
pub room_remains : {S C : Type 0} (kind : Kind S C) (before m : Moment) (present : Present S) (w : Waiting C) (a : Account S C) (outcome : Outcome S C) (c : C) (first : S) (q : List C) → HasRoom kind before m present w a outcome c first q →
    (failed : Option First) (new : Moment) (now : Present S) (left : Waiting C) → failed ≡ None → new ≡ m → now ≡ present → left ≡ w → JournalRemains kind failed new now left first q
room_remains kind before m present w a outcome c first q room = remains_same kind m present w room.rest first q room.runs

-- a crash that leaves only good pairs leaves good pairs for more commands
pub leaves_more : {S C : Type 0} (kind : Kind S C) (first : S) (q more : List C) {old new : History} → Leaves old new (IsGood kind first q) → Leaves old new (IsGood kind first (q ++ more))
leaves_more kind first q more leaves = Leaves-weaken (IsGood kind first (q ++ more)) (λ told image good. good_longer kind image first q more told good) leaves

-- The first bytes that wait weren't appended, or only some of them. After want of memory nothing has changed.
pub append_refused : {S C : Type 0} (kind : Kind S C) (m : Moment) (present : Present S) (w : Waiting C) (a : Account S C) (first : S) (q : List C) → JournalRuns kind m present w a first q →
    (place failures : ℕ) (why : DiskError) (failed : Option First) (old new : History) (left : Waiting C) → failed ≡ first_of failures why → old.now ≡ m → new.now.told ≡ m.told → left ≡ w →
    (IsErrOf {T = Unit {0}} (Err why) error.Memory → new ≡ old) → Leaves old new (LeavesAppended m present.stamp (take place w.bytes)) → JournalRemains kind failed new.now present left first q
append_refused kind m present w a first q r place failures error.Failed failed old new left e here told waits kept leaves =
    subst (λ (f : Option First). JournalRemains kind f new.now present left first q) (sym e)
    (stands_now kind m present w a first q r new.now told (Leaves-now (appended_leaves kind m present w a first q r place leaves)))
append_refused kind m present w a first q r place failures error.Memory failed old new left e here told waits kept leaves =
    remains_same kind m present w a first q r failed new.now present left e (ap (λ (h : History). h.now) (kept refl) ∙ here) refl waits
