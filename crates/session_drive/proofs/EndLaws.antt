-- What the accounts of both families say of a journal's fault, and of an opening that is refused.
use Rattle.std.proofs.Common.{◌≡◌, ℕ, List, [], Some, refl, sym, ap, ◌∙◌, subst}
use Rattle.session_disk.specs.declared.family.Family.{Family}
use Rattle.session_disk.specs.declared.family.Family.TheVariants.{Session, Tabs}
use Rattle.log_writer.specs.declared.fault.JournalFault.{JournalFault}
use Rattle.log_writer.specs.declared.fault.JournalFault.TheVariants as fault
use Rattle.writer_core.specs.Accounts.{TooLongFor, LastStampFor, StopsFor, of_both}
use Rattle.writer_core.specs.Course.{Course, Goes, TooLong, LastStamp}
use Rattle.writer_core.specs.Working.{FaultCause, IsOpened, Stops, course}
use Rattle.writer_core.proofs.AccountLaws.{stops_stay}
use Rattle.run_words.specs.declared.status.Status.TheVariants as status
use Rattle.script_run.specs.Families.{CommandOf, StateOf, RunItem, kind_of}
use Rattle.script_run.specs.Verdict.{Beginnings, RunAccounts, ended, run_accounts}
use Rattle.session_drive.specs.Answers.{status_of}
use Rattle.session_drive.proofs.CauseLaws.{IsExact}

-- accounts that stop by a fault end the run with its answer
pub ended_by : (x : RunAccounts) (family : Family) (max_file before after : ℕ) (why : JournalFault) → FaultCause max_file before after why → IsExact why → StopsFor x family why → ended x ≡ Some (status_of family why)
ended_by x family max_file before after (fault.AlreadyFailed first) cause exact h = absurd exact
ended_by x family max_file before after (fault.TooLong needed) cause exact h = ap ended h
ended_by x family max_file before after (fault.LastStamp stamp) cause exact h = ap ended h ∙ ap (λ (n : ℕ). Some (status.LastStamp family n)) (sym cause)
ended_by x family max_file before after fault.Disk cause exact h = absurd exact
ended_by x family max_file before after fault.Memory cause exact h = absurd exact

-- a course that stops stops the accounts in which it is the family's
stops_in : {S C : Type 0} (f : Course S C → RunAccounts) (family : Family) → ((needed : ℕ) → f (TooLong needed) ≡ TooLongFor family needed) → f LastStamp ≡ LastStampFor family →
    (c : Course S C) (why : JournalFault) → Stops c why → StopsFor (f c) family why
stops_in f family long last c (fault.TooLong needed) h = ap f h ∙ long needed
stops_in f family long last c (fault.LastStamp stamp) h = ap f h ∙ last
stops_in f family long last c (fault.AlreadyFailed first) h = tt
stops_in f family long last c fault.Disk h = tt
stops_in f family long last c fault.Memory h = tt

module _ (b : Beginnings) where
  abbrev session_course : Course (StateOf Session) (CommandOf Session)
  session_course = course (kind_of Session) (b Session) []

  abbrev tabs_course : Course (StateOf Tabs) (CommandOf Tabs)
  tabs_course = course (kind_of Tabs) (b Tabs) []

  -- an opening that is refused

  pub session_stops : (why : JournalFault) → Stops session_course why → StopsFor (run_accounts b []) Session why
  session_stops why h = stops_in (λ (c : Course (StateOf Session) (CommandOf Session)). of_both c tabs_course) Session (λ needed. refl) refl session_course why h

  pub tabs_stop : IsOpened (kind_of Session) (b Session) → (why : JournalFault) → Stops tabs_course why → StopsFor (run_accounts b []) Tabs why
  tabs_stop opened why h = subst (λ (c : Course (StateOf Session) (CommandOf Session)). StopsFor (of_both c tabs_course) Tabs why) (sym opened.1)
      (stops_in (λ (c : Course (StateOf Tabs) (CommandOf Tabs)). of_both (Goes opened.0) c) Tabs (λ needed. refl) refl tabs_course why h)

  -- stops a run of any items
  pub opening_stays : (items : List RunItem) (family : Family) (why : JournalFault) → StopsFor (run_accounts b []) family why → StopsFor (run_accounts b items) family why
  opening_stays items family why h = stops_stay (kind_of Session) (kind_of Tabs) (b Session) (b Tabs) items (run_accounts b []) family why h
