-- A run but for its last line.
use Rattle.std.specs.Prelude.{◌≡◌, ◌⊎◌, ℕ, ◌≤◌, List, [], Option}
use Rattle.session_disk.specs.Causes.{Rose}
use Rattle.session_disk.specs.declared.family.Family.TheVariants.{Session}
use Rattle.run_words.specs.declared.status.Status.{Status}
use Rattle.run_words.specs.declared.status.Status.TheVariants.{Done, Usage, Refused, Read, Write, TooLong}
use Rattle.run_words.specs.declared.status.Long.TheVariants.{Script}
use Rattle.run_words.specs.Outcome.{IsPrefix}
use Rattle.run_words.specs.Words.{order_of}
use Rattle.script_run.specs.Doing.{Sunk}
use Rattle.script_run.specs.Runs.{Writes, said_behind_start}
use Rattle.script_run.specs.Script.{steps_of}
use Rattle.session_drive.specs.Causes.{HasCause}
use Rattle.session_drive.specs.Run.{CallsNoDisk, Found, HoldsScript, IsAtOpening, IsDone, LeavesScript, Opened}
use Rattle.session_drive.specs.Run.{ReadsNone, SaysCut, ShowsScript, Started, answer_to, causes}
use Rattle.session_drive.specs.Telling.{TellsFirst}

-- all that a run says of its script before its last line
abbrev pub said_of : {found : Found} → Started found → List ℕ
said_of run = said_behind_start run.firsts (steps_of run.firsts run.text)

-- the answer is that to the script, of which all was said
abbrev pub SaysScript : Found → Status → List ℕ → Type 0
SaysScript found answer said =
    (run : Started found) × (answer ≡ answer_to run.firsts run.text) × (said ≡ said_of run)

-- what is said before the last line of an answer
abbrev pub SaysFirst : Found → Status → List ℕ → Type 0
SaysFirst found (Done session tabs) said = SaysScript found (Done session tabs) said
SaysFirst found (Refused line why) said = SaysScript found (Refused line why) said
SaysFirst found Usage said = said ≡ []
SaysFirst found Read said = said ≡ []
SaysFirst found (TooLong Script needed) said = said ≡ []
SaysFirst found Write said = (run : Started found) × IsPrefix said (said_of run)
SaysFirst found fault said =
    (IsAtOpening found fault × (said ≡ [])) ⊎ SaysCut found (λ more. more ≡ []) fault said

-- why a run answers so, what it has said before its last line, and what it leaves
pub record IsRunOf (found : Found) (read write : Type 0) (old new : Option (List ℕ)) (status : Status) : Type 0 where
  pub cause : HasCause (causes found read write) status
  pub output : Writes old new (SaysFirst found status)
  pub done : HoldsScript found status
  pub picture : ShowsScript found status
  pub crash : LeavesScript found

-- A run that answers so before anything of its script is done, where the source fails so. It writes nothing. The last
-- two say that the session's disk and that of the tabs are as they were.
pub record IsRefused (found : Found) (read same_session same_tabs : Type 0) (status : Status) : Type 0 where
  pub cause : HasCause (causes found read ⊥) status
  pub says_none : SaysFirst found status []
  pub undone : IsDone status → ⊥
  pub crash : LeavesScript found
  pub order : same_tabs ⊎ Opened found Session
  pub not_called : CallsNoDisk status → same_session × same_tabs

-- All that is said of a run before its last line, where the source fails so. The last three say that the source, the
-- session's disk and that of the tabs are as they were.
pub record IsAttempted (found : Found) (read : Type 0) (before after : Sunk) (same_source same_session same_tabs : Type 0)
    (status : Status) : Type 0 where
  pub run : IsRunOf found read (Rose before.faults after.faults) before.written after.written status
  pub tells : TellsFirst found before.written after.written status
  pub order : same_tabs ⊎ Opened found Session
  pub not_called : CallsNoDisk status → same_session × same_tabs
  pub not_read : ReadsNone (order_of found.words) → same_source
  pub later : before.faults ≤ after.faults
