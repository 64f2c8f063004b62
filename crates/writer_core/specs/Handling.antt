-- What an item makes of the journal of a family.
use Rattle.std.specs.Prelude.{◌≡◌, [], ◌∷◌, length, Result, Ok, Err}
use Rattle.machine_law.specs.declared.machine.Machine as machine
use Rattle.session_disk.specs.declared.disk.SessionDisk as disk
use Rattle.session_disk.specs.declared.family.Family.{Family}
use Rattle.session_disk.specs.declared.family.Family.TheVariants.{Session, Tabs}
use Rattle.log_writer.specs.Answers.{Lasts}
use Rattle.log_writer.specs.declared.journal.Journal.{Journal}
use Rattle.log_writer.specs.declared.fault.JournalFault.{JournalFault}
use Rattle.writer_core.specs.Jobs.{commands_of}
use Rattle.writer_core.specs.Working.{IssueAnswers, Syncs, Works}
use Rattle.writer_core.specs.Telling.{Counts, KeepsTold, TellsTaken}
use Rattle.writer_core.specs.declared.handling.Stopped.{Stopped}
use Rattle.writer_core.specs.declared.item.Job.{Job}

-- a journal did its job, or refused it, or wasn't called
pub data Turn : Type 0 where
  Done : Turn
  Refused : JournalFault → Turn
  Skipped : Turn

-- by the family that is asked about and the one whose journal refused: the session's journal is called first
abbrev pub turn_at : Family → Family → JournalFault → Turn
turn_at Session Session why = Refused why
turn_at Session Tabs why = Done
turn_at Tabs Session why = Skipped
turn_at Tabs Tabs why = Refused why

abbrev pub turn_of : {T : Type 0} → Family → Result T Stopped → Turn
turn_of family (Ok x) = Done
turn_of family (Err stopped) = turn_at family stopped.family stopped.fault

module _ {M D S C : Type 0} {m : machine.Ghosts M S C} {d : disk.Ghosts D} where
  -- what a job makes of a journal
  pub record Does {T : Type 0} (todo : Job C) (old new : Journal M D S C m d) (result : Result T JournalFault)
      : Type 0 where
    pub later : Lasts old new
    pub answers : IssueAnswers (length (commands_of todo)) old new result
    pub works : Works (todo ∷ []) old new result
    pub syncs : Syncs todo old new result
    pub keeps_told : KeepsTold old new result
    pub tells : TellsTaken todo new result
    pub counts : Counts todo old new result

  abbrev pub Turns : Job C → Journal M D S C m d → Journal M D S C m d → Turn → Type 0
  Turns todo old new Done = Does {T = Unit {0}} todo old new (Ok tt)
  Turns todo old new (Refused why) = Does {T = Unit {0}} todo old new (Err why)
  Turns todo old new Skipped = new ≡ old
