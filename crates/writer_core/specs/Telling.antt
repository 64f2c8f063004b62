-- What a journal tells its disk: what is told stays told, whatever a job answers, and a sync tells all that was taken.
use Rattle.std.specs.Prelude.{◌≡◌, ℕ, ◌<◌, ◌≤◌, ◌^◌, List, Result, Ok, Err, OnOk}
use Rattle.machine_law.specs.Kind.{Kind}
use Rattle.machine_law.specs.declared.machine.Machine as machine
use Rattle.session_disk.specs.declared.disk.SessionDisk as disk
use Rattle.log_writer.specs.Account.{Account}
use Rattle.log_writer.specs.Journals.{JournalRuns}
use Rattle.log_writer.specs.Log.{Log, log}
use Rattle.log_writer.specs.declared.journal.Journal.{Journal}
use Rattle.log_writer.specs.declared.journal.Present.{Present}
use Rattle.log_writer.specs.declared.fault.JournalFault.{JournalFault}
use Rattle.writer_core.specs.declared.item.Job.{Job}
use Rattle.writer_core.specs.declared.item.Job.TheVariants as job

-- a journal that writes on, whatever commands it stands for
pub record Runs {S C : Type 0} (kind : Kind S C) (l : Log S C) : Type 0 where
  pub first : S
  pub taken : List C
  pub account : Account S C
  pub runs : JournalRuns kind l.history.now l.present l.waiting account first taken

-- how many commands its disk was told
abbrev pub told_by : {S C : Type 0} → Log S C → ℕ
told_by l = l.history.now.told

-- what was told was taken, and 64 bits count what was taken
abbrev pub IsCounted : {S : Type 0} → Present S → Type 0
IsCounted present = (present.told ≤ present.count) × (present.count < 2 ^ 64)

-- how many commands are told after a job: a sync tells all that were taken
abbrev pub told_after : {S C T : Type 0} → Job C → Present S → Result T JournalFault → ℕ
told_after (job.Write command) old result = old.told
told_after job.Sync old (Ok x) = old.count
told_after job.Sync old (Err why) = old.told
told_after job.Compact old result = old.told
told_after job.Nothing old result = old.told

module _ {M D S C : Type 0} {m : machine.Ghosts M S C} {d : disk.Ghosts D} where
  -- on every disk, what a job makes of the numbers of commands that were taken and told
  pub record Counts {T : Type 0} (todo : Job C) (old new : Journal M D S C m d) (result : Result T JournalFault)
      : Type 0 where
    pub told : new.present.told ≡ told_after todo old.present result
    pub counted : IsCounted old.present → IsCounted new.present

  -- What a call makes of what is told: it is no less than before, and after Ok the journal writes on.
  pub record StaysTold {T : Type 0} (old new : Journal M D S C m d) (result : Result T JournalFault) : Type 0 where
    pub stays : told_by (log old) ≤ told_by (log new)
    pub runs : OnOk result (Runs m.kind (log new))

  -- on a modelled disk, whatever a journal that writes on stands for
  abbrev pub KeepsTold : {T : Type 0} → Journal M D S C m d → Journal M D S C m d → Result T JournalFault → Type 0
  KeepsTold old new result = d.modelled → Runs m.kind (log old) → StaysTold old new result

  -- on every disk, after a sync: the journal has told all commands that it took
  abbrev pub TellsTaken : {T : Type 0} → Job C → Journal M D S C m d → Result T JournalFault → Type 0
  TellsTaken (job.Write command) new result = Unit {0}
  TellsTaken job.Sync new result = OnOk result (new.present.told ≡ new.present.count)
  TellsTaken job.Compact new result = Unit {0}
  TellsTaken job.Nothing new result = Unit {0}
