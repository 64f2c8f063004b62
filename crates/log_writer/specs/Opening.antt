-- What each answer of `open` says of the disk before it and after it.
use Rattle.std.specs.Prelude.{◌≡◌, ℕ, zero, ◌-◌, ◌<◌, ◌≤◌, ◌^◌, [], length, None, Some, Result, Ok, Err}
use Rattle.machine_law.specs.Kind.{Kind}
use Rattle.machine_law.specs.declared.machine.Machine as machine
use Rattle.session_disk.specs.declared.disk.SessionDisk as disk
use Rattle.session_disk.specs.Causes.{Rose}
use Rattle.session_disk.specs.Moments.{Moment, IsAtRest, IsNewestBelow}
use Rattle.session_disk.specs.Images.{as_it_reads}
use Rattle.session_disk.specs.Histories.{History, Leaves}
use Rattle.fresh_files.specs.Fresh.{fresh}
use Rattle.log_writer.specs.Account.{restated, opened as opened_account}
use Rattle.fresh_files.specs.Lay.{IsAbove}
use Rattle.fresh_files.specs.Rotation.{IsFreshStamp}
use Rattle.log_writer.specs.Waiting.{Waiting, waiting_in}
use Rattle.log_writer.specs.Journals.{IsReady, JournalAdvances}
use Rattle.log_writer.specs.Log.{KeepsForeign, IsLeft}
use Rattle.log_writer.specs.declared.journal.Journal.{Journal}
use Rattle.log_writer.specs.declared.journal.Present.{Present}
use Rattle.log_writer.specs.declared.limits.Limits.{Limits}
use Rattle.log_writer.specs.declared.fault.JournalFault.{JournalFault}
use Rattle.log_writer.specs.declared.fault.JournalFault.TheVariants as fault

-- a disk as contracts see it
pub record Seen : Type 0 where
  pub history : History
  pub failures : ℕ

module _ {S : Type 0} where
  -- nothing was counted yet; nothing was changed before a refusal by length or stamp
  abbrev pub OpenAnswers : Limits → Seen → Seen → Result (Present S) JournalFault → Type 0
  OpenAnswers limits old new (Ok present) = (present.count ≡ 0) × (present.told ≡ 0) × (present.after ≡ 0)
  OpenAnswers limits old new (Err (fault.AlreadyFailed first)) = ⊥
  OpenAnswers limits old new (Err (fault.TooLong n)) = (limits.max_file < n) × (new.history ≡ old.history)
  OpenAnswers limits old new (Err (fault.LastStamp stamp)) = (stamp ≡ 2 ^ 63 - 1) × (new.history ≡ old.history)
  OpenAnswers limits old new (Err fault.Disk) = Rose old.failures new.failures
  OpenAnswers limits old new (Err fault.Memory) = Unit {0}

  -- The file has the fresh stamp of the clock, above all that stood; the last stamp is refused where a file has it.
  abbrev pub OpenMakes : (ℕ → Type 0) → Moment → Result (Present S) JournalFault → Type 0
  OpenMakes IsMoment m (Ok present) = IsFreshStamp IsMoment m present.stamp × IsAbove present.stamp m
  OpenMakes IsMoment m (Err (fault.LastStamp stamp)) = IsNewestBelow m.standing None (Some stamp)
  OpenMakes IsMoment m (Err (fault.AlreadyFailed first)) = Unit {0}
  OpenMakes IsMoment m (Err (fault.TooLong n)) = Unit {0}
  OpenMakes IsMoment m (Err fault.Disk) = Unit {0}
  OpenMakes IsMoment m (Err fault.Memory) = Unit {0}

  -- By the length of the fresh file: the files are read first, so a disk that fails may come before it.
  abbrev pub RefusesOpening : ℕ → ℕ → Result (Present S) JournalFault → Type 0
  RefusesOpening max_file needed (Ok present) = needed ≤ max_file
  RefusesOpening max_file needed (Err (fault.AlreadyFailed first)) = Unit {0}
  RefusesOpening max_file needed (Err (fault.TooLong n)) = (n ≡ needed) × (max_file < needed)
  RefusesOpening max_file needed (Err (fault.LastStamp stamp)) = needed ≤ max_file
  RefusesOpening max_file needed (Err fault.Disk) = Unit {0}
  RefusesOpening max_file needed (Err fault.Memory) = Unit {0}

-- The journal works for a state and no commands: its file alone restates the state, beside the foreign files.
pub record Starts {S C : Type 0} (kind : Kind S C) (limits : Limits) (old new : Moment)
    (present : Present S) (w : Waiting C) (s : S) : Type 0 where
  pub advances : JournalAdvances kind old new present w (restated kind s zero) (opened_account kind limits.max_file s) s []
  pub rest : IsAtRest new
  pub foreign : KeepsForeign old (as_it_reads new)

module _ {M D S C : Type 0} {m : machine.Ghosts M S C} {d : disk.Ghosts D} where
  -- the answer without the disk, and the disk that it has or hands back
  abbrev pub opened : Result (Journal M D S C m d) (D × JournalFault) → Result (Present S) JournalFault
  opened (Ok j) = Ok j.present
  opened (Err refused) = Err refused.1

  abbrev pub left_disk : Result (Journal M D S C m d) (D × JournalFault) → D
  left_disk (Ok j) = j.disk
  left_disk (Err refused) = refused.0

  abbrev pub AnswersOpening : D → Limits → Result (Journal M D S C m d) (D × JournalFault) → Type 0
  AnswersOpening disk limits result = OpenAnswers limits
      (record { history = d.history disk; failures = d.failed disk })
      (record { history = d.history (left_disk result); failures = d.failed (left_disk result) }) (opened result)

  abbrev pub MakesOpening : D → (ℕ → Type 0) → Result (Journal M D S C m d) (D × JournalFault) → Type 0
  MakesOpening disk IsMoment result = d.modelled → OpenMakes IsMoment (d.history disk).now (opened result)

  -- On a modelled disk at rest, with nothing told, for the state to which its files read.
  abbrev pub WhereReady : D → Result (Journal M D S C m d) (D × JournalFault) → (S → Type 0) → Type 0
  WhereReady disk result P = d.modelled → (s : S) → IsReady m.kind (d.history disk).now s → P s

  -- the length of the fresh file decides
  abbrev pub FitsOpening : Limits → Result (Journal M D S C m d) (D × JournalFault) → S → Type 0
  FitsOpening limits result s = RefusesOpening limits.max_file (length (fresh m.kind s)) (opened result)

  abbrev pub StartsAt : D → Limits → Result (Journal M D S C m d) (D × JournalFault) → S → Type 0
  StartsAt disk limits (Ok j) s = Starts m.kind limits (d.history disk).now (d.history j.disk).now j.present
      (waiting_in j.pending) s
  StartsAt disk limits (Err refused) s = Unit {0}

  -- a crash at any moment of the call leaves what reads to this state, and every foreign file
  abbrev pub LeavesStart : D → Result (Journal M D S C m d) (D × JournalFault) → S → Type 0
  LeavesStart disk result s =
      Leaves (d.history disk) (d.history (left_disk result)) (IsLeft m.kind (d.history disk).now s [])
