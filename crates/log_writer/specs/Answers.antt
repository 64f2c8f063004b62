-- What each answer of a call says of the journal before it and after it.
use Rattle.std.specs.Prelude.{◌≡◌, ◌⊎◌, ℕ, suc, ◌+◌, ◌-◌, ◌<◌, ◌≤◌, ◌^◌, Bool, true, false, Option, None, Some, Result, Ok, Err, MatchBool, length}
use Rattle.machine_law.specs.declared.machine.Machine as machine
use Rattle.session_disk.specs.declared.disk.SessionDisk as disk
use Rattle.session_disk.specs.Causes.{Rose}
use Rattle.session_disk.specs.Moments.{IsNewestBelow}
use Rattle.fresh_files.specs.Fresh.{fresh, frame_length}
use Rattle.log_writer.specs.Account.{Account, Outcome, Becomes, state_of, restated, compacted, synced, extended, rotated, written}
use Rattle.fresh_files.specs.Lay.{IsAbove}
use Rattle.fresh_files.specs.Rotation.{IsFreshStamp}
use Rattle.log_writer.specs.Waiting.{waiting_in}
use Rattle.log_writer.specs.Steps.{is_due, extent_before, needed, Stepped, Unstepped, Restated}
use Rattle.log_writer.specs.Log.{Log, log}
use Rattle.log_writer.specs.declared.journal.Extent.{Extent}
use Rattle.log_writer.specs.declared.journal.Journal.{Journal}
use Rattle.log_writer.specs.declared.fault.First.{First}
use Rattle.log_writer.specs.declared.fault.First.TheVariants as first
use Rattle.log_writer.specs.declared.fault.JournalFault.{JournalFault}
use Rattle.log_writer.specs.declared.fault.JournalFault.TheVariants as fault

-- whether a call rotates, and how many bytes its file then has, where it makes one longer
pub record Call : Type 0 where
  pub rotates : Bool
  pub needs : Option ℕ

-- a call that adds to the file, up to so many bytes
abbrev pub extension : ℕ → Call
extension needs = record { rotates = false; needs = Some needs }

-- a call that makes a fresh file of so many bytes
abbrev pub rotation : ℕ → Call
rotation needs = record { rotates = true; needs = Some needs }

abbrev pub sync_call : Call
sync_call = record { rotates = false; needs = None }

abbrev pub IsWithin : Option ℕ → ℕ → Type 0
IsWithin None max_file = Unit {0}
IsWithin (Some needed) max_file = needed ≤ max_file

-- Want of memory is kept as the first failure only by a rotation.
abbrev pub KeepsMemory : Bool → Option First → Type 0
KeepsMemory rotates failed = (failed ≡ None) ⊎ ((failed ≡ Some first.Memory) × (rotates ≡ true))

-- the limits stay, and the count of failures never falls
pub record IsLater {S C : Type 0} (old new : Log S C) : Type 0 where
  pub limits : new.limits ≡ old.limits
  pub failures : old.failures ≤ new.failures

module _ {S C T : Type 0} where
  -- on every disk
  abbrev pub LogAnswers : Call → Log S C → Log S C → Result T JournalFault → Type 0
  LogAnswers call old new (Ok x) = (old.failed ≡ None) × (new.failed ≡ None) × IsWithin call.needs old.limits.max_file
  LogAnswers call old new (Err (fault.AlreadyFailed first)) = (old.failed ≡ Some first) × (new ≡ old)
  LogAnswers call old new (Err (fault.TooLong n)) =
      (old.failed ≡ None) × (call.needs ≡ Some n) × (old.limits.max_file < n) × (new ≡ old)
  LogAnswers call old new (Err (fault.LastStamp stamp)) =
      (old.failed ≡ None) × (call.rotates ≡ true) × (stamp ≡ 2 ^ 63 - 1) × IsWithin call.needs old.limits.max_file
      × (new ≡ record old { failures = new.failures })
  LogAnswers call old new (Err fault.Disk) =
      (old.failed ≡ None) × (new.failed ≡ Some (first.Disk new.failures)) × Rose old.failures new.failures
      × IsWithin call.needs old.limits.max_file
  LogAnswers call old new (Err fault.Memory) = (old.failed ≡ None) × KeepsMemory call.rotates new.failed

  -- On a modelled disk: a rotation's file has the fresh stamp of the clock, above all that stood; the last stamp is
  -- refused where a file has it; want of memory fails a journal only where a fresh file was made.
  abbrev pub LogMakes : Call → (ℕ → Type 0) → Log S C → Log S C → Result T JournalFault → Type 0
  LogMakes call IsMoment old new (Ok x) = MatchBool call.rotates
      (IsFreshStamp IsMoment old.history.now new.present.stamp × IsAbove new.present.stamp old.history.now)
      (new.present.stamp ≡ old.present.stamp)
  LogMakes call IsMoment old new (Err (fault.LastStamp stamp)) = IsNewestBelow old.history.now.standing None (Some stamp)
  LogMakes call IsMoment old new (Err fault.Memory) =
      new.failed ≡ Some first.Memory → new.history.now.creates ≡ old.history.now.creates + 1
  LogMakes call IsMoment old new (Err (fault.AlreadyFailed first)) = Unit {0}
  LogMakes call IsMoment old new (Err (fault.TooLong n)) = Unit {0}
  LogMakes call IsMoment old new (Err fault.Disk) = Unit {0}

module _ {M D S C : Type 0} {m : machine.Ghosts M S C} {d : disk.Ghosts D} where
  -- what is there without a frame that waits and is covered
  abbrev pub behind_spared : Journal M D S C m d → C → Extent
  behind_spared j command = extent_before m.kind j.present (waiting_in j.pending) command

  abbrev pub write_call : Journal M D S C m d → C → Call
  write_call j command = record {
    rotates = is_due j.limits (behind_spared j command) (frame_length m.kind command);
    needs = Some (needed m.kind j.limits j.present (waiting_in j.pending) command);
  }

  abbrev pub compact_call : Journal M D S C m d → Call
  compact_call j = rotation (length (fresh m.kind j.present.state))

  abbrev pub extend_call : Journal M D S C m d → C → Call
  extend_call j command = extension ((behind_spared j command).length + frame_length m.kind command)

  abbrev pub restate_call : Journal M D S C m d → C → Call
  restate_call j command = rotation (length (fresh m.kind j.present.state) + frame_length m.kind command)

  -- the next account after each call
  abbrev pub writes : Journal M D S C m d → C → Account S C → Outcome S C
  writes j command a = written m.kind j.limits.every j.limits.max_file a command

  abbrev pub extends : Journal M D S C m d → C → Account S C → Outcome S C
  extends j command a = extended m.kind j.limits.max_file a command

  abbrev pub rotates : Journal M D S C m d → C → Account S C → Outcome S C
  rotates j command a = rotated m.kind j.limits.max_file a command

  abbrev pub compacts : Journal M D S C m d → Account S C → Outcome S C
  compacts j a = compacted m.kind j.limits.max_file a

  abbrev pub restates : Journal M D S C m d → Account S C → Outcome S C
  restates j a = Becomes (restated m.kind (state_of m.kind a) (suc a.made))

  abbrev pub syncs : Journal M D S C m d → Account S C → Outcome S C
  syncs j a = Becomes (synced m.kind a)

  abbrev pub Answers : {T : Type 0} → Call → Journal M D S C m d → Journal M D S C m d → Result T JournalFault → Type 0
  Answers call old new result = LogAnswers call (log old) (log new) result

  abbrev pub Makes : {T : Type 0} → Call → (ℕ → Type 0) → Journal M D S C m d → Journal M D S C m d → Result T JournalFault → Type 0
  Makes call IsMoment old new result = d.modelled → LogMakes call IsMoment (log old) (log new) result

  abbrev pub Lasts : Journal M D S C m d → Journal M D S C m d → Type 0
  Lasts old new = IsLater (log old) (log new)

  -- what the journal knows, after a command, after a fresh file of its state, and after a sync
  abbrev pub StepsBy : {T : Type 0} → C → Journal M D S C m d → Journal M D S C m d → Result T JournalFault → Type 0
  StepsBy command old new (Ok x) = Stepped m.kind old.present new.present command
  StepsBy command old new (Err why) = Unstepped old.present new.present

  abbrev pub RestatesIn : {T : Type 0} → ℕ → Journal M D S C m d → Journal M D S C m d → Result T JournalFault → Type 0
  RestatesIn bytes old new (Ok x) = Restated old.present new.present bytes
  RestatesIn bytes old new (Err why) = new.present ≡ old.present

  abbrev pub TellsAll : {T : Type 0} → Journal M D S C m d → Journal M D S C m d → Result T JournalFault → Type 0
  TellsAll old new (Ok x) = new.present ≡ record old.present { told = old.present.count }
  TellsAll old new (Err why) = new.present ≡ old.present
