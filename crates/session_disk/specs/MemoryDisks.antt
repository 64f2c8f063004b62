-- What a disk in memory stands for.
use Rattle.std.specs.Prelude.{◌≡◌, ℕ, Some, None, Result, IsOk, IsErrOf}
use Rattle.session_disk.specs.declared.failure.DiskError.{DiskError}
use Rattle.session_disk.specs.declared.failure.DiskError.TheVariants.{Failed}
use Rattle.session_disk.specs.declared.memory.failure_plan.Call.{Call}
use Rattle.session_disk.specs.declared.memory.disk.MemoryDisk.{MemoryDisk}
use Rattle.session_disk.specs.FailurePlans.{Plan, planned, after_call, after_part, failures_after}
use Rattle.session_disk.specs.FailurePlans as failing
use Rattle.session_disk.specs.Histories.{History}
use Rattle.session_disk.specs.Moments.{Moment}
use Rattle.session_disk.specs.Recordings as recorded

abbrev pub history_of : MemoryDisk → History
history_of disk = recorded.history_of disk.recording

abbrev pub failures_of : MemoryDisk → ℕ
failures_of disk = disk.failed_calls

-- the failures that are planned for calls to come
abbrev pub plan_of : MemoryDisk → Plan
plan_of disk = failing.plan_of disk.plan

-- A call of a kind was made, and gave this answer.
pub record IsCounted {T : Type 0} (call : Call) (old new : MemoryDisk) (result : Result T DiskError) : Type 0 where
  pub plan : plan_of new ≡ after_call call (plan_of old)
  pub failures : failures_of new ≡ failures_after result (failures_of old)

-- How a call whose work is counted meets the plan: all its work is done where no failure is planned for it, and it
-- fails after the planned part where one is. It may find no memory in either case.
pub record FailsAsPlanned {T : Type 0} (call : Call) (old new : MemoryDisk) (result : Result T DiskError) (all : ℕ) (step : ℕ → Moment → Moment) : Type 0 where
  pub ok : IsOk result → planned call (plan_of old) ≡ None
  pub failed : IsErrOf result Failed → (done : ℕ) × (planned call (plan_of old) ≡ Some done) × (history_of new ≡ after_part done all step (history_of old))
