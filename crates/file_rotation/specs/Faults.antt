-- When a call may answer that the disk failed: only where the disk's own count of failures rose in this call. Want of
-- memory may come at any time.
use Rattle.std.specs.Prelude.{ℕ, ◌≤◌, Result, IsErrOf}
use Rattle.session_disk.specs.declared.failure.DiskError.{DiskError}
use Rattle.session_disk.specs.declared.failure.DiskError.TheVariants as error
use Rattle.session_disk.specs.Causes.{Rose}
use Rattle.file_rotation.specs.declared.fault.RotateFault.{RotateFault}
use Rattle.file_rotation.specs.declared.fault.RotateFault.TheVariants as fault

-- a disk's error as an answer
abbrev pub fault_of : DiskError → RotateFault
fault_of error.Failed = fault.Disk
fault_of error.Memory = fault.Memory

pub record RotateHasCause {T : Type 0} (before now : ℕ) (result : Result T RotateFault) : Type 0 where
  pub later : before ≤ now
  pub failed : IsErrOf result fault.Disk → Rose before now
