-- The refusals of a rotation for the errors of its parts.
use Rattle.session_disk.specs.declared.failure.DiskError.{DiskError}
use Rattle.session_disk.specs.declared.failure.DiskError.TheVariants as error
use Rattle.file_rotation.specs.declared.fault.RotateFault.{RotateFault}
use Rattle.file_rotation.specs.declared.fault.RotateFault.TheVariants as part
use Rattle.fresh_files.specs.declared.lay.LayFault.{LayFault}
use Rattle.fresh_files.specs.declared.lay.LayFault.TheVariants as laying
use Rattle.fresh_files.specs.declared.rotation.RotationFault.{RotationFault}
use Rattle.fresh_files.specs.declared.rotation.RotationFault.TheVariants as rotation

-- a disk's error behind the creation of the fresh file
abbrev pub lay_fault_of : DiskError → LayFault
lay_fault_of error.Failed = laying.Disk
lay_fault_of error.Memory = laying.Memory

-- an error while the older files are cleared away
abbrev pub clearing_fault_of : RotateFault → LayFault
clearing_fault_of part.Disk = laying.Disk
clearing_fault_of part.Memory = laying.Memory

-- a file that wasn't laid, as a refusal of the rotation
abbrev pub laying_fault_of : LayFault → RotationFault
laying_fault_of laying.Disk = rotation.Disk
laying_fault_of laying.NotMade = rotation.MemoryBefore
laying_fault_of laying.Memory = rotation.MemoryAfter
