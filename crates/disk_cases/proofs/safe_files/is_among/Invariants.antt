use Rattle.std.proofs.Common.{◌≡◌, drop}
use Rattle.std.specs.Option.{is_some}
use Rattle.session_disk.specs.DiskFiles.{standing_in}
use Rattle.disk_cases.proofs.safe_files.is_among.Given as goal

abbrev pub invariant-loop-file : goal.invariant-loop-file
invariant-loop-file l = is_some (standing_in l.files l.stamp) ≡ is_some (standing_in (drop l.file-index l.files) l.stamp)
