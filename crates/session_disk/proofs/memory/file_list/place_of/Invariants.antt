use Rattle.std.proofs.Common.{◌≡◌, ◌+◌, drop}
use Rattle.session_disk.specs.DiskFiles.{place_of}
use Rattle.session_disk.proofs.memory.file_list.place_of.Given as goal

abbrev pub invariant-loop-i : goal.invariant-loop-i
invariant-loop-i l = place_of l.stamp l.files ≡ l.i + place_of l.stamp (drop l.i l.files)
