use Rattle.std.proofs.Common.{◌≡◌, ◌++◌, drop}
use Rattle.session_disk.specs.DiskFiles.{unsettled_stamps}
use Rattle.session_disk.proofs.memory.file_list.unsettled_stamps.Given as goal

abbrev pub invariant-loop-file : goal.invariant-loop-file
invariant-loop-file l = l.stamps.items ++ unsettled_stamps (drop l.file-index l.files) ≡ unsettled_stamps l.files
