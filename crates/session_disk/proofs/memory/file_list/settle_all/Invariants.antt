use Rattle.std.proofs.Common.{◌≡◌}
use Rattle.session_disk.proofs.DiskFiles.{settled_prefix}
use Rattle.session_disk.proofs.memory.file_list.settle_all.Given as goal

abbrev pub invariant-loop-file : goal.invariant-loop-file
invariant-loop-file l = l.file-items ≡ settled_prefix l.file-index l.initial.file-items
