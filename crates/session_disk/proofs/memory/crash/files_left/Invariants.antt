use Rattle.std.proofs.Common.{take}
use Rattle.session_disk.specs.ChangeLog.{moment_of}
use Rattle.session_disk.proofs.CrashLoop.{Laid}
use Rattle.session_disk.proofs.memory.crash.files_left.Given as goal

abbrev pub invariant-loop-keep : goal.invariant-loop-keep
invariant-loop-keep l = Laid (moment_of l.files l.removed 0 0) (take l.keep-index l.keeps) l.left.items
