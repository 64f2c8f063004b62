use Rattle.std.proofs.Common.{◌≡◌, drop}
use Rattle.std.specs.Option.{is_some}
use Rattle.session_disk.specs.Crashes.{kept_under}
use Rattle.session_disk.proofs.memory.crash.names.Given as goal

abbrev pub invariant-loop-keep : goal.invariant-loop-keep
invariant-loop-keep l = is_some (kept_under l.stamp l.keeps) ≡ is_some (kept_under l.stamp (drop l.keep-index l.keeps))
