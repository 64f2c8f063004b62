use Rattle.std.proofs.Common.{◌≡◌}
use Rattle.session_disk.specs.Moments.{IsAtRest}
use Rattle.session_disk.specs.MemoryDisks.{history_of}
use Rattle.disk_cases.proofs.safe_files.resting.Given as goal

abbrev pub invariant-loop-file : goal.invariant-loop-file
invariant-loop-file l = record {
  at_rest : IsAtRest (history_of l.disk).now;
  untold : (history_of l.disk).now.told ≡ 0;
}
