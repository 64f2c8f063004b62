use Rattle.std.proofs.Common.{◌≤◌}
use Rattle.file_rotation.proofs.ClearingLaws.{ClearedFrom}
use Rattle.file_rotation.proofs.clearing.remove_older.Given as goal

abbrev pub invariant-loop-older : goal.invariant-loop-older
invariant-loop-older g l = record {
  later : g.D.SessionDisk.failed l.fn.disk ≤ g.D.SessionDisk.failed l.disk;
  within : l.bound ≤ l.stamp;
  cleared : g.D.SessionDisk.modelled → ClearedFrom l.stamp l.bound (g.D.SessionDisk.history l.fn.disk) (g.D.SessionDisk.history l.disk);
}

abbrev pub decreases-loop-older : goal.decreases-loop-older
decreases-loop-older g l = l.bound
