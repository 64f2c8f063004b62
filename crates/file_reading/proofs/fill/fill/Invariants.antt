use Rattle.std.proofs.Common.{◌≡◌, ◌<◌, ◌≤◌, ◌-◌, length}
use Rattle.session_disk.specs.Moments.{IsBytes, bytes_at}
use Rattle.file_reading.proofs.FillLaws.{IsFilledTo}
use Rattle.file_reading.proofs.fill.fill.Given as goal

abbrev pub invariant-loop-filled : goal.invariant-loop-filled
invariant-loop-filled g l = record {
  unchanged : g.D.SessionDisk.history l.disk ≡ g.D.SessionDisk.history l.fn.disk;
  later : g.D.SessionDisk.failed l.fn.disk ≤ g.D.SessionDisk.failed l.disk;
  room : l.filled ≤ length l.into;
  range : g.D.SessionDisk.modelled → 0 < l.filled → IsBytes (bytes_at l.stamp (g.D.SessionDisk.history l.fn.disk).now);
  filled : g.D.SessionDisk.modelled → IsFilledTo (bytes_at l.stamp (g.D.SessionDisk.history l.fn.disk).now) l.filled l.into;
}

abbrev pub decreases-loop-filled : goal.decreases-loop-filled
decreases-loop-filled g l = length l.into - l.filled
