use Rattle.std.proofs.Common.{◌≡◌, ◌≤◌, ◌-◌, ◌+◌, length}
use Rattle.session_disk.specs.Moments.{bytes_at}
use Rattle.file_reading.specs.FrameReading.{IsHeldOf}
use Rattle.file_reading.proofs.reader.fill.Given as goal

abbrev pub invariant-loop-disk : goal.invariant-loop-disk
invariant-loop-disk g l = record {
  piece : length l.piece ≡ length l.fn.piece;
  at : l.feed.at ≡ l.fn.feed.at;
  within : l.feed.at + length l.feed.held ≤ l.end;
  held : g.D.SessionDisk.modelled → IsHeldOf (bytes_at l.stamp (g.D.SessionDisk.history l.fn.disk).now) l.feed;
  unchanged : g.D.SessionDisk.history l.disk ≡ g.D.SessionDisk.history l.fn.disk;
  later : g.D.SessionDisk.failed l.fn.disk ≤ g.D.SessionDisk.failed l.disk;
}

abbrev pub decreases-loop-disk : goal.decreases-loop-disk
decreases-loop-disk g l = l.end - (l.feed.at + length l.feed.held)
