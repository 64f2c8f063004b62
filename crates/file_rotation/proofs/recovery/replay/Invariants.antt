use Rattle.std.proofs.Common.{◌≡◌, ◌≤◌, ◌-◌}
use Rattle.session_disk.specs.Moments.{bytes_at}
use Rattle.file_reading.specs.FrameReading.{IsReading}
use Rattle.file_rotation.proofs.FoldLaws.{FoldedTo}
use Rattle.file_rotation.proofs.recovery.replay.Given as goal

abbrev pub invariant-loop-reader : goal.invariant-loop-reader
invariant-loop-reader g l = record {
  stamp : l.reader.stamp ≡ l.stamp;
  reading : IsReading g.D.SessionDisk.modelled (bytes_at l.stamp (g.D.SessionDisk.history l.fn.disk).now) l.reader;
  unchanged : g.D.SessionDisk.history l.disk ≡ g.D.SessionDisk.history l.fn.disk;
  later : g.D.SessionDisk.failed l.fn.disk ≤ g.D.SessionDisk.failed l.disk;
  folded : g.D.SessionDisk.modelled → FoldedTo g.M.Machine.kind (bytes_at l.stamp (g.D.SessionDisk.history l.fn.disk).now) l.reader.feed.at l.state l.commands l.is_marked;
}

abbrev pub decreases-loop-reader : goal.decreases-loop-reader
decreases-loop-reader g l = l.reader.end - l.reader.feed.at
