use Rattle.std.proofs.Common.{◌≡◌, ◌≤◌, ◌-◌, List, Contains}
use Rattle.snss_frames.specs.Frame.{Frame, marker}
use Rattle.session_disk.specs.Moments.{bytes_at}
use Rattle.file_reading.specs.FrameReading.{IsReading}
use Rattle.file_rotation.proofs.WalkLaws.{Passed}
use Rattle.file_rotation.proofs.choice.is_marked.Given as goal

abbrev pub invariant-loop-reader : goal.invariant-loop-reader
invariant-loop-reader g l = record {
  stamp : l.reader.stamp ≡ l.stamp;
  reading : IsReading g.D.SessionDisk.modelled (bytes_at l.stamp (g.D.SessionDisk.history l.fn.disk).now) l.reader;
  unchanged : g.D.SessionDisk.history l.disk ≡ g.D.SessionDisk.history l.fn.disk;
  later : g.D.SessionDisk.failed l.fn.disk ≤ g.D.SessionDisk.failed l.disk;
  passed : g.D.SessionDisk.modelled → (frames : List Frame) × Passed (bytes_at l.stamp (g.D.SessionDisk.history l.fn.disk).now) l.reader.feed.at frames × (Contains frames marker → ⊥);
}

abbrev pub decreases-loop-reader : goal.decreases-loop-reader
decreases-loop-reader g l = l.reader.end - l.reader.feed.at
