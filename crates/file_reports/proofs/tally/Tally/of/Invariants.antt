use Rattle.std.proofs.Common.{◌≡◌, ◌≤◌, ◌-◌}
use Rattle.session_disk.specs.Moments.{bytes_at}
use Rattle.file_reading.specs.FrameReading.{IsReading}
use Rattle.file_reports.proofs.WalkLaws.{Ahead}
use Rattle.file_reports.proofs.TallyLaws.{MakesUp}
use Rattle.file_reports.proofs.tally.Tally.of.Given as goal

abbrev pub invariant-loop-reader : goal.invariant-loop-reader
invariant-loop-reader g l = record {
  stamp : l.reader.stamp ≡ l.stamp;
  reading : IsReading g.D.SessionDisk.modelled (bytes_at l.stamp (g.D.SessionDisk.history l.fn.disk).now) l.reader;
  unchanged : g.D.SessionDisk.history l.disk ≡ g.D.SessionDisk.history l.fn.disk;
  later : g.D.SessionDisk.failed l.fn.disk ≤ g.D.SessionDisk.failed l.disk;
  ahead : g.D.SessionDisk.modelled → Ahead (MakesUp l.family l.tally l.reader.feed.at) (bytes_at l.stamp (g.D.SessionDisk.history l.fn.disk).now) l.reader.feed.at;
  few : l.tally.commands ≤ l.reader.feed.at;
  fewer : l.tally.raw ≤ l.tally.commands;
}

abbrev pub decreases-loop-reader : goal.decreases-loop-reader
decreases-loop-reader g l = l.reader.end - l.reader.feed.at
