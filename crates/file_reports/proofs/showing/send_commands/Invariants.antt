use Rattle.std.proofs.Common.{◌≡◌, ◌≤◌, ◌-◌}
use Rattle.session_disk.specs.Moments.{bytes_at}
use Rattle.file_reading.specs.FrameReading.{IsReading}
use Rattle.file_reports.proofs.ShowLaws.{Walked}
use Rattle.file_reports.proofs.showing.send_commands.Given as goal

abbrev pub invariant-loop-reader : goal.invariant-loop-reader
invariant-loop-reader g l = record {
  stamp : l.reader.stamp ≡ l.stamp;
  reading : IsReading g.D.SessionDisk.modelled (bytes_at l.stamp (g.D.SessionDisk.history l.fn.disk).now) l.reader;
  unchanged : g.D.SessionDisk.history l.disk ≡ g.D.SessionDisk.history l.fn.disk;
  walked : g.D.SessionDisk.modelled → Walked l.family (g.K.Sink.written l.fn.out) (g.K.Sink.written l.out) l.fn.waiting.items l.waiting.items (bytes_at l.stamp (g.D.SessionDisk.history l.fn.disk).now) l.reader.feed.at;
  disk_later : g.D.SessionDisk.failed l.fn.disk ≤ g.D.SessionDisk.failed l.disk;
  sink_later : g.K.Sink.faults l.fn.out ≤ g.K.Sink.faults l.out;
}

abbrev pub decreases-loop-reader : goal.decreases-loop-reader
decreases-loop-reader g l = l.reader.end - l.reader.feed.at
