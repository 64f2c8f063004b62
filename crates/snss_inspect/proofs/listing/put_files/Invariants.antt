use Rattle.std.proofs.Common.{◌≡◌, ◌<◌, ◌≤◌, ◌^◌, List, None, Option, IfSome, IsSome}
use Rattle.session_disk.specs.Images.{as_it_reads}
use Rattle.file_rotation.specs.declared.choice.Chosen.{Chosen}
use Rattle.file_rotation.specs.Choice.{IsChoice}
use Rattle.file_rotation.proofs.SearchLaws.{room}
use Rattle.snss_inspect.specs.Listings.{ListedFile, AreListed, file_lines}
use Rattle.snss_inspect.proofs.ListingLaws.{Listing}
use Rattle.snss_inspect.proofs.listing.put_files.Given as goal

abbrev pub invariant-loop-next : goal.invariant-loop-next
invariant-loop-next g l = record {
  unchanged : g.D.SessionDisk.history l.disk ≡ g.D.SessionDisk.history l.fn.disk;
  disk_later : g.D.SessionDisk.failed l.fn.disk ≤ g.D.SessionDisk.failed l.disk;
  sink_later : g.K.Sink.faults l.fn.out ≤ g.K.Sink.faults l.out;
  in_range : IfSome l.next (λ stamp. stamp < 2 ^ 63);
  stands : g.D.SessionDisk.modelled → IfSome l.next (λ stamp. IsSome ((g.D.SessionDisk.history l.fn.disk).now.standing stamp));
  lists : g.D.SessionDisk.modelled → (files : List ListedFile) (chosen : Option Chosen) →
      AreListed (as_it_reads (g.D.SessionDisk.history l.fn.disk).now) None files →
      IsChoice (as_it_reads (g.D.SessionDisk.history l.fn.disk).now) chosen →
      Listing (g.D.SessionDisk.history l.fn.disk).now l.family chosen (file_lines l.family chosen files) l.next l.has_lawful
      (g.K.Sink.written l.fn.out) (g.K.Sink.written l.out) l.fn.waiting.items l.waiting.items;
}

abbrev pub decreases-loop-next : goal.decreases-loop-next
decreases-loop-next g l = room l.next
