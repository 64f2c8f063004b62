use Rattle.std.proofs.Common.{◌≡◌, ◌<◌, ◌≤◌, ◌^◌, IfSome}
use Rattle.file_rotation.proofs.SearchLaws.{room, Searched}
use Rattle.file_rotation.proofs.choice.choose.Given as goal

abbrev pub invariant-loop-next : goal.invariant-loop-next
invariant-loop-next g l = record {
  unchanged : g.D.SessionDisk.history l.disk ≡ g.D.SessionDisk.history l.fn.disk;
  later : g.D.SessionDisk.failed l.fn.disk ≤ g.D.SessionDisk.failed l.disk;
  in_range : IfSome l.next (λ stamp. stamp < 2 ^ 63);
  searched : g.D.SessionDisk.modelled → Searched (g.D.SessionDisk.history l.fn.disk).now l.next;
}

abbrev pub decreases-loop-next : goal.decreases-loop-next
decreases-loop-next g l = room l.next
