use Rattle.std.proofs.Common.{◌<◌, ◌^◌, IfSome}
use Rattle.session_disk.proofs.real.folder.Folder.newest_below.Given as goal

abbrev pub invariant-loop-entry : goal.invariant-loop-entry
invariant-loop-entry g l =
    ((goal.iterator-loop-entry g).can_next l.entry-iterator) × ((goal.iterator-loop-entry g).is_finite l.entry-iterator) × (IfSome l.newest (λ stamp. stamp < 2 ^ 63)) × (IfSome l.newest (λ stamp. IfSome l.below (λ bound. stamp < bound)))
