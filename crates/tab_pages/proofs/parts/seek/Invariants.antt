use Rattle.std.proofs.Common.{◌≡◌, drop, length}
use Rattle.tab_pages.specs.PartLists.{joined}
use Rattle.tab_pages.proofs.parts.seek.Given as goal

abbrev pub invariant-loop-part : goal.invariant-loop-part
invariant-loop-part l = drop l.skip (joined l.left) ≡ drop l.place (joined l.parts)

abbrev pub decreases-loop-part : goal.decreases-loop-part
decreases-loop-part l = length l.left
