use Rattle.std.proofs.Common.{◌≡◌, ◌<◌, ◌+◌, ◌-◌, length, drop}
use Rattle.tab_pages.specs.PartLists.{part_of}
use Rattle.tab_pages.proofs.parts.find_part.Given as goal

abbrev pub invariant-loop-number : goal.invariant-loop-number
invariant-loop-number l = (l.number < length l.parts) × (l.number + part_of l.index (drop l.number l.parts) ≡ part_of l.index l.parts)

abbrev pub decreases-loop-number : goal.decreases-loop-number
decreases-loop-number l = length l.parts - l.number
