use Rattle.std.proofs.Common.{◌≡◌, length, take}
use Rattle.tab_pages.specs.PageLists.{prune_back}
use Rattle.tab_pages.specs.PartLists.{joined}
use Rattle.tab_pages.proofs.parts.count_before.Given as goal

abbrev pub invariant-loop-part : goal.invariant-loop-part
invariant-loop-part l = l.count ≡ length (prune_back l.index (joined (take l.part-index l.parts)))
