use Rattle.std.proofs.Common.{◌≡◌, ◌++◌, map, take, drop}
use Rattle.tab_pages.specs.PageLists.{pruned}
use Rattle.tab_pages.proofs.parts.prune_all.Given as goal

abbrev pub invariant-loop-part : goal.invariant-loop-part
invariant-loop-part l = l.parts ≡ map (pruned l.first l.count) (take l.part-index l.initial.parts) ++ drop l.part-index l.initial.parts
