use Rattle.std.proofs.Common.{◌≡◌, map, take}
use Rattle.tab_pages.specs.PartLists.{joined}
use Rattle.tab_pages.proofs.parts.navigations.Given as goal

abbrev pub invariant-loop-part : goal.invariant-loop-part
invariant-loop-part l = l.copied.items ≡ map (λ page. page.1) (joined (take l.part-index l.parts))
