use Rattle.std.proofs.Common.{FitsSigned, w32, pos, int_lt}
use Rattle.std.proofs.lemmas.Int.{to_z-of_z}
use Rattle.tab_pages.specs.PartLists.{joined}
use Rattle.tab_pages.proofs.PageLaws.{rising-filter}
use Rattle.tab_pages.proofs.pages.Pages.prune_back.Goals as goal

pub invariant_of-self : goal.invariant_of-self
invariant_of-self c =
    let f : FitsSigned w32 c.args.index = c.ranges.index in
    let pruned = simp to_z-of_z at c.prune_back.ensures in
    rw pruned (rising-filter (λ page. int_lt page.0 c.args.index) (pos 0) (joined c.self.inside.parts.items) c.self.invariant)
