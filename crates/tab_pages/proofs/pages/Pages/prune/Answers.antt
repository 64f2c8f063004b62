use Rattle.std.proofs.Common.{FitsSigned, w32, pos, arith}
use Rattle.std.proofs.lemmas.Int.{ints, to_z-of_z}
use Rattle.tab_pages.specs.PartLists.{joined}
use Rattle.tab_pages.proofs.PageLaws.{rising-pruned}
use Rattle.tab_pages.proofs.pages.Pages.prune.Goals as goal

pub invariant_of-self : goal.invariant_of-self
invariant_of-self c =
    let f : FitsSigned w32 c.args.index = c.ranges.index in
    let g : FitsSigned w32 c.args.count = c.ranges.count in
    let pruned = simp to_z-of_z at c.prune.ensures in
    rw pruned (rising-pruned c.args.index c.args.count (pos 0) (pos 0) (joined c.self.inside.parts.items) (search (arith, ints)) (grind (arith, ints)) (omega (arith, ints)) c.self.invariant)
