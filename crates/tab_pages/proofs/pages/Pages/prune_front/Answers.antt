use Rattle.std.proofs.Common.{FitsSigned, w32, ◌≡◌, pos, int_lt, true, arith, ◌∙◌}
use Rattle.std.proofs.lemmas.Int.{ints, to_z-of_z}
use Rattle.tab_pages.specs.PartLists.{joined}
use Rattle.tab_pages.proofs.PageLaws.{rising-pruned, prune-front}
use Rattle.tab_pages.proofs.pages.Pages.prune_front.Goals as goal

pub invariant_of-self : goal.invariant_of-self
invariant_of-self c =
    let g : FitsSigned w32 c.args.count = c.ranges.count in
    let pruned = simp to_z-of_z at c.prune.ensures in
    rw pruned (rising-pruned (pos 0) c.args.count (pos 0) (pos 0) (joined c.self.inside.parts.items) (search (arith, ints)) (omega (arith, ints)) (omega (arith, ints)) c.self.invariant)

pub returns-then-count-gt0 : goal.returns-then-count-gt0
returns-then-count-gt0 c =
    let g : FitsSigned w32 c.args.count = c.ranges.count in
    let pruned = simp to_z-of_z at c.prune.ensures in
    let positive : int_lt (pos 0) c.args.count ≡ true = grind (arith, ints) in
    let front = prune-front c.args.count (pos 0) (joined c.self.inside.parts.items) (search (arith, ints)) (omega (arith, ints)) c.self.invariant in
    rw positive (pruned ∙ rw (← c.self.view_is) front)
