use Rattle.std.proofs.Common.{rules, FitsSigned, w32, ◌∙◌, pos, sym, ap, arith, int_lt}
use Rattle.std.proofs.lemmas.Int.{ints, to_z-of_z}
use Rattle.tab_pages.specs.PageLists.{prune_back}
use Rattle.tab_pages.proofs.PageLaws.{rising-filter}
use Rattle.tab_pages.proofs.PartLaws.{rising-applied, shifted-none, none-cut}
use Rattle.tab_pages.proofs.part.Part.prune_back.Goals as goal

pub returns-then-ends_before : goal.returns-then-ends_before
returns-then-ends_before c =
    let f : FitsSigned w32 c.self.inside.fall = search rules in
    let g : FitsSigned w32 c.args.index = c.ranges.index in
    let ends = simp (to_z-of_z, c.as_slice.ensures.value, c.self.view_is) at c.ends_before.ensures in
    sym (none-cut c.args.index c.args.self.now (sym ends ∙ c.if-ends_before.true))

pub invariant_of-self : goal.invariant_of-self
invariant_of-self c =
    let g : FitsSigned w32 c.args.index = c.ranges.index in
    let f : FitsSigned w32 c.self.inside.fall = search rules in
    let applied = simp to_z-of_z at c.apply_fall.ensures in
    let rising = rising-applied c.self.inside.fall c.self.inside.pages.items c.self.invariant.1 in
    let pruned = simp to_z-of_z at c.prune_back.ensures in
    (omega (arith, ints), rw (pruned, applied) (rising-filter (λ page. int_lt page.0 c.args.index) (pos 0) _ rising))

pub returns : goal.returns
returns c =
    let g : FitsSigned w32 c.args.index = c.ranges.index in
    let f : FitsSigned w32 c.self.inside.fall = search rules in
    let applied = simp to_z-of_z at c.apply_fall.ensures in
    let seen = applied ∙ c.self.view_is in
    let pruned = simp to_z-of_z at c.prune_back.ensures in
    shifted-none c.prune_back.new.pages.items ∙ pruned ∙ ap (prune_back c.args.index) seen
