use Rattle.std.proofs.Common.{◌<◌, length, sym, ap, subst, ◌∙◌, FitsSigned, w32}
use Rattle.std.proofs.lemmas.Int.{to_z-of_z}
use Rattle.browser_driver.specs.Orders.{between}
use Rattle.browser_driver.proofs.order.Orders.between.Goals as goal

pub ids_between-requires-clause-within : goal.ids_between-requires-clause-within
ids_between-requires-clause-within c =
    let fits : FitsSigned w32 c.args.window = c.ranges.window in
    let is = simp to_z-of_z at c.of.ensures in
    subst (λ ids. c.args.last < length ids) (sym is) c.requires.within

pub returns : goal.returns
returns c =
    let fits : FitsSigned w32 c.args.window = c.ranges.window in
    c.ids_between.ensures ∙ ap (between c.args.first c.args.last) (simp to_z-of_z at c.of.ensures)
