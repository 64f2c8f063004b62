use Rattle.std.proofs.Common.{◌≤◌, drop, length, sym, ap, subst, ◌∙◌, FitsSigned, w32}
use Rattle.std.proofs.lemmas.Int.{to_z-of_z}
use Rattle.browser_driver.proofs.order.Orders.from.Goals as goal

pub ids_from-requires : goal.ids_from-requires
ids_from-requires c =
    let fits : FitsSigned w32 c.args.window = c.ranges.window in
    let is = simp to_z-of_z at c.of.ensures in
    subst (λ ids. c.args.place ≤ length ids) (sym is) c.requires

pub returns : goal.returns
returns c =
    let fits : FitsSigned w32 c.args.window = c.ranges.window in
    c.ids_from.ensures ∙ ap (drop c.args.place) (simp to_z-of_z at c.of.ensures)
