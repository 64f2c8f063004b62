use Rattle.std.proofs.Common.{◌<◌, [], length, sym, ap, subst, ◌∙◌, FitsSigned, w32}
use Rattle.std.specs.Option.{unwrap_or}
use Rattle.std.proofs.lemmas.Int.{to_z-of_z}
use Rattle.browser_driver.specs.Orders.{order_of}
use Rattle.browser_driver.proofs.order.Orders.shift.Goals as goal

pub shift-requires-clause-from : goal.shift-requires-clause-from
shift-requires-clause-from c =
    let fits : FitsSigned w32 c.args.window = c.ranges.window in
    let value = simp to_z-of_z at c.in-Some.ensures.value in
    let order_is = ap (λ o. unwrap_or o []) value ∙ ap (order_of c.args.window) c.self.view_is in
    subst (λ ids. c.args.from < length ids) (sym order_is) c.requires.from

pub shift-requires-clause-to : goal.shift-requires-clause-to
shift-requires-clause-to c =
    let fits : FitsSigned w32 c.args.window = c.ranges.window in
    let value = simp to_z-of_z at c.in-Some.ensures.value in
    let order_is = ap (λ o. unwrap_or o []) value ∙ ap (order_of c.args.window) c.self.view_is in
    subst (λ ids. c.args.to < length ids) (sym order_is) c.requires.to
