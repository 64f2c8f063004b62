use Rattle.std.proofs.Common.{[], ap, ◌∙◌, FitsSigned, w32}
use Rattle.std.specs.Option.{unwrap_or}
use Rattle.std.proofs.lemmas.Int.{to_z-of_z}
use Rattle.browser_driver.specs.Orders.{order_of}
use Rattle.browser_driver.proofs.order.Orders.of.Goals as goal

pub returns-in-Some : goal.returns-in-Some
returns-in-Some c =
    let fits : FitsSigned w32 c.args.window = c.ranges.window in
    let value = simp to_z-of_z at c.in-Some.ensures.value in
    c.as_slice.ensures ∙ ap (λ o. unwrap_or o []) value ∙ ap (order_of c.args.window) c.self.view_is

pub returns-in-None : goal.returns-in-None
returns-in-None c =
    let fits : FitsSigned w32 c.args.window = c.ranges.window in
    let value = simp to_z-of_z at c.in-None.ensures.value in
    ap (λ o. unwrap_or o []) value ∙ ap (order_of c.args.window) c.self.view_is
