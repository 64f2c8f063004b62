use Rattle.std.proofs.Common.{◌≡◌, ◌+◌, suc, drop, length, ap, ◌∙◌, arith, FitsSigned, w32}
use Rattle.std.proofs.lemmas.Int.{to_z-of_z}
use Rattle.std.proofs.lemmas.List.{length-drop}
use Rattle.browser_driver.specs.Orders.{order_of}
use Rattle.browser_driver.specs.Places.{with_places}
use Rattle.browser_driver.proofs.moving.settle.Goals as goal

pub from-requires : goal.from-requires
from-requires c =
    let fits : FitsSigned w32 c.args.own = c.ranges.own in
    simp to_z-of_z (omega (arith, c.requires.from))

pub set_places-requires : goal.set_places-requires
set_places-requires c =
    let fits : FitsSigned w32 c.args.own = c.ranges.own in
    let ids = order_of c.args.own c.args.orders.now in
    let count = ap length (simp to_z-of_z at c.from.ensures) ∙ length-drop (c.args.from + 1) ids in
    omega (arith, count, c.requires.own, c.requires.from)

pub set_places-requires-2 : goal.set_places-requires-2
set_places-requires-2 c =
    let fits : FitsSigned w32 c.args.window = c.ranges.window in
    let ids = order_of c.args.window c.args.orders.now in
    let count = ap length (simp to_z-of_z at c.from-2.ensures) ∙ length-drop c.args.to ids in
    omega (arith, count, c.requires.window, c.requires.to)

pub returns-clause-state : goal.returns-clause-state
returns-clause-state c =
    let of_own : FitsSigned w32 c.args.own = c.ranges.own in
    let of_window : FitsSigned w32 c.args.window = c.ranges.window in
    let s = c.args.state.now in
    let from = c.args.from in
    let own = order_of c.args.own c.args.orders.now in
    let behind = drop c.args.to (order_of c.args.window c.args.orders.now) in
    let next : from + 1 ≡ suc from = omega arith in
    c.set_places-2.ensures
    ∙ ap (λ us. with_places c.args.to us c.set_places.new.state) (simp to_z-of_z at c.from-2.ensures)
    ∙ ap (with_places c.args.to behind) (c.set_places.ensures
    ∙ ap (λ us. with_places from us s) (simp to_z-of_z at c.from.ensures ∙ ap (λ n. drop n own) next))
