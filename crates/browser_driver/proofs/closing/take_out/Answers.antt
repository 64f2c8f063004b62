use Rattle.std.proofs.Common.{◌≡◌, ◌+◌, suc, drop, length, ap, ◌∙◌, arith, FitsSigned, w32}
use Rattle.std.proofs.lemmas.Int.{to_z-of_z}
use Rattle.std.proofs.lemmas.List.{length-drop}
use Rattle.browser_driver.specs.Orders.{order_of}
use Rattle.browser_driver.specs.Places.{with_places}
use Rattle.browser_driver.proofs.closing.take_out.Goals as goal

pub from-requires : goal.from-requires
from-requires c =
    let fits : FitsSigned w32 c.args.window = c.ranges.window in
    simp to_z-of_z (omega (arith, c.requires.within))

pub set_places-requires : goal.set_places-requires
set_places-requires c =
    let fits : FitsSigned w32 c.args.window = c.ranges.window in
    let ids = order_of c.args.window c.args.orders.now in
    let later = simp to_z-of_z at c.from.ensures in
    let count = ap length later ∙ length-drop (c.args.place + 1) ids in
    omega (arith, count, c.requires.few)

pub remove-requires : goal.remove-requires
remove-requires c =
    let fits : FitsSigned w32 c.args.window = c.ranges.window in
    simp to_z-of_z c.requires.within

pub returns-clause-state : goal.returns-clause-state
returns-clause-state c =
    let fits : FitsSigned w32 c.args.window = c.ranges.window in
    let of_id : FitsSigned w32 c.args.id = c.ranges.id in
    let ids = order_of c.args.window c.args.orders.now in
    let later = simp to_z-of_z at c.from.ensures in
    let closed = simp to_z-of_z at c.close_tab.ensures in
    let next : c.args.place + 1 ≡ suc c.args.place = omega arith in
    c.set_places.ensures ∙ ap (λ us. with_places c.args.place us c.close_tab.new.self) later
    ∙ ap (λ n. with_places c.args.place (drop n ids) c.close_tab.new.self) next
    ∙ ap (with_places c.args.place (drop (suc c.args.place) ids)) closed
