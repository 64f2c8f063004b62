use Rattle.std.proofs.Common.{rules, map, subst, FitsSigned, w32}
use Rattle.std.proofs.lemmas.Int.{to_z-of_z}
use Rattle.std.proofs.lemmas.List.{take_all}
use Rattle.browser_model.specs.Beginnings.{begun_window}
use Rattle.browser_driver.specs.Held.{AreSeated}
use Rattle.browser_driver.specs.Orders.{SetsOrder}
use Rattle.browser_driver.proofs.BeginLaws.{ids_of, none-seated, next-unseated, next-seated}
use Rattle.browser_driver.proofs.beginning.orders_of.Goals as goal

pub loop-window-init : goal.loop-window-init
loop-window-init c = none-seated c.new-orders.result c.new-orders.ensures

pub seat_tabs-requires : goal.seat_tabs-requires
seat_tabs-requires c =
    let x = c.window-item.result in
    let fits : FitsSigned w32 x.info.id = search rules in
    simp to_z-of_z (next-unseated c.args.windows.now c.loop-window.window-index x c.loop-window-test.true
    c.window-item.is c.requires c.loop-window.orders c.loop-window.invariant)

pub loop-window-preserved : goal.loop-window-preserved
loop-window-preserved c =
    let x = c.window-item.result in
    let fits : FitsSigned w32 x.info.id = search rules in
    let sets = simp to_z-of_z at c.in_ok-seat_tabs.ensures in
    let own = subst (λ ts. SetsOrder x.info.id (ids_of ts) c.loop-window.orders c.seat_tabs.new.orders)
    c.as_slice.ensures sets in
    next-seated c.args.windows.now c.loop-window.window-index x c.loop-window-test.true c.window-item.is c.requires
    c.loop-window.orders c.loop-window.invariant c.seat_tabs.new.orders own

pub returns : goal.returns
returns c =
    subst (λ ws. AreSeated c.loop-window.orders (map begun_window ws))
    (take_all c.loop-window.window-index c.args.windows.now c.loop-window-test.false) c.loop-window.invariant
