use Rattle.std.proofs.Common.{rules, FitsSigned, w32}
use Rattle.std.proofs.lemmas.Int.{to_z-of_z}
use Rattle.browser_driver.proofs.BeginLaws.{order-begun, room-for, tab-seated, all-seated}
use Rattle.browser_driver.proofs.beginning.seat_tabs.Goals as goal

pub loop-place-init : goal.loop-place-init
loop-place-init c =
    let fits : FitsSigned w32 c.args.window = c.ranges.window in
    simp to_z-of_z (order-begun c.args.window c.args.orders.now c.requires)

pub insert-requires : goal.insert-requires
insert-requires c =
    let fits : FitsSigned w32 c.args.window = c.ranges.window in
    let before = simp to_z-of_z at c.loop-place.invariant in
    simp to_z-of_z (room-for c.args.window c.args.orders.now c.args.shown.now c.loop-place.place c.loop-place.orders
    c.loop-place-test.true before)

pub loop-place-preserved : goal.loop-place-preserved
loop-place-preserved c =
    let fits : FitsSigned w32 c.args.window = c.ranges.window in
    let x = c.index-shown-place.result in
    let of_id : FitsSigned w32 x.info.id = search rules in
    let before = simp to_z-of_z at c.loop-place.invariant in
    let put = simp to_z-of_z at c.in_ok-insert.ensures.ok in
    simp to_z-of_z (tab-seated c.args.window c.args.orders.now c.args.shown.now c.loop-place.place x c.loop-place.orders
    c.insert.new.self c.loop-place-test.true c.index-shown-place.is put before)

pub returns : goal.returns
returns c =
    let fits : FitsSigned w32 c.args.window = c.ranges.window in
    let before = simp to_z-of_z at c.loop-place.invariant in
    all-seated c.args.window c.args.orders.now c.args.shown.now c.loop-place.place c.loop-place.orders
    c.loop-place-test.false before
