use Rattle.std.proofs.Common.{FitsSigned, w32}
use Rattle.std.specs.List.{insert}
use Rattle.std.proofs.lemmas.Int.{to_z-of_z}
use Rattle.browser_driver.specs.Orders.{order_of, SetsOrder}
use Rattle.browser_driver.proofs.OrderLaws.{place-inserted, same-again}
use Rattle.browser_driver.proofs.seating.seat.Goals as goal

pub remove-requires : goal.remove-requires
remove-requires c =
    let fits : FitsSigned w32 c.args.window = c.ranges.window in
    let of_id : FitsSigned w32 c.args.id = c.ranges.id in
    let orders = c.args.orders.now in
    let within = c.requires in
    let comes : SetsOrder c.args.window (insert (order_of c.args.window orders) c.args.place c.args.id) orders
    c.insert.new.self = simp to_z-of_z at c.in_ok-insert.ensures.ok in
    simp to_z-of_z (place-inserted c.args.window c.args.id c.args.place orders c.insert.new.self within comes)

pub returns-in-Err-clause-err : goal.returns-in-Err-clause-err
returns-in-Err-clause-err c =
    let fits : FitsSigned w32 c.args.window = c.ranges.window in
    let of_id : FitsSigned w32 c.args.id = c.ranges.id in
    let orders = c.args.orders.now in
    let within = c.requires in
    let comes : SetsOrder c.args.window (insert (order_of c.args.window orders) c.args.place c.args.id) orders
    c.insert.new.self = simp to_z-of_z at c.in_ok-insert.ensures.ok in
    let goes = simp to_z-of_z at c.remove.ensures in (
      c.in-Err.ensures.err,
      same-again c.args.window c.args.id c.args.place orders c.insert.new.self within comes
          c.remove.new.self goes,
    )
