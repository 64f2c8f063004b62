use Rattle.std.proofs.Common.{map, take}
use Rattle.browser_model.specs.Browsers.{own_id}
use Rattle.browser_model.specs.Beginnings.{begun_tab}
use Rattle.browser_driver.specs.Orders.{SetsOrder}
use Rattle.browser_driver.proofs.beginning.seat_tabs.Given as goal

abbrev pub invariant-loop-place : goal.invariant-loop-place
invariant-loop-place l = SetsOrder l.window (map own_id (map begun_tab (take l.place l.shown))) l.fn.orders l.orders
