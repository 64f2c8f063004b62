use Rattle.std.proofs.Common.{map, take}
use Rattle.browser_model.specs.Beginnings.{begun_window}
use Rattle.browser_driver.specs.Held.{AreSeated}
use Rattle.browser_driver.proofs.beginning.orders_of.Given as goal

abbrev pub invariant-loop-window : goal.invariant-loop-window
invariant-loop-window l = AreSeated l.orders (map begun_window (take l.window-index l.windows))
