use Rattle.std.proofs.Common.{◌≡◌, [], map, drop}
use Rattle.browser_model.specs.Browsers.{rows}
use Rattle.browser_model.specs.Beginnings.{begun_window}
use Rattle.browser_driver.specs.Begun.{with_tabs}
use Rattle.browser_driver.proofs.beginning.rows_of_tabs.Given as goal

abbrev pub invariant-loop-window : goal.invariant-loop-window
invariant-loop-window l =
    with_tabs l.tabs (rows (map begun_window (drop l.window-index l.windows)))
    ≡ with_tabs [] (rows (map begun_window l.windows))
