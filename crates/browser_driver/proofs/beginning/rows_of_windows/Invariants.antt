use Rattle.std.proofs.Common.{◌≡◌, [], map, drop}
use Rattle.std.specs.Ordering.{int_cmp}
use Rattle.window_state.specs.Keys.{window_key}
use Rattle.browser_model.specs.Browsers.{window_row}
use Rattle.browser_model.specs.Beginnings.{begun_window}
use Rattle.browser_driver.specs.Begun.{with_rows}
use Rattle.browser_driver.proofs.beginning.rows_of_windows.Given as goal

abbrev pub invariant-loop-window : goal.invariant-loop-window
invariant-loop-window l =
    with_rows int_cmp window_key l.windows (map window_row (map begun_window (drop l.window-index l.shown)))
    ≡ with_rows int_cmp window_key [] (map window_row (map begun_window l.shown))
