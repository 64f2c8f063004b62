use Rattle.std.proofs.Common.{◌≡◌, zero, drop}
use Rattle.browser_driver.specs.Begun.{tab_rows, with_tabs}
use Rattle.browser_driver.proofs.beginning.put_tabs.Given as goal

abbrev pub invariant-loop-place : goal.invariant-loop-place
invariant-loop-place l =
    with_tabs l.tabs (tab_rows l.window l.place (drop l.place l.shown))
    ≡ with_tabs l.fn.tabs (tab_rows l.window zero l.shown)
