use Rattle.std.proofs.Common.{◌≡◌, [], drop}
use Rattle.window_state.specs.Keys.{group_key, group_cmp}
use Rattle.browser_driver.specs.Begun.{with_rows}
use Rattle.browser_driver.proofs.beginning.rows_of_groups.Given as goal

abbrev pub invariant-loop-group : goal.invariant-loop-group
invariant-loop-group l =
    with_rows group_cmp group_key l.groups (drop l.group-index l.shown) ≡ with_rows group_cmp group_key [] l.shown
