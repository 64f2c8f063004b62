use Rattle.std.proofs.Common.{◌≡◌, map, take}
use Rattle.window_state.specs.Views.{view_tab}
use Rattle.window_state.proofs.viewing.shown_tabs.Given as goal

abbrev pub invariant-loop-tab : goal.invariant-loop-tab
invariant-loop-tab l = l.shown.items ≡ map (λ t. view_tab t.now) (take l.tab-index l.tabs)
