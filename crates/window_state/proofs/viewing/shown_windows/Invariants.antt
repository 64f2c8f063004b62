use Rattle.std.proofs.Common.{◌≡◌, ◌++◌}
use Rattle.window_state.specs.Views.{view_windows}
use Rattle.window_state.specs.Shown.{tabs_in}
use Rattle.window_state.proofs.viewing.shown_windows.Given as goal

abbrev pub invariant-loop-window : goal.invariant-loop-window
invariant-loop-window l = l.views.items ++ view_windows (λ id. tabs_in id l.shown) l.window-iterator ≡ view_windows (λ id. tabs_in id l.shown) l.windows
