use Rattle.std.proofs.Common.{◌≡◌}
use Rattle.window_state.specs.Shown.{tabs_in}
use Rattle.window_state.specs.Views.{least_shown, view_windows}
use Rattle.session_tidying.proofs.active.least_shown.Given as goal

-- no window before those that are left is shown
abbrev pub invariant-loop-window : goal.invariant-loop-window
invariant-loop-window l =
    least_shown (view_windows (λ id. tabs_in id l.shown) l.window-iterator)
    ≡ least_shown (view_windows (λ id. tabs_in id l.shown) l.windows)
