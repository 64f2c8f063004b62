use Rattle.std.proofs.Common.{◌≡◌, ◌++◌}
use Rattle.window_state.specs.Shown.{tabs_in}
use Rattle.browser_model.specs.Tidying.{tidy_windows}
use Rattle.session_tidying.proofs.window.push_shown.Given as goal

-- what was pushed, and the commands of the windows that are left
abbrev pub invariant-loop-window : goal.invariant-loop-window
invariant-loop-window l =
    l.out.items ++ tidy_windows (λ id. tabs_in id l.shown) l.window-iterator
    ≡ l.fn.out.items ++ tidy_windows (λ id. tabs_in id l.shown) l.windows
