use Rattle.std.proofs.Common.{◌≡◌, ◌++◌, not, filter}
use Rattle.tab_pages.specs.PageLists.{has_page}
use Rattle.window_state.specs.Shown.{tabs_in}
use Rattle.browser_model.specs.Tidying.{close_windows}
use Rattle.session_tidying.proofs.window.close_hidden.Given as goal

-- what was pushed, and the commands that close hidden windows among those that are left
abbrev pub invariant-loop-window : goal.invariant-loop-window
invariant-loop-window l =
    l.out.items ++ close_windows (filter (λ w. not (has_page (tabs_in w.info.id l.shown))) l.window-iterator)
    ≡ l.fn.out.items ++ close_windows (filter (λ w. not (has_page (tabs_in w.info.id l.shown))) l.windows)
