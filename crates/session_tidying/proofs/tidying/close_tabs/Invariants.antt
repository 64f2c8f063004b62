use Rattle.std.proofs.Common.{◌≡◌, ◌++◌, not, filter}
use Rattle.browser_model.specs.Tidying.{close_tabs, is_tab_shown}
use Rattle.session_tidying.proofs.tidying.close_tabs.Given as goal

-- what was pushed, and the commands that close hidden tabs among those that are left
abbrev pub invariant-loop-tab : goal.invariant-loop-tab
invariant-loop-tab l =
    l.out.items ++ close_tabs (filter (λ t. not (is_tab_shown t)) l.tab-iterator)
    ≡ l.fn.out.items ++ close_tabs (filter (λ t. not (is_tab_shown t)) l.tabs)
