use Rattle.std.proofs.Common.{◌≡◌, ◌++◌, drop, map}
use Rattle.std.specs.Map.Iter.{deref}
use Rattle.browser_model.specs.Tidying.{tidy_tabs}
use Rattle.session_tidying.proofs.window.push_tabs.Given as goal

-- what was pushed, and the commands of the tabs that are left
abbrev pub invariant-loop-place : goal.invariant-loop-place
invariant-loop-place l =
    l.out.items ++ tidy_tabs l.place (map deref (drop l.place l.tabs))
    ≡ l.fn.out.items ++ tidy_tabs 0 (map deref l.tabs)
