use Rattle.std.proofs.Common.{◌≡◌, ◌++◌, flat_map}
use Rattle.compactor.specs.session.Compaction.{tab_commands}
use Rattle.compactor.proofs.session.compaction.push_tabs.Given as goal

-- what was pushed, and the commands of the tabs that are left
abbrev pub invariant-loop-tab : goal.invariant-loop-tab
invariant-loop-tab l = l.out.items ++ flat_map tab_commands l.tab-iterator ≡ l.fn.out.items ++ flat_map tab_commands l.tabs
