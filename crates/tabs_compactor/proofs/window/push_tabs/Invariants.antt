use Rattle.std.proofs.Common.{◌≡◌, ◌++◌, flat_map, take}
use Rattle.tabs_compactor.specs.Compaction.{tab_commands}
use Rattle.tabs_compactor.proofs.window.push_tabs.Given as goal

abbrev pub invariant-loop-tab : goal.invariant-loop-tab
invariant-loop-tab l = l.out.items ≡ l.fn.out.items ++ flat_map tab_commands (take l.tab-index l.tabs)
