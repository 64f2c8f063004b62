use Rattle.std.proofs.Common.{◌≡◌, min, sum_by, take}
use Rattle.compaction_runs.proofs.Weights.{greatest}
use Rattle.tabs_compactor.specs.Compaction.{tab_weight}
use Rattle.tabs_compactor.proofs.weight.of_tabs.Given as goal

abbrev pub invariant-loop-tab : goal.invariant-loop-tab
invariant-loop-tab l = l.weight ≡ min (sum_by tab_weight (take l.tab-index l.tabs)) greatest
