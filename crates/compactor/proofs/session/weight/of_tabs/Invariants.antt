use Rattle.std.proofs.Common.{◌≡◌, ◌+◌, ◌≤◌, min, sum_by}
use Rattle.compactor.specs.session.Compaction.{tab_weight}
use Rattle.compaction_runs.proofs.Weights.{greatest}
use Rattle.compactor.proofs.session.weight.of_tabs.Given as goal

abbrev pub invariant-loop-tab : goal.invariant-loop-tab
invariant-loop-tab l = (l.weight ≤ greatest) × (min (l.weight + sum_by tab_weight l.tab-iterator) greatest ≡ min (sum_by tab_weight l.tabs) greatest)
