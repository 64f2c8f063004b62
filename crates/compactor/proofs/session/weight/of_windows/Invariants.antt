use Rattle.std.proofs.Common.{◌≡◌, ◌+◌, ◌≤◌, min, sum_by}
use Rattle.compactor.specs.session.Compaction.{window_weight}
use Rattle.compaction_runs.proofs.Weights.{greatest}
use Rattle.compactor.proofs.session.weight.of_windows.Given as goal

abbrev pub invariant-loop-window : goal.invariant-loop-window
invariant-loop-window l = (l.weight ≤ greatest) × (min (l.weight + sum_by window_weight l.window-iterator) greatest ≡ min (sum_by window_weight l.windows) greatest)
