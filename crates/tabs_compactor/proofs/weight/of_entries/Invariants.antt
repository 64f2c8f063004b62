use Rattle.std.proofs.Common.{◌≡◌, min, sum_by, take}
use Rattle.compaction_runs.proofs.Weights.{greatest}
use Rattle.tabs_compactor.specs.Compaction.{entry_weight}
use Rattle.tabs_compactor.proofs.weight.of_entries.Given as goal

abbrev pub invariant-loop-entry : goal.invariant-loop-entry
invariant-loop-entry l = l.weight ≡ min (sum_by entry_weight (take l.entry-index l.entries)) greatest
