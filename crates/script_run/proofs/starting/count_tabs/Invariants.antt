use Rattle.std.proofs.Common.{◌≡◌, ◌+◌, length}
use Rattle.script_run.specs.Counts.{tab_count}
use Rattle.script_run.proofs.starting.count_tabs.Given as goal

abbrev pub invariant-loop-rest : goal.invariant-loop-rest
invariant-loop-rest l = l.count + tab_count l.rest ≡ tab_count l.windows

abbrev pub decreases-loop-rest : goal.decreases-loop-rest
decreases-loop-rest l = length l.rest
