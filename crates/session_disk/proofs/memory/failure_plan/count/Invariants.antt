use Rattle.std.proofs.Common.{◌≡◌, ◌++◌, map, take, drop}
use Rattle.session_disk.specs.FailurePlans.{counted}
use Rattle.session_disk.proofs.memory.failure_plan.count.Given as goal

abbrev pub invariant-loop-failure : goal.invariant-loop-failure
invariant-loop-failure l = l.coming ≡ map (counted l.call) (take l.failure-index l.initial.coming) ++ drop l.failure-index l.initial.coming
