use Rattle.std.proofs.Common.{◌≡◌, drop}
use Rattle.session_disk.specs.FailurePlans.{due}
use Rattle.session_disk.proofs.memory.failure_plan.due.Given as goal

abbrev pub invariant-loop-failure : goal.invariant-loop-failure
invariant-loop-failure l = due l.call l.coming ≡ due l.call (drop l.failure-index l.coming)
