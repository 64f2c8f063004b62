use Rattle.std.proofs.Common.{◌<◌, length, arith}
use Rattle.std.proofs.lemmas.List.{get_or_default}
use Rattle.std.proofs.lemmas.List.Edits.{map_over_more}
use Rattle.session_disk.specs.FailurePlans.{counted}
use Rattle.session_disk.proofs.memory.failure_plan.count.Goals as goal

pub loop-failure-preserved : goal.loop-failure-preserved
loop-failure-preserved c =
    let within : c.loop-failure.failure-index < length c.loop-failure.coming = omega arith in
    rw c.counted.ensures (map_over_more (counted c.args.call) c.args.coming.now c.loop-failure.coming c.loop-failure.failure-index _ c.loop-failure-test.true c.loop-failure.invariant (get_or_default c.loop-failure.coming c.loop-failure.failure-index _ _ within))
