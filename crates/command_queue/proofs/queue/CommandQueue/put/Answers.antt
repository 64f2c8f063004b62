use Rattle.command_queue.proofs.QueueLaws.{puts}
use Rattle.command_queue.proofs.queue.CommandQueue.put.Goals as goal

pub send_as-requires-clause-rule : goal.send_as-requires-clause-rule
send_as-requires-clause-rule g c = (puts _ _ _ _ c.loop.invariant.3, λ _ _ _ _. tt)
