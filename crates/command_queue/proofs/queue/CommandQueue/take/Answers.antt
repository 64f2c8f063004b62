use Rattle.command_queue.proofs.QueueLaws.{takes}
use Rattle.command_queue.proofs.queue.CommandQueue.take.Goals as goal

pub recv_as-requires-clause-rule : goal.recv_as-requires-clause-rule
recv_as-requires-clause-rule g c = (takes _ _ c.loop.invariant.3, λ _ _ _ _. tt)
