use Rattle.command_queue.proofs.QueueLaws.{merges}
use Rattle.command_queue.proofs.queue.CommandQueue.close.Goals as goal

pub absorb-requires-clause-rule : goal.absorb-requires-clause-rule
absorb-requires-clause-rule g c = merges _ _ _ _ c.requires.issuer.puts c.requires.writer.takes
