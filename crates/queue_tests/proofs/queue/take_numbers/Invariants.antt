use Rattle.command_queue.specs.Passes.{IsWriterOf}
use Rattle.queue_tests.proofs.queue.take_numbers.Given as goal

abbrev pub invariant-loop-n : goal.invariant-loop-n
invariant-loop-n g l = IsWriterOf l.queue l.writer
