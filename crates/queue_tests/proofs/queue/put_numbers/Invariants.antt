use Rattle.command_queue.specs.Passes.{IsIssuerOf}
use Rattle.queue_tests.proofs.queue.put_numbers.Given as goal

abbrev pub invariant-loop-n : goal.invariant-loop-n
invariant-loop-n g l = IsIssuerOf l.queue l.issuer
