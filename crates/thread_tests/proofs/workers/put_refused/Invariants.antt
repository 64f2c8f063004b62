use Rattle.command_queue.specs.Passes.{IsIssuerOf}
use Rattle.thread_tests.proofs.workers.put_refused.Given as goal

abbrev pub invariant-loop : goal.invariant-loop
invariant-loop g l = IsIssuerOf l.queue l.issuer
