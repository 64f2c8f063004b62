use Rattle.command_queue.specs.Seats.{IsIssuerSeatOf}
use Rattle.thread_tests.proofs.workers.is_told.Given as goal

abbrev pub invariant-loop : goal.invariant-loop
invariant-loop l = IsIssuerSeatOf l.board l.looks
