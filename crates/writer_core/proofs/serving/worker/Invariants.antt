use Rattle.writer_core.specs.Serving.{IsReport}
use Rattle.writer_core.proofs.ServingLaws.{TurnsSoFar}
use Rattle.writer_core.proofs.serving.worker.Given as goal

abbrev pub invariant-loop : goal.invariant-loop
invariant-loop g l = IsReport l.queue l.board l.report × TurnsSoFar l.fn.writers l.fn.pass l.report
