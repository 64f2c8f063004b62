use Rattle.std.proofs.Common.{length}
use Rattle.threaded_run.proofs.IssuingLaws.{LinesPut}
use Rattle.threaded_run.proofs.issuing.issue_lines.Given as goal

abbrev pub invariant-loop-rest : goal.invariant-loop-rest
invariant-loop-rest g l = LinesPut l.queue l.board l.fn.browser l.text l.number l.fn.issuer l.rest l.count l.browser l.issuer

abbrev pub decreases-loop-rest : goal.decreases-loop-rest
decreases-loop-rest g l = length l.rest
