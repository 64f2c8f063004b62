use Rattle.std.proofs.Common.{length}
use Rattle.script_run.proofs.SegmentRunLaws.{SegmentDone}
use Rattle.script_run.proofs.segments.run_segment.Given as goal

abbrev pub invariant-loop-rest : goal.invariant-loop-rest
invariant-loop-rest g l = SegmentDone l.fn.browser l.text l.number l.fn.writers l.rest l.count l.browser l.writers

abbrev pub decreases-loop-rest : goal.decreases-loop-rest
decreases-loop-rest g l = length l.rest
