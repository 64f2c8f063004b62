use Rattle.std.proofs.Common.{length}
use Rattle.script_run.specs.Doing.{sunk}
use Rattle.script_run.proofs.FollowingLaws.{DoneTo}
use Rattle.threaded_run.proofs.running.run_lines.Given as goal

abbrev pub invariant-loop-others : goal.invariant-loop-others
invariant-loop-others g l =
    DoneTo l.fn.state.browser l.text l.fn.state.writers (sunk g.K.Sink.written g.K.Sink.faults l.fn.out) l.state l.rest
    (sunk g.K.Sink.written g.K.Sink.faults l.out)

abbrev pub decreases-loop-others : goal.decreases-loop-others
decreases-loop-others g l = length l.rest
