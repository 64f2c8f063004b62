use Rattle.script_run.specs.Doing.{sunk}
use Rattle.script_run.proofs.FollowingLaws.{are-synced, lines-led, none-done, over-led}
use Rattle.threaded_run.proofs.running.run_lines.Goals as goal

pub loop-others-init : goal.loop-others-init
loop-others-init g c =
    none-done c.args.state c.args.text.now (sunk g.K.Sink.written g.K.Sink.faults c.args.out.now) c.requires.can
    c.requires.first

pub go_on-next-requires : goal.go_on-next-requires
go_on-next-requires g c = record {
  synced = are-synced c.loop-others.state c.loop-others.rest.now c.write_beside-behind.result.0
      c.write_beside-behind.result.1 c.write_beside-behind.ensures;
}

pub loop-others-preserved : goal.loop-others-preserved
loop-others-preserved g c =
    (lines-led c.args.state.browser c.args.text.now c.args.state.writers
    (sunk g.K.Sink.written g.K.Sink.faults c.args.out.now) c.loop-others.state c.loop-others.rest.now
    (sunk g.K.Sink.written g.K.Sink.faults c.loop-others.out) c.loop-others.invariant c.write_beside-behind.result.0
    c.write_beside-behind.result.1 c.write_beside-behind.ensures c.go_on-next.result.0
    (sunk g.K.Sink.written g.K.Sink.faults c.go_on-next.new.out) c.go_on-next.result.1 c.go_on-next.ensures
    c.in-Lines.others c.in-Lines.is).0

pub returns-in-Over : goal.returns-in-Over
returns-in-Over g c =
    over-led c.args.state.browser c.args.text.now c.args.state.writers
    (sunk g.K.Sink.written g.K.Sink.faults c.args.out.now) c.loop-others.state c.loop-others.rest.now
    (sunk g.K.Sink.written g.K.Sink.faults c.loop-others.out) c.loop-others.invariant c.write_beside-behind.result.0
    c.write_beside-behind.result.1 c.write_beside-behind.ensures c.go_on-next.result.0
    (sunk g.K.Sink.written g.K.Sink.faults c.go_on-next.new.out) c.go_on-next.result.1 c.go_on-next.ensures
    c.in-Over.ran c.in-Over.is
