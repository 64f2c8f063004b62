use Rattle.script_run.specs.Doing.{sunk}
use Rattle.script_run.proofs.WholeLaws.{can-begin, lines-whole}
use Rattle.threaded_run.proofs.running.run_script_beside.Goals as goal

pub run_lines-requires-clause-can : goal.run_lines-requires-clause-can
run_lines-requires-clause-can g c lifetimes outlive =
    can-begin c.args.writers c.requires.session_empty c.requires.tabs_empty c.in-Ok.state
    (sunk g.K.Sink.written g.K.Sink.faults c.args.out.now) (sunk g.K.Sink.written g.K.Sink.faults c.start.new.out)
    c.in-Ok.ensures.started c.args.text.now c.requires.short c.requires.session_untold c.requires.tabs_untold

pub returns-in-Ok : goal.returns-in-Ok
returns-in-Ok g c =
    lines-whole c.args.writers c.requires.session_empty c.requires.tabs_empty c.in-Ok.state
    (sunk g.K.Sink.written g.K.Sink.faults c.args.out.now) (sunk g.K.Sink.written g.K.Sink.faults c.start.new.out)
    c.in-Ok.ensures.started c.args.text.now c.requires.short c.run_lines.result.0
    (sunk g.K.Sink.written g.K.Sink.faults c.run_lines.new.out) c.run_lines.result.1 c.run_lines.ensures
