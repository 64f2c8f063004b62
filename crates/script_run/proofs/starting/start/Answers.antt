use Rattle.std.proofs.Common.{refl, subst}
use Rattle.window_state.specs.States as window_state
use Rattle.closed_entries.specs.States as closed_entries
use Rattle.script_run.specs.Doing.{sunk}
use Rattle.script_run.proofs.WholeLaws.{start-halts, tidying-halts}
use Rattle.script_run.proofs.starting.start.Goals as goal

pub returns-in-Err-clause-halted : goal.returns-in-Err-clause-halted
returns-in-Err-clause-halted g c = λ text short.
    start-halts c.args.writers (sunk g.K.Sink.written g.K.Sink.faults c.args.out.now)
    (sunk g.K.Sink.written g.K.Sink.faults c.begin.new.out) c.in-Err.halt
    (record { later = c.in-Err.ensures.starts.later; says = c.in-Err.ensures.starts.says }) text

pub returns-in-Ok-tidy-clause-started : goal.returns-in-Ok-tidy-clause-started
returns-in-Ok-tidy-clause-started g c = record {
  starts = record { later = c.in-Ok.ensures.starts.later; says = c.in-Ok.ensures.starts.says };
  tidied = c.in-Ok-tidy.ensures;
  browser = c.in-Ok.ensures.browser;
  none_read = refl;
  session_is = subst window_state.IsState c.state.ensures c.known.ensures;
  tabs_is = subst closed_entries.IsState c.state-2.ensures c.known-2.ensures;
}

pub returns-in-Err-tidy-clause-halted : goal.returns-in-Err-tidy-clause-halted
returns-in-Err-tidy-clause-halted g c = λ text short.
    let between = sunk g.K.Sink.written g.K.Sink.faults c.begin.new.out in
    tidying-halts c.args.writers (sunk g.K.Sink.written g.K.Sink.faults c.args.out.now) c.requires.session_empty
    c.requires.tabs_empty between between
    (record { later = c.in-Ok.ensures.starts.later; says = c.in-Ok.ensures.starts.says })
    (subst window_state.IsState c.state.ensures c.known.ensures)
    (subst closed_entries.IsState c.state-2.ensures c.known-2.ensures) text short c.tidy.new.writers c.in-Err-tidy.halt
    (c.in-Err-tidy.ensures between)
