use Rattle.script_run.proofs.AskedLaws.{session-stopped, tabs-stopped, both-done}
use Rattle.script_run.proofs.handling.handle_commands.Goals as goal

pub returns-in-Err : goal.returns-in-Err
returns-in-Err g c = λ sink.
    session-stopped c.args.session.items c.args.tabs.items c.args.writers.now c.handle_session.new.writers sink
    c.in-Err.stopped c.in-Err.ensures

pub returns-in-Ok : goal.returns-in-Ok
returns-in-Ok g c = λ sink.
    both-done c.args.session.items c.args.tabs.items c.args.writers.now c.handle_session.new.writers
    c.handle_tabs.new.writers sink c.in_default.ensures c.in-Ok.ensures

pub returns-in-Err-handle_tabs : goal.returns-in-Err-handle_tabs
returns-in-Err-handle_tabs g c = λ sink.
    tabs-stopped c.args.session.items c.args.tabs.items c.args.writers.now c.handle_session.new.writers
    c.handle_tabs.new.writers sink c.in-Err-handle_tabs.stopped c.in_default.ensures c.in-Err-handle_tabs.ensures
