use Rattle.std.proofs.Common.{None}
use Rattle.script_run.specs.Acting.{compaction_steps}
use Rattle.script_run.proofs.AskedLaws.{commands-halted, asked-done, asked-halted}
use Rattle.script_run.proofs.asking.handle_work.Goals as goal

pub handle_compaction-requires-clause-session_works : goal.handle_compaction-requires-clause-session_works
handle_compaction-requires-clause-session_works g c =
    (c.in_default.ensures (record { written = None; faults = 0 })).all.session.answers.0

pub handle_compaction-requires-clause-tabs_work : goal.handle_compaction-requires-clause-tabs_work
handle_compaction-requires-clause-tabs_work g c =
    (c.in_default.ensures (record { written = None; faults = 0 })).all.tabs.answers.0

pub returns-in-Err : goal.returns-in-Err
returns-in-Err g c = λ sink.
    let work = c.args.work in
    commands-halted work.session.items work.tabs.items (compaction_steps work.compacts) c.args.writers.now
    c.handle_commands.new.writers c.handle_commands.new.writers sink sink c.in-Err.halt (c.in-Err.ensures sink)

pub returns-in-Ok : goal.returns-in-Ok
returns-in-Ok g c = λ sink.
    let work = c.args.work in
    asked-done work.session.items work.tabs.items (compaction_steps work.compacts) c.args.writers.now
    c.handle_commands.new.writers c.handle_compaction.new.writers sink sink (c.in_default.ensures sink)
    (c.in-Ok.ensures sink)

pub returns-in-Err-handle_compaction : goal.returns-in-Err-handle_compaction
returns-in-Err-handle_compaction g c = λ sink.
    let work = c.args.work in
    asked-halted work.session.items work.tabs.items (compaction_steps work.compacts) c.args.writers.now
    c.handle_commands.new.writers c.handle_compaction.new.writers sink sink c.in-Err-handle_compaction.halt
    (c.in_default.ensures sink) (c.in-Err-handle_compaction.ensures sink)
