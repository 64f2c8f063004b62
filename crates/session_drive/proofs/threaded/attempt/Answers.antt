use Rattle.std.proofs.Common.{◌≡◌, ℕ, List, map, subst}
use Rattle.std.specs.String.{string_bytes}
use Rattle.session_disk.specs.Causes.{Rose}
use Rattle.session_disk.specs.declared.family.Family.TheVariants.{Session, Tabs}
use Rattle.writer_core.specs.Opening.{disks}
use Rattle.script_run.specs.Doing.{sunk}
use Rattle.script_run.specs.Whole.{RunsWhole}
use Rattle.session_drive.proofs.AttemptLaws.{attempted}
use Rattle.session_drive.proofs.threaded.attempt.Goals as goal

pub run_script_beside-writers-requires-clause-session_works :
    goal.run_script_beside-writers-requires-clause-session_works
run_script_beside-writers-requires-clause-session_works g c lifetimes outlive = (c.in-Ok.ensures.prepared.opens Session).works

pub run_script_beside-writers-requires-clause-tabs_work : goal.run_script_beside-writers-requires-clause-tabs_work
run_script_beside-writers-requires-clause-tabs_work g c lifetimes outlive = (c.in-Ok.ensures.prepared.opens Tabs).works

pub run_script_beside-writers-requires-clause-session_empty :
    goal.run_script_beside-writers-requires-clause-session_empty
run_script_beside-writers-requires-clause-session_empty g c lifetimes outlive = (c.in-Ok.ensures.prepared.opens Session).none_written

pub run_script_beside-writers-requires-clause-tabs_empty : goal.run_script_beside-writers-requires-clause-tabs_empty
run_script_beside-writers-requires-clause-tabs_empty g c lifetimes outlive = (c.in-Ok.ensures.prepared.opens Tabs).none_written

pub run_script_beside-writers-requires-clause-session_untold :
    goal.run_script_beside-writers-requires-clause-session_untold
run_script_beside-writers-requires-clause-session_untold g c lifetimes outlive = (c.in-Ok.ensures.prepared.opens Session).none_told

pub run_script_beside-writers-requires-clause-tabs_untold : goal.run_script_beside-writers-requires-clause-tabs_untold
run_script_beside-writers-requires-clause-tabs_untold g c lifetimes outlive = (c.in-Ok.ensures.prepared.opens Tabs).none_told

pub returns : goal.returns
returns g c =
    let history = g.D.SessionDisk.history in
    let failed = g.D.SessionDisk.failed in
    let before = sunk g.K.Sink.written g.K.Sink.faults c.args.out.now in
    let after = sunk g.K.Sink.written g.K.Sink.faults c.run_script_beside-writers.new.out in
    let ran = subst (λ (text : List ℕ). RunsWhole {D = g.row.D.Denot} {d = g.D.SessionDisk} c.in-Ok.prepared.writers text
    c.run_script_beside-writers.result.0 before after c.run_script_beside-writers.result.1) c.deref.ensures.value c.run_script_beside-writers.ensures in
    attempted {D = g.row.D.Denot} {d = g.D.SessionDisk} (map string_bytes c.args.words.now)
    (g.S.Source.left c.args.script.now) (disks history failed c.args.session c.args.tabs)
    (disks history failed c.close_run.result.1 c.close_run.result.2)
    (Rose (g.S.Source.faults c.args.script.now) (g.S.Source.faults c.prepare.new.script))
    (c.prepare.new.script ≡ c.args.script.now) (c.close_run.result.1 ≡ c.args.session)
    (c.close_run.result.2 ≡ c.args.tabs) c.in-Ok.prepared.writers c.run_script_beside-writers.result.0 c.in-Ok.prepared.text.items before after
    c.run_script_beside-writers.result.1 c.close_run.result.0 c.in-Ok.ensures.prepared ran c.close_run.ensures
    c.in-Ok.ensures.not_read
