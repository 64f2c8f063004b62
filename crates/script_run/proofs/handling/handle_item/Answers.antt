use Rattle.std.proofs.Common.{[], ◌∷◌, Result, Ok, Err}
use Rattle.writer_core.specs.declared.handling.Stopped.{Stopped}
use Rattle.writer_core.proofs.InOrderLaws.{handles_one}
use Rattle.script_run.proofs.HandledLaws.{items-done, items-stopped}
use Rattle.script_run.proofs.SyncingLaws.{syncs-both}
use Rattle.script_run.proofs.handling.handle_item.Goals as goal

pub returns-in-Ok-clause-steps : goal.returns-in-Ok-clause-steps
returns-in-Ok-clause-steps g c = λ sink.
    let answer : Result (Unit {0}) Stopped = Ok tt in
    items-done (c.args.item ∷ []) c.args.writers.now c.handle.new.writers sink
    (handles_one c.args.item c.args.writers.now c.handle.new.writers answer c.requires.session_works
    c.requires.tabs_work
    c.in-Ok.ensures.session c.in-Ok.ensures.tabs)

pub returns-in-Err-clause-steps : goal.returns-in-Err-clause-steps
returns-in-Err-clause-steps g c = λ sink.
    let answer : Result (Unit {0}) Stopped = Err c.in-Err.stopped in
    items-stopped (c.args.item ∷ []) c.args.writers.now c.handle.new.writers sink c.in-Err.stopped
    (handles_one c.args.item c.args.writers.now c.handle.new.writers answer c.requires.session_works
    c.requires.tabs_work
    c.in-Err.ensures.session c.in-Err.ensures.tabs)

pub returns-in-Ok-clause-synced : goal.returns-in-Ok-clause-synced
returns-in-Ok-clause-synced g c =
    syncs-both c.args.writers.now c.handle.new.writers c.args.item c.in-Ok.ensures.session c.in-Ok.ensures.tabs
