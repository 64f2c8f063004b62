use Rattle.std.proofs.Common.{[], ◌∷◌}
use Rattle.std.specs.String.{string_bytes}
use Rattle.script_run.specs.Doing.{sunk}
use Rattle.script_run.specs.Steps.{Say}
use Rattle.script_run.proofs.HandledLaws.{halted-first, line-cut, line-of, line-said}
use Rattle.script_run.proofs.syncing.say_sync.Goals as goal

pub returns-in_default : goal.returns-in_default
returns-in_default g c =
    halted-first (Say ∷ []) c.args.writers.now (sunk g.K.Sink.written g.K.Sink.faults c.args.out.now)
    c.requires.session_works c.requires.tabs_work

pub returns-in-Ok-write_all : goal.returns-in-Ok-write_all
returns-in-Ok-write_all g c =
    let old = c.args.writers.now in
    let before = sunk g.K.Sink.written g.K.Sink.faults c.args.out.now in
    let after = sunk g.K.Sink.written g.K.Sink.faults c.write_all.new.sink in
    line-said old before after c.requires.session_works c.requires.tabs_work c.requires.session_told
    c.requires.tabs_told c.as_bytes.result.now
    (line-of c.as_bytes.result.now (string_bytes c.in-Ok.line) c.count.result c.count-2.result old.session.present.count
    old.tabs.present.count c.as_bytes.ensures.value c.in-Ok.ensures c.count.ensures c.count-2.ensures)
    c.in-Ok-write_all.field-0 c.in-Ok-write_all.ensures.bytes c.in-Ok-write_all.ensures.cause.later

pub returns : goal.returns
returns g c =
    let old = c.args.writers.now in
    let before = sunk g.K.Sink.written g.K.Sink.faults c.args.out.now in
    let after = sunk g.K.Sink.written g.K.Sink.faults c.write_all.new.sink in
    line-cut old before after c.requires.session_works c.requires.tabs_work c.requires.session_told
    c.requires.tabs_told c.as_bytes.result.now
    (line-of c.as_bytes.result.now (string_bytes c.in-Ok.line) c.count.result c.count-2.result old.session.present.count
    old.tabs.present.count c.as_bytes.ensures.value c.in-Ok.ensures c.count.ensures c.count-2.ensures)
    (Unit {0}) c.in-Err.field-0 c.in-Err.ensures.bytes c.in-Err.ensures.cause
