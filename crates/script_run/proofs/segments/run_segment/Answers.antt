use Rattle.std.proofs.Common.{suc, ◌+◌, ◌≤◌, length, Some, Err, refl, rules, sym, subst}
use Rattle.script_lines.specs.Lines.{lines}
use Rattle.script_run.specs.declared.segments.Ended.TheVariants as ended
use Rattle.script_run.specs.Acting.{ActsOnLine}
use Rattle.script_run.specs.Script.{line_acted}
use Rattle.script_run.specs.Segments.{EndsSegment, segment_from}
use Rattle.script_run.proofs.SegmentRunLaws.{line-done, line-halted, line-refused, line-synced}
use Rattle.script_run.proofs.SegmentRunLaws.{memory-over, no-line, text-over}
use Rattle.script_run.proofs.segments.run_segment.Goals as goal

pub loop-rest-init : goal.loop-rest-init
loop-rest-init g c =
    no-line c.args.browser.now c.args.text.now c.args.number c.args.writers.now c.requires.session_works
    c.requires.tabs_work

pub returns-in-Ok-Sync-clause-steps : goal.returns-in-Ok-Sync-clause-steps
returns-in-Ok-Sync-clause-steps g c =
    (line-synced c.args.browser.now c.args.text.now c.args.number c.args.writers.now c.loop-rest.rest.now
    c.loop-rest.count c.loop-rest.browser c.loop-rest.writers c.loop-rest.invariant c.first_line.result.0.now
    c.first_line.result.1.now c.first_line.ensures.line c.in-Ok-Sync.field-0 c.act_on.new.browser
    c.in-Ok-Sync.ensures.acts c.in-Ok-Sync.ensures.sync c.in-Ok-Sync.ensures.closed c.in-Ok-Sync.field-0-is
    (ended.Sync (c.loop-rest.count + 1) c.first_line.result.1) refl).steps

pub returns-in-Ok-Sync-clause-ends : goal.returns-in-Ok-Sync-clause-ends
returns-in-Ok-Sync-clause-ends g c =
    (line-synced c.args.browser.now c.args.text.now c.args.number c.args.writers.now c.loop-rest.rest.now
    c.loop-rest.count c.loop-rest.browser c.loop-rest.writers c.loop-rest.invariant c.first_line.result.0.now
    c.first_line.result.1.now c.first_line.ensures.line c.in-Ok-Sync.field-0 c.act_on.new.browser
    c.in-Ok-Sync.ensures.acts c.in-Ok-Sync.ensures.sync c.in-Ok-Sync.ensures.closed c.in-Ok-Sync.field-0-is
    (ended.Sync (c.loop-rest.count + 1) c.first_line.result.1) refl).ends

pub returns-in-Err-Refused-clause-steps : goal.returns-in-Err-Refused-clause-steps
returns-in-Err-Refused-clause-steps g c =
    let acts = subst (λ end. ActsOnLine (line_acted c.first_line.result.0.now c.loop-rest.browser) c.loop-rest.browser
    c.act_on.new.browser (Err end)) c.in-Err-Refused.field-0-is c.in-Err-Refused.ensures.acts in
    (line-refused c.args.browser.now c.args.text.now c.args.number c.args.writers.now c.loop-rest.rest.now
    c.loop-rest.count c.loop-rest.browser c.loop-rest.writers c.loop-rest.invariant c.first_line.result.0.now
    c.first_line.result.1.now c.first_line.ensures.line c.in-Err-Refused.why acts.0 c.act_on.new.browser acts.1).steps

pub returns-in-Err-Refused-clause-ends : goal.returns-in-Err-Refused-clause-ends
returns-in-Err-Refused-clause-ends g c =
    let acts = subst (λ end. ActsOnLine (line_acted c.first_line.result.0.now c.loop-rest.browser) c.loop-rest.browser
    c.act_on.new.browser (Err end)) c.in-Err-Refused.field-0-is c.in-Err-Refused.ensures.acts in
    let over = line-refused c.args.browser.now c.args.text.now c.args.number c.args.writers.now c.loop-rest.rest.now
    c.loop-rest.count c.loop-rest.browser c.loop-rest.writers c.loop-rest.invariant c.first_line.result.0.now
    c.first_line.result.1.now c.first_line.ensures.line c.in-Err-Refused.why acts.0 c.act_on.new.browser acts.1 in
    subst (λ why. EndsSegment (segment_from (suc c.args.number) c.args.browser.now (lines c.args.text.now))
    c.args.browser.now (ended.Script (Some (c.loop-rest.count + 1, why))) c.act_on.new.browser)
    (sym c.in-Err-Refused.why-is) over.ends

pub returns-in-Err-Memory-clause-steps : goal.returns-in-Err-Memory-clause-steps
returns-in-Err-Memory-clause-steps g c =
    memory-over c.args.browser.now c.args.text.now c.args.number c.args.writers.now c.loop-rest.rest.now
    c.loop-rest.count c.loop-rest.browser c.loop-rest.writers c.loop-rest.invariant

pub returns-in-Err-clause-steps : goal.returns-in-Err-clause-steps
returns-in-Err-clause-steps g c =
    line-halted c.args.browser.now c.args.text.now c.args.number c.args.writers.now c.loop-rest.rest.now
    c.loop-rest.count c.loop-rest.browser c.loop-rest.writers c.loop-rest.invariant c.first_line.result.0.now
    c.first_line.result.1.now c.first_line.ensures.line c.in-Ok-Work.field-0 c.act_on.new.browser
    c.in-Ok-Work.ensures.acts c.in-Ok-Work.ensures.sync c.in-Ok-Work.ensures.closed c.in-Ok-Work.work
    c.in-Ok-Work.field-0-is c.handle_work.new.writers c.in-Err.halt c.in-Err.ensures

pub loop-rest-preserved : goal.loop-rest-preserved
loop-rest-preserved g c =
    line-done c.args.browser.now c.args.text.now c.args.number c.args.writers.now c.loop-rest.rest.now
    c.loop-rest.count c.loop-rest.browser c.loop-rest.writers c.loop-rest.invariant c.first_line.result.0.now
    c.first_line.result.1.now c.first_line.ensures.line c.in-Ok-Work.field-0 c.act_on.new.browser
    c.in-Ok-Work.ensures.acts c.in-Ok-Work.ensures.sync c.in-Ok-Work.ensures.closed c.in-Ok-Work.work
    c.in-Ok-Work.field-0-is c.handle_work.new.writers c.in_default.ensures c.first_line.ensures.shorter

pub returns-clause-steps : goal.returns-clause-steps
returns-clause-steps g c =
    let short : length c.loop-rest.rest.now ≤ 0 = search rules in
    (text-over c.args.browser.now c.args.text.now c.args.number c.args.writers.now c.loop-rest.rest.now
    c.loop-rest.count c.loop-rest.browser c.loop-rest.writers c.loop-rest.invariant short).steps

pub returns-clause-ends : goal.returns-clause-ends
returns-clause-ends g c =
    let short : length c.loop-rest.rest.now ≤ 0 = search rules in
    (text-over c.args.browser.now c.args.text.now c.args.number c.args.writers.now c.loop-rest.rest.now
    c.loop-rest.count c.loop-rest.browser c.loop-rest.writers c.loop-rest.invariant short).ends
