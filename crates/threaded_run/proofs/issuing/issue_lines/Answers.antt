use Rattle.std.proofs.Common.{◌≤◌, length, refl, rules}
use Rattle.threaded_run.specs.declared.issuing.Issued.TheVariants as issued
use Rattle.threaded_run.specs.declared.putting.Issuer.{Issuer}
use Rattle.threaded_run.proofs.IssuingLaws.{left-here, line-put, text-over}
use Rattle.threaded_run.proofs.issuing.issue_lines.Goals as goal

pub returns-then-has_ended-clause-put : goal.returns-then-has_ended-clause-put
returns-then-has_ended-clause-put g c =
    let looked : Issuer = record { pass = c.loop-rest.issuer.pass; seat = c.has_ended.new.seat; puts = c.loop-rest.issuer.puts } in
    left-here c.args.queue.now c.args.board.now c.args.browser c.args.text.now c.args.number c.args.issuer
    c.loop-rest.rest.now c.loop-rest.count c.loop-rest.browser c.loop-rest.issuer c.loop-rest.invariant issued.Stopped
    looked refl tt

pub returns-in-Err-Memory-clause-put : goal.returns-in-Err-Memory-clause-put
returns-in-Err-Memory-clause-put g c =
    let looked : Issuer = record { pass = c.loop-rest.issuer.pass; seat = c.has_ended.new.seat; puts = c.loop-rest.issuer.puts } in
    left-here c.args.queue.now c.args.board.now c.args.browser c.args.text.now c.args.number c.args.issuer
    c.loop-rest.rest.now c.loop-rest.count c.loop-rest.browser c.loop-rest.issuer c.loop-rest.invariant issued.Memory
    looked refl tt

pub loop-rest-preserved : goal.loop-rest-preserved
loop-rest-preserved g c =
    let looked : Issuer = record { pass = c.loop-rest.issuer.pass; seat = c.has_ended.new.seat; puts = c.loop-rest.issuer.puts } in
    line-put c.args.queue.now c.args.board.now c.args.browser c.args.text.now c.args.number c.args.issuer
    c.loop-rest.rest.now c.loop-rest.count c.loop-rest.browser c.loop-rest.issuer c.loop-rest.invariant looked refl
    c.first_line.result.0.now c.first_line.result.1.now c.first_line.ensures.line c.in-Ok-Work.field-0
    c.act_on.new.browser c.in-Ok-Work.ensures.acts c.in-Ok-Work.ensures.sync c.in-Ok-Work.ensures.closed
    c.in-Ok-Work.work c.in-Ok-Work.field-0-is c.put_work-issuer.result c.put_work-issuer.ensures
    c.has_ended.ensures.seat c.first_line.ensures.shorter

pub returns-clause-put : goal.returns-clause-put
returns-clause-put g c =
    let short : length c.loop-rest.rest.now ≤ 0 = search rules in
    (text-over c.args.queue.now c.args.board.now c.args.browser c.args.text.now c.args.number c.args.issuer
    c.loop-rest.rest.now c.loop-rest.count c.loop-rest.browser c.loop-rest.issuer c.loop-rest.invariant short).puts

pub returns-clause-ends : goal.returns-clause-ends
returns-clause-ends g c =
    let short : length c.loop-rest.rest.now ≤ 0 = search rules in (
      (text-over c.args.queue.now c.args.board.now c.args.browser c.args.text.now c.args.number c.args.issuer
          c.loop-rest.rest.now c.loop-rest.count c.loop-rest.browser c.loop-rest.issuer c.loop-rest.invariant short).ends,
      tt,
    )
