use Rattle.report_lines.proofs.ReportLaws.{begun}
use Rattle.snss_inspect.proofs.AnswerLaws.{ended_answers, stopped_answers}
use Rattle.snss_inspect.proofs.inspection.answer.Goals as goal

pub returns-in-Err-clause-report : goal.returns-in-Err-clause-report
returns-in-Err-clause-report g c = λ modelled v is. (v.text, begun _ v.text)

pub returns-in-Ok-put_ordered-clause-report : goal.returns-in-Ok-put_ordered-clause-report
returns-in-Ok-put_ordered-clause-report g c = λ modelled v is.
    let added = c.in-Ok-put_ordered.ensures.report modelled v is in
    ended_answers _ _ _ _ _ v c.in-Ok-put_ordered.status _ added.1 (rw c.in-Ok.ensures.items at added.0) c.end.ensures

pub returns-clause-report : goal.returns-clause-report
returns-clause-report g c = λ modelled v is.
    stopped_answers _ _ _ _ v _ c.in-Err-put_ordered.ensures.cause (rw c.in-Ok.ensures.items at (c.in-Err-put_ordered.ensures.report modelled v is).0)
