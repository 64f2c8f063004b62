use Rattle.report_lines.proofs.ReportLaws.{adds_none}
use Rattle.snss_inspect.specs.Verdicts.{images}
use Rattle.snss_inspect.proofs.AnswerLaws.{state_text_is}
use Rattle.snss_inspect.proofs.states.put_states.Goals as goal

pub returns-in-Err-clause-report : goal.returns-in-Err-clause-report
returns-in-Err-clause-report g c = λ modelled v is. adds_none _ _ v.text

pub returns-in-Err-recovered_entries-clause-report : goal.returns-in-Err-recovered_entries-clause-report
returns-in-Err-recovered_entries-clause-report g c = λ modelled v is. adds_none _ _ v.text

pub returns-clause-report : goal.returns-clause-report
returns-clause-report g c = λ modelled v is.
    rw (state_text_is c.args.report (images g.D.SessionDisk.history c.args.session.now c.args.tabs.now) v c.in-Ok.view c.in-Ok-recovered_entries.entries.items is (c.in-Ok.ensures.view modelled) (c.in-Ok-recovered_entries.ensures.entries modelled))
    (rw c.deref.ensures.value at c.in-Err-put_state.ensures.report)
