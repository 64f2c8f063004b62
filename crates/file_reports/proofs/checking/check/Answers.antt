use Rattle.std.proofs.Common.{rules, ◌∙◌}
use Rattle.file_reports.specs.FileTexts.{check_text}
use Rattle.file_reports.proofs.ReportLaws.{header_cut, header_done, header_goes_on, head_read, check_parts, counts_text, adds_failed, adds_refused}
use Rattle.file_reports.proofs.checking.check.Goals as goal

pub returns-in_err-head-clause-report : goal.returns-in_err-head-clause-report
returns-in_err-head-clause-report g c = λ modelled reading is.
    adds_refused _ c.args.waiting.now.items _ (check_text c.args.family reading) c.from_residual.result (search rules)

pub returns-in_err-send_head-clause-report : goal.returns-in_err-send_head-clause-report
returns-in_err-send_head-clause-report g c = λ modelled reading is.
    rw (check_parts c.args.family reading)
    (header_cut (counts_text c.args.family) _ _ _ _ c.from_residual-in_err-send_head.result _ reading (c.in_ok-head.ensures.head modelled ∙ head_read _ reading is) (search rules) c.in_err-send_head.ensures.report)

pub returns-in_err-tally-in-Known-clause-report : goal.returns-in_err-tally-in-Known-clause-report
returns-in_err-tally-in-Known-clause-report g c = λ modelled reading is.
    rw (check_parts c.args.family reading)
    (header_goes_on (counts_text c.args.family) _ _ _ _ c.from_residual-in_err-tally-in-Known.result _ _ _ _ _ reading (c.in_ok-head.ensures.head modelled ∙ head_read _ reading is) c.in-Known.is is c.in_ok-send_head.ensures.report
    (λ frames rest reads. adds_refused _ c.send_head.new.waiting.items _ (counts_text c.args.family frames rest) c.from_residual-in_err-tally-in-Known.result (search rules)))

pub returns-in_err-send_counts-in-Known-clause-report : goal.returns-in_err-send_counts-in-Known-clause-report
returns-in_err-send_counts-in-Known-clause-report g c = λ modelled reading is.
    rw (check_parts c.args.family reading)
    (header_goes_on (counts_text c.args.family) _ _ _ _ c.from_residual-in_err-send_counts-in-Known.result _ _ _ _ _ reading (c.in_ok-head.ensures.head modelled ∙ head_read _ reading is) c.in-Known.is is c.in_ok-send_head.ensures.report
    (λ frames rest reads.
    let counts = (rw c.in_ok-head.ensures.unchanged at (c.in_ok-tally-in-Known.ensures.counts modelled)) frames rest reads in
    adds_failed _ _ c.send_head.new.waiting.items _ (counts_text c.args.family frames rest) c.from_residual-in_err-send_counts-in-Known.result (search rules) (rw (counts.0, counts.1) at c.in_err-send_counts-in-Known.ensures.report)))

pub returns-in_ok-send_counts-in-Known-clause-report : goal.returns-in_ok-send_counts-in-Known-clause-report
returns-in_ok-send_counts-in-Known-clause-report g c = λ modelled reading is.
    rw (check_parts c.args.family reading)
    (header_done (counts_text c.args.family) _ _ _ _ _ _ _ _ _ reading (c.in_ok-head.ensures.head modelled ∙ head_read _ reading is) c.in-Known.is is c.in_ok-send_head.ensures.report
    (λ frames rest reads.
    let counts = (rw c.in_ok-head.ensures.unchanged at (c.in_ok-tally-in-Known.ensures.counts modelled)) frames rest reads in
    rw (counts.0, counts.1) at c.in_ok-send_counts-in-Known.ensures.report))
