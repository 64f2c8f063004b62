use Rattle.std.proofs.Common.{rules, ◌∙◌}
use Rattle.file_reports.specs.FileTexts.{show_text}
use Rattle.file_reports.proofs.ReportLaws.{header_cut, header_goes_on, head_read, show_parts, commands_text, adds_refused}
use Rattle.file_reports.proofs.showing.show.Goals as goal

pub returns-in_err-head-clause-report : goal.returns-in_err-head-clause-report
returns-in_err-head-clause-report g c = λ modelled reading is.
    adds_refused _ c.args.waiting.now.items _ (show_text c.args.family reading) c.from_residual.result (search rules)

pub returns-in_err-send_head-clause-report : goal.returns-in_err-send_head-clause-report
returns-in_err-send_head-clause-report g c = λ modelled reading is.
    rw (show_parts c.args.family reading)
    (header_cut (commands_text c.args.family) _ _ _ _ c.from_residual-in_err-send_head.result _ reading (c.in_ok-head.ensures.head modelled ∙ head_read _ reading is) (search rules) c.in_err-send_head.ensures.report)

pub returns-in-Known-clause-report : goal.returns-in-Known-clause-report
returns-in-Known-clause-report g c = λ modelled reading is.
    rw (show_parts c.args.family reading)
    (header_goes_on (commands_text c.args.family) _ _ _ _ c.send_commands.result _ _ _ _ _ reading (c.in_ok-head.ensures.head modelled ∙ head_read _ reading is) c.in-Known.is is c.in_ok-send_head.ensures.report
    (rw c.in_ok-head.ensures.unchanged at (c.send_commands.ensures.report modelled)))
