use Rattle.std.proofs.Common.{rules, ◌++◌}
use Rattle.file_reports.specs.Lines.{ending_line, tally_lines}
use Rattle.file_reports.proofs.ReportLaws.{adds_refused, adds_made}
use Rattle.file_reports.proofs.checking.send_counts.Goals as goal

pub returns-in_err-put_tally_lines-clause-report : goal.returns-in_err-put_tally_lines-clause-report
returns-in_err-put_tally_lines-clause-report g c =
    adds_refused _ c.args.waiting.now.items _ (tally_lines c.args.tally.now ++ ending_line c.args.ending) c.from_residual.result (search rules)

pub returns-clause-report : goal.returns-clause-report
returns-clause-report g c =
    adds_made _ _ _ _ _ (tally_lines c.args.tally.now) (ending_line c.args.ending) c.send_ending.result c.in_ok-put_tally_lines.ensures c.send_ending.ensures.report
