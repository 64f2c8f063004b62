use Rattle.std.proofs.Common.{rules}
use Rattle.file_reports.specs.Lines.{ending_line}
use Rattle.file_reports.proofs.ReportLaws.{adds_refused}
use Rattle.file_reports.proofs.ending.send_ending.Goals as goal

pub returns-in_err-put_ending_line-clause-report : goal.returns-in_err-put_ending_line-clause-report
returns-in_err-put_ending_line-clause-report g c = adds_refused _ c.args.waiting.now.items _ (ending_line c.args.ending) c.from_residual.result (search rules)
