use Rattle.std.proofs.Common.{rules}
use Rattle.file_reports.specs.Lines.{head_line}
use Rattle.file_reports.proofs.ReportLaws.{adds_refused}
use Rattle.file_reports.proofs.head.send_head.Goals as goal

pub returns-in_err-put_head_line-clause-report : goal.returns-in_err-put_head_line-clause-report
returns-in_err-put_head_line-clause-report g c = adds_refused _ c.args.waiting.now.items _ (head_line c.args.head) c.from_residual.result (search rules)
