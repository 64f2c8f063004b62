use Rattle.report_lines.proofs.ReportLaws.{refused_at_once}
use Rattle.view_reports.proofs.lines.EntryLines.put.Goals as goal

pub returns-in_err-append_entry-clause-report : goal.returns-in_err-append_entry-clause-report
returns-in_err-append_entry-clause-report g c = refused_at_once _ _ _ _ c.from_residual.ensures.0
