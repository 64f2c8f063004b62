use Rattle.report_lines.proofs.ReportLaws.{begun, none_waits}
use Rattle.report_lines.proofs.sending.send_piece.Goals as goal

pub returns-then-len-lt-PIECE-clause-report : goal.returns-then-len-lt-PIECE-clause-report
returns-then-len-lt-PIECE-clause-report g c = begun _ _

pub returns-in-Ok-clause-report : goal.returns-in-Ok-clause-report
returns-in-Ok-clause-report g c = rw c.in-Ok.ensures.ok (none_waits _ _ _ c.in-Ok.ensures.report)
