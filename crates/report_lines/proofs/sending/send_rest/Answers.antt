use Rattle.std.proofs.Common.{Ok, Err}
use Rattle.report_lines.proofs.WritingLaws.{reported}
use Rattle.report_lines.proofs.sending.send_rest.Goals as goal

pub returns-in-Ok-clause-report : goal.returns-in-Ok-clause-report
returns-in-Ok-clause-report g c =
    reported {T = Unit {0}} _ _ _ (Ok tt) (rw c.as_slice.ensures.value at c.in-Ok.ensures.bytes)

pub returns-in-Err-clause-report : goal.returns-in-Err-clause-report
returns-in-Err-clause-report g c =
    reported {T = Unit {0}} _ _ _ (Err c.in-Err.failed) (rw c.as_slice.ensures.value at c.in-Err.ensures.bytes)
