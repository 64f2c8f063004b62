use Rattle.report_lines.proofs.ReportLaws.{adds_none}
use Rattle.snss_inspect.proofs.files.put_file.Goals as goal

pub returns-in-Err-put_no_stamp-clause-report : goal.returns-in-Err-put_no_stamp-clause-report
returns-in-Err-put_no_stamp-clause-report g c = λ modelled v is. (adds_none _ _ v.text, tt)

pub returns-in-Err-clause-report : goal.returns-in-Err-clause-report
returns-in-Err-clause-report g c = λ modelled v is. (adds_none _ _ v.text, tt)
