-- Why a report on files may stop: the disk, or the sink, failed only where its own count rose. Want of memory may come at
-- any time.
use Rattle.std.specs.Prelude.{ℕ, ◌≤◌, Result, IsErrOf}
use Rattle.session_disk.specs.declared.failure.DiskError.{DiskError}
use Rattle.session_disk.specs.declared.failure.DiskError.TheVariants as error
use Rattle.session_disk.specs.Causes.{Rose}
use Rattle.report_lines.specs.declared.fault.ReportFault.{ReportFault}
use Rattle.report_lines.specs.declared.fault.ReportFault.TheVariants as report
use Rattle.file_reports.specs.declared.fault.FileReportFault.{FileReportFault}
use Rattle.file_reports.specs.declared.fault.FileReportFault.TheVariants.{Disk, Write, Memory}

abbrev pub of_disk : DiskError → FileReportFault
of_disk error.Failed = Disk
of_disk error.Memory = Memory

abbrev pub of_report : ReportFault → FileReportFault
of_report report.Write = Write
of_report report.Memory = Memory

pub record FileReportHasCause {T : Type 0} (disk_before disk_now sink_before sink_now : ℕ) (result : Result T FileReportFault) : Type 0 where
  pub disk_later : disk_before ≤ disk_now
  pub sink_later : sink_before ≤ sink_now
  pub disk : IsErrOf result Disk → Rose disk_before disk_now
  pub sink : IsErrOf result Write → Rose sink_before sink_now
