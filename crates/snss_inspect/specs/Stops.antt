-- What stops an inspection before its end, and the answer that follows.
use Rattle.session_disk.specs.declared.failure.DiskError.{DiskError}
use Rattle.session_disk.specs.declared.failure.DiskError.TheVariants as error
use Rattle.session_disk.specs.declared.family.Family.{Family}
use Rattle.file_rotation.specs.declared.fault.RotateFault.{RotateFault}
use Rattle.file_rotation.specs.declared.fault.RotateFault.TheVariants as rotation
use Rattle.file_reports.specs.declared.fault.FileReportFault.{FileReportFault}
use Rattle.file_reports.specs.declared.fault.FileReportFault.TheVariants as file
use Rattle.report_lines.specs.declared.fault.ReportFault.{ReportFault}
use Rattle.report_lines.specs.declared.fault.ReportFault.TheVariants as report
use Rattle.inspect_words.specs.declared.status.InspectStatus.{InspectStatus}
use Rattle.inspect_words.specs.declared.status.InspectStatus.TheVariants as status

-- the answer where the work was on the disk of this family
abbrev pub disk_status : Family → DiskError → InspectStatus
disk_status family error.Failed = status.Disk family
disk_status family error.Memory = status.Memory

abbrev pub file_status : Family → FileReportFault → InspectStatus
file_status family file.Disk = status.Disk family
file_status family file.Write = status.Write
file_status family file.Memory = status.Memory

abbrev pub rotate_status : Family → RotateFault → InspectStatus
rotate_status family rotation.Disk = status.Disk family
rotate_status family rotation.Memory = status.Memory

abbrev pub report_status : ReportFault → InspectStatus
report_status report.Write = status.Write
report_status report.Memory = status.Memory
