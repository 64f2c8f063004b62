-- The reports on one file: what was counted, or each command. Of a file without a header that is read, both say the
-- header's line alone.
use Rattle.std.specs.Prelude.{ℕ, List, ◌++◌}
use Rattle.session_disk.specs.declared.family.Family.{Family}
use Rattle.snss_frames.specs.Frame.{Frame}
use Rattle.snss_frames.specs.Reading.{offset_after, ending_at}
use Rattle.file_reports.specs.FileReading.{FileReading, TooShort, Foreign, Framed}
use Rattle.file_reports.specs.Tallies.{tally}
use Rattle.file_reports.specs.Lines.{header_line, frame_lines, ending_line, tally_lines}

-- how a file ends
abbrev pub last_line : List Frame → List ℕ → List ℕ
last_line frames rest = ending_line (ending_at (offset_after 8 frames) rest)

abbrev pub check_text : Family → FileReading → List ℕ
check_text family (TooShort n) = header_line (TooShort n)
check_text family (Foreign fault) = header_line (Foreign fault)
check_text family (Framed version frames rest) =
    header_line (Framed version frames rest) ++ (tally_lines (tally family frames) ++ last_line frames rest)

abbrev pub show_text : Family → FileReading → List ℕ
show_text family (TooShort n) = header_line (TooShort n)
show_text family (Foreign fault) = header_line (Foreign fault)
show_text family (Framed version frames rest) =
    header_line (Framed version frames rest) ++ (frame_lines family 8 frames ++ last_line frames rest)
