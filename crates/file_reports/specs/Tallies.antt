-- What is counted of a file's frames.
use Rattle.std.specs.Prelude.{ℕ, ◌+◌, Bool, not, ◌&&◌, List, [], ◌∷◌, length, is_some, Option, None, Some, if◌then◌else◌}
use Rattle.std.specs.Option.{option_or}
use Rattle.snss_frames.specs.Frame.{Frame}
use Rattle.session_disk.specs.declared.family.Family.{Family}
use Rattle.file_reports.specs.Families.{fault_of}
use Rattle.file_reports.specs.FileKinds.{is_marker}
use Rattle.file_reports.specs.declared.tally.Tally.{Tally}

-- no row of the family's table holds, and it isn't the marker
abbrev pub is_raw : Family → Frame → Bool
is_raw family f = not (is_marker f) && is_some (fault_of family f.id f.payload)

unfoldable pub raw_count : Family → List Frame → ℕ
raw_count family [] = 0
raw_count family (f ∷ fs) = (if is_raw family f then 1 else 0) + raw_count family fs

-- the offset of the first marker, where the first frame stands at an offset
unfoldable pub marker_at : ℕ → List Frame → Option ℕ
marker_at at [] = None
marker_at at (f ∷ fs) = if is_marker f then Some at else marker_at (at + (3 + length f.payload)) fs

abbrev pub tally : Family → List Frame → Tally
tally family frames = record {
  commands = length frames;
  raw = raw_count family frames;
  marker = marker_at 8 frames;
}

-- the tally of some frames and of one more, which stands at an offset
abbrev pub with_frame : Family → Tally → ℕ → Frame → Tally
with_frame family t at f = record {
  commands = t.commands + 1;
  raw = t.raw + (if is_raw family f then 1 else 0);
  marker = option_or t.marker (if is_marker f then Some at else None);
}
