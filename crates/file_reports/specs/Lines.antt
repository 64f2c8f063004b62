-- The lines of reports on one file.
use Rattle.std.specs.Prelude.{ℕ, ◌+◌, List, [], ◌∷◌, ◌++◌, length, codes, Option, None, Some}
use Rattle.std.specs.Fmt.{decimal}
use Rattle.payload_words.specs.FieldWords.{number_word}
use Rattle.payload_words.specs.Words.{words}
use Rattle.session_disk.specs.declared.family.Family.{Family}
use Rattle.snss_frames.specs.Frame.{Frame}
use Rattle.snss_frames.specs.declared.ending.Ending.{Ending}
use Rattle.snss_frames.specs.declared.ending.Ending.TheVariants.{Whole, CutSize, EmptyCommand, CutBody}
use Rattle.file_reading.specs.declared.head.FileHead.{FileHead}
use Rattle.file_reports.specs.Families.{shape_of}
use Rattle.file_reports.specs.FileReading.{FileReading}
use Rattle.file_reports.specs.FileKinds.{head_of_file, head_words}
use Rattle.file_reports.specs.declared.tally.Tally.{Tally}

abbrev pub head_line : FileHead → List ℕ
head_line head = codes "header " ++ (head_words head ++ codes "\n")

abbrev pub header_line : FileReading → List ℕ
header_line reading = head_line (head_of_file reading)

-- a frame that stands at an offset: its offset, its id, the length of its payload, its words
unfoldable pub frame_line : Family → ℕ → Frame → List ℕ
frame_line family at f =
    decimal at ++ (number_word f.id ++ (number_word (length f.payload)
    ++ (words (shape_of family f.id) f.id f.payload ++ codes "\n")))

-- frames, the first of which stands at an offset
unfoldable pub frame_lines : Family → ℕ → List Frame → List ℕ
frame_lines family at [] = []
frame_lines family at (f ∷ fs) = frame_line family at f ++ frame_lines family (at + (3 + length f.payload)) fs

-- said bytes, of which so many are there
abbrev pub ending_line : Ending → List ℕ
ending_line Whole = codes "ending whole\n"
ending_line (CutSize at) = codes "ending cut-size" ++ (number_word at ++ codes "\n")
ending_line (EmptyCommand at) = codes "ending empty" ++ (number_word at ++ codes "\n")
ending_line (CutBody at said present) =
    codes "ending cut-body" ++ (number_word at ++ (number_word said ++ (number_word present ++ codes "\n")))

abbrev pub marker_line : Option ℕ → List ℕ
marker_line None = codes "marker none\n"
marker_line (Some at) = codes "marker at" ++ (number_word at ++ codes "\n")

abbrev pub tally_lines : Tally → List ℕ
tally_lines t =
    codes "commands" ++ (number_word t.commands ++ (codes " raw" ++ (number_word t.raw ++ (codes "\n" ++ marker_line t.marker))))
