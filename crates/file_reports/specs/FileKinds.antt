-- The kind of a file, in words.
use Rattle.std.specs.Prelude.{ℕ, ◌/◌, ◌%◌, Bool, true, false, ◌==◌, ◌&&◌, List, [], ◌∷◌, ◌++◌, length, codes}
use Rattle.std.specs.List.{list_any}
use Rattle.std.specs.Fmt.{decimal}
use Rattle.shown_texts.specs.Shown.{hexadecimal_digit}
use Rattle.snss_frames.specs.Frame.{Frame}
use Rattle.snss_frames.specs.declared.header.Version.{Version}
use Rattle.snss_frames.specs.declared.header.Version.TheVariants.{One, Three}
use Rattle.snss_frames.specs.declared.header.HeaderFault.{HeaderFault}
use Rattle.snss_frames.specs.declared.header.HeaderFault.TheVariants.{BadSignature, Encrypted, UnknownVersion}
use Rattle.file_reading.specs.declared.head.FileHead.{FileHead}
use Rattle.file_reading.specs.declared.head.FileHead.TheVariants as head
use Rattle.file_reports.specs.FileReading.{FileReading, TooShort, Foreign, Framed}
use Rattle.file_reports.specs.declared.kind.FileKind.{FileKind}
use Rattle.file_reports.specs.declared.kind.FileKind.TheVariants as kind

-- the initial-state marker
abbrev pub is_marker : Frame → Bool
is_marker f = (f.id == 255) && (length f.payload == 0)

abbrev pub version_kind : Version → List Frame → FileKind
version_kind One frames = kind.One
version_kind Three frames = kind.Three (list_any is_marker frames)

abbrev pub kind_of : FileReading → FileKind
kind_of (TooShort n) = kind.Short n
kind_of (Foreign fault) = kind.Foreign fault
kind_of (Framed version frames rest) = version_kind version frames

-- what the head of the file says
abbrev pub head_of_file : FileReading → FileHead
head_of_file (TooShort n) = head.Short n
head_of_file (Foreign fault) = head.Foreign fault
head_of_file (Framed version frames rest) = head.Known version

-- A file that counts has version 1, or version 3 and the marker.
abbrev pub is_lawful : FileKind → Bool
is_lawful (kind.Short n) = false
is_lawful (kind.Foreign fault) = false
is_lawful kind.One = true
is_lawful (kind.Three marked) = marked

-- a number of 32 bits in eight digits
unfoldable pub hexadecimal : ℕ → List ℕ
hexadecimal n =
    hexadecimal_digit (n / 268435456 % 16) ∷ hexadecimal_digit (n / 16777216 % 16) ∷ hexadecimal_digit (n / 1048576 % 16)
    ∷ hexadecimal_digit (n / 65536 % 16) ∷ hexadecimal_digit (n / 4096 % 16) ∷ hexadecimal_digit (n / 256 % 16)
    ∷ hexadecimal_digit (n / 16 % 16) ∷ hexadecimal_digit (n % 16) ∷ []

abbrev pub fault_words : HeaderFault → List ℕ
fault_words (BadSignature signature) = codes "bad-signature " ++ hexadecimal signature
fault_words (Encrypted version) = codes "encrypted " ++ decimal version
fault_words (UnknownVersion version) = codes "unknown-version " ++ decimal version

abbrev pub marked_words : Bool → List ℕ
marked_words true = codes "v3 marked"
marked_words false = codes "v3 unmarked"

abbrev pub short_words : ℕ → List ℕ
short_words length = codes "short " ++ decimal length

abbrev pub kind_words : FileKind → List ℕ
kind_words (kind.Short n) = short_words n
kind_words (kind.Foreign fault) = fault_words fault
kind_words kind.One = codes "v1"
kind_words (kind.Three marked) = marked_words marked

-- the head alone in words, which say nothing of the marker
abbrev pub head_words : FileHead → List ℕ
head_words (head.Short n) = short_words n
head_words (head.Foreign fault) = fault_words fault
head_words (head.Known One) = codes "v1"
head_words (head.Known Three) = codes "v3"
