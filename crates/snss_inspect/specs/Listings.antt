-- The files of a family in a list, from the newest down: each with its name, its length and its kind, and the one that is
-- chosen.
use Rattle.std.specs.Prelude.{◌≡◌, ℕ, ◌≤◌, Bool, true, false, not, ◌&&◌, ◌==◌, List, [], ◌∷◌, ◌++◌, length, codes, Option, None, Some, IsSome}
use Rattle.std.specs.List.{flat_map}
use Rattle.session_disk.specs.declared.family.Family.{Family}
use Rattle.session_disk.specs.Names.{name_of}
use Rattle.session_disk.specs.Moments.{IsBelow}
use Rattle.session_disk.specs.Images.{Image}
use Rattle.file_rotation.specs.declared.choice.Chosen.{Chosen}
use Rattle.file_rotation.specs.Choice.{IsChoice}
use Rattle.payload_words.specs.FieldWords.{number_word}
use Rattle.file_reports.specs.FileReading.{FileReading, IsReading}
use Rattle.file_reports.specs.FileKinds.{kind_of, kind_words, is_lawful}
use Rattle.file_reports.specs.declared.kind.FileKind.{FileKind}
use Rattle.snss_inspect.specs.declared.listing.FileLine.{FileLine}

pub record ListedFile : Type 0 where
  pub stamp : ℕ
  pub bytes : List ℕ
  pub reading : FileReading

-- the newest file of those below a bound, and what its bytes are
pub record IsNewestFile (image : Image) (below : Option ℕ) (file : ListedFile) : Type 0 where
  pub stands : image file.stamp ≡ Some file.bytes
  pub within : IsBelow below file.stamp
  pub newest : (s : ℕ) → IsSome (image s) → IsBelow below s → s ≤ file.stamp
  pub reads : IsReading file.bytes file.reading

-- all files below a bound, from the newest down
abbrev pub AreListed : Image → Option ℕ → List ListedFile → Type 0
AreListed image below [] = (s : ℕ) → IsSome (image s) → IsBelow below s → ⊥
AreListed image below (file ∷ files) = IsNewestFile image below file × AreListed image (Some file.stamp) files

abbrev pub is_chosen : Option Chosen → ℕ → Bool
is_chosen None stamp = false
is_chosen (Some chosen) stamp = chosen.stamp == stamp

abbrev pub line_end : Bool → List ℕ
line_end true = codes " chosen\n"
line_end false = codes "\n"

unfoldable pub line_text : FileLine → List ℕ
line_text line =
    name_of line.family line.stamp ++ (number_word line.length ++ (codes " " ++ (kind_words line.kind ++ line_end line.is_chosen)))

abbrev pub file_line : Family → Option Chosen → ListedFile → List ℕ
file_line family chosen file = line_text (record {
  family = family;
  stamp = file.stamp;
  length = length file.bytes;
  kind = kind_of file.reading;
  is_chosen = is_chosen chosen file.stamp;
})

-- a lawful file, where no newer one is lawful
abbrev pub is_first : Bool → FileKind → Bool
is_first has_newer kind = not has_newer && is_lawful kind

abbrev pub file_lines : Family → Option Chosen → List ListedFile → List ℕ
file_lines family chosen files = flat_map (file_line family chosen) files

-- the text of a listing of all files
pub record IsListing (family : Family) (image : Image) (text : List ℕ) : Type 0 where
  pub files : List ListedFile
  pub listed : AreListed image None files
  pub chosen : Option Chosen
  pub choice : IsChoice image chosen
  pub says : text ≡ file_lines family chosen files
