-- The answers of a choice and of a recovery on the files as they read.
use Rattle.std.specs.Prelude.{◌≡◌, ℕ, ◌<◌, List, Option, None, Some}
use Rattle.snss_frames.specs.Frame.{Frame}
use Rattle.snss_frames.specs.declared.header.Version.{Version}
use Rattle.session_disk.specs.Images.{Image}
use Rattle.file_rotation.specs.declared.choice.Chosen.{Chosen}
use Rattle.file_rotation.specs.Recovery.{IsLawful, IsChosen, NoneLawful}

-- a file is lawful, and this is its version
pub record IsLawfulAs (bytes : List ℕ) (version : Version) : Type 0 where
  pub frames : List Frame
  pub lawful : IsLawful bytes frames
  pub said : version ≡ lawful.version

-- the file with these bytes stands, and no newer one is lawful
pub record IsNewestLawful (image : Image) (stamp : ℕ) (bytes : List ℕ) : Type 0 where
  pub stands : image stamp ≡ Some bytes
  pub newest : (s : ℕ) (other : List ℕ) (others : List Frame) → stamp < s → image s ≡ Some other → IsLawful other others → ⊥

-- the chosen file, with its version
pub record IsChosenAs (image : Image) (chosen : Chosen) : Type 0 where
  pub frames : List Frame
  pub newest : IsChosen image chosen.stamp frames
  pub said : chosen.version ≡ newest.lawful.version

abbrev pub IsChoice : Image → Option Chosen → Type 0
IsChoice image None = NoneLawful image
IsChoice image (Some chosen) = IsChosenAs image chosen
