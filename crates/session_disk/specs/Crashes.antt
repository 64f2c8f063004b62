-- What a crash leaves where it is told which files to keep, and how much of each.
use Rattle.std.specs.Prelude.{◌≡◌, ℕ, nat_le, true, ◌&&◌, if◌then◌else◌, ◌==◌, List, [], ◌∷◌, length, take, reverse, Option, Some, None, IsSome, IsNone, option_map, option_and_then}
use Rattle.std.specs.List.{AllByRecursion, find}
use Rattle.session_disk.specs.declared.memory.crash.Keep.{Keep}
use Rattle.session_disk.specs.Images.{Image, IsCut, IsImage}
use Rattle.session_disk.specs.Moments.{Moment, Standing, Removed, safe_file}

-- the bytes of a file, and how many of them a crash keeps at least
pub record Remains : Type 0 where
  pub bytes : List ℕ
  pub synced : ℕ

abbrev pub remains_of_standing : Standing → Remains
remains_of_standing file = record { bytes = file.bytes; synced = file.synced }

abbrev pub remains_of_removed : Removed → Remains
remains_of_removed file = record { bytes = file.bytes; synced = file.synced }

-- the removed file under a stamp; of several the one that was removed last
abbrev pub last_removed : ℕ → List Removed → Option Removed
last_removed stamp removed = find (λ file. file.stamp == stamp) (reverse removed)

abbrev pub first_of : Option Standing → Option Removed → Option Remains
first_of (Some file) removed = Some (remains_of_standing file)
first_of None removed = option_map remains_of_removed removed

-- the file that a stamp means: the one that stands, and where none does, the one that was removed last
abbrev pub file_meant : Moment → ℕ → Option Remains
file_meant m stamp = first_of (m.standing stamp) (last_removed stamp m.removed)

-- a file cut to a length, where a crash may cut it there
abbrev pub cut_to : ℕ → Option Remains → Option (List ℕ)
cut_to kept None = None
cut_to kept (Some file) = if nat_le file.synced kept && nat_le kept (length file.bytes) then Some (take kept file.bytes) else None

-- how many bytes the list keeps of the file under a stamp
abbrev pub kept_under : ℕ → List Keep → Option ℕ
kept_under stamp [] = None
kept_under stamp (keep ∷ keeps) = if stamp == keep.stamp then Some keep.bytes else kept_under stamp keeps

-- no stamp comes twice
abbrev pub IsOnce : List Keep → Type 0
IsOnce [] = Unit {0}
IsOnce (keep ∷ keeps) = IsNone (kept_under keep.stamp keeps) × IsOnce keeps

-- A crash may leave just the files of the list with their lengths: no stamp comes twice, each means a file
-- that may be cut so, and no file whose name is settled is left out.
pub record IsKeepable (m : Moment) (keeps : List Keep) : Type 0 where
  pub once : IsOnce keeps
  pub cuts : AllByRecursion (λ keep. IsSome (cut_to keep.bytes (file_meant m keep.stamp))) keeps
  pub settled : (stamp : ℕ) (file : Standing) → m.standing stamp ≡ Some file → file.settled ≡ true → IsSome (kept_under stamp keeps)

-- just the files of the list with their lengths, of those that stood or were removed
abbrev pub image_of : Moment → List Keep → Image
image_of m keeps stamp = option_and_then (λ kept. cut_to kept (file_meant m stamp)) (kept_under stamp keeps)

-- each file of the image is a cut of the file that its stamp means
abbrev pub IsOfMeant : Moment → Image → Type 0
IsOfMeant m image = (stamp : ℕ) (bytes : List ℕ) → image stamp ≡ Some bytes → (file : Remains) × (file_meant m stamp ≡ Some file) × IsCut file.synced file.bytes bytes

-- the list has just the files of the image, each once and with its length
pub record Lists (keeps : List Keep) (image : Image) : Type 0 where
  pub once : IsOnce keeps
  pub lengths : (stamp : ℕ) → kept_under stamp keeps ≡ option_map length (image stamp)

-- an image of the moment, of the files that the stamps mean, with just the files and the lengths of the list
pub record IsListedImage (m : Moment) (keeps : List Keep) (image : Image) : Type 0 where
  pub left : IsImage m image
  pub meant : IsOfMeant m image
  pub lists : Lists keeps image

-- these files and no others, all safe; nothing was told, nothing made
abbrev pub resting : Image → Moment
resting image = record { standing = λ stamp. option_map safe_file (image stamp); removed = []; told = 0; creates = 0 }
