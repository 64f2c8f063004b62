-- What a crash may leave of a disk.
use Rattle.std.specs.Prelude.{◌≡◌, ℕ, ◌≤◌, ◌⊎◌, false, List, length, take, Option, Some, None, option_map, Contains}
use Rattle.session_disk.specs.Moments.{Standing, Removed, Moment}

-- files by stamp, each with its bytes
abbrev pub Image : Type 0
Image = ℕ → Option (List ℕ)

-- the bytes cut anywhere from the synced length to their end
pub record IsCut (synced : ℕ) (bytes cut : List ℕ) : Type 0 where
  pub kept : ℕ
  pub synced_kept : synced ≤ kept
  pub within : kept ≤ length bytes
  pub prefix : cut ≡ take kept bytes

-- nothing need be left of what stands under a stamp: there is no file, or its name isn't settled
abbrev pub MayGo : Option Standing → Type 0
MayGo None = Unit {0}
MayGo (Some file) = file.settled ≡ false

abbrev pub IsOfStanding : Moment → ℕ → List ℕ → Type 0
IsOfStanding m stamp bytes = (file : Standing) × (m.standing stamp ≡ Some file) × IsCut file.synced file.bytes bytes

-- a removed file may come back where nothing stands in its place for sure
abbrev pub IsOfRemoved : Moment → ℕ → List ℕ → Type 0
IsOfRemoved m stamp bytes =
    (file : Removed) × Contains m.removed file × (file.stamp ≡ stamp) × IsCut file.synced file.bytes bytes × MayGo (m.standing stamp)

-- a crash may leave this under a stamp
abbrev pub MayLeave : Moment → ℕ → Option (List ℕ) → Type 0
MayLeave m stamp None = MayGo (m.standing stamp)
MayLeave m stamp (Some bytes) = IsOfStanding m stamp bytes ⊎ IsOfRemoved m stamp bytes

-- a crash at this moment may leave this image
abbrev pub IsImage : Moment → Image → Type 0
IsImage m image = (stamp : ℕ) → MayLeave m stamp (image stamp)

-- the files as they read
abbrev pub as_it_reads : Moment → Image
as_it_reads m stamp = option_map (λ file. file.bytes) (m.standing stamp)

-- each pair of told number and image that a crash at this moment may leave has P
abbrev pub OnlyLeaves : (ℕ → Image → Type 0) → Moment → Type 0
OnlyLeaves P m = (image : Image) → IsImage m image → P m.told image
