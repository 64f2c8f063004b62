-- A fresh file that is laid on a disk: what stands afterwards, and what a crash in between leaves.
use Rattle.std.specs.Prelude.{◌≡◌, ◌≢◌, ◌⊎◌, ℕ, ◌+◌, ◌<◌, ◌≤◌, true, List, [], length, take, Some, IsSome, option_map, Contains, Result, IsErrOf}
use Rattle.session_disk.specs.Causes.{Rose}
use Rattle.session_disk.specs.Moments.{Standing, Removed, Moment, with_file, settled_file}
use Rattle.session_disk.specs.Images.{Image, MayLeave, IsImage}
use Rattle.fresh_files.specs.declared.lay.LayFault.{LayFault}
use Rattle.fresh_files.specs.declared.lay.LayFault.TheVariants as fault

-- each file that stands has a smaller stamp
abbrev pub IsAbove : ℕ → Moment → Type 0
IsAbove stamp m = (s : ℕ) → IsSome (m.standing s) → s < stamp

-- and so has each removed one
abbrev pub IsAboveRemoved : ℕ → Moment → Type 0
IsAboveRemoved stamp m = (file : Removed) → Contains m.removed file → file.stamp < stamp

-- a file that no crash changes
abbrev pub safe_file : List ℕ → Standing
safe_file bytes = record { bytes = bytes; synced = length bytes; settled = true }

-- the moment with one more file, whole and safe; all names are settled
abbrev pub laid : ℕ → List ℕ → Moment → Moment
laid stamp bytes m = record m {
  standing = with_file stamp (Some (safe_file bytes)) (λ s. option_map settled_file (m.standing s));
  removed = [];
  creates = m.creates + 1;
}

-- an image of the moment, to which a file with some prefix of the bytes is added
pub record HasPrefix (m : Moment) (stamp : ℕ) (bytes : List ℕ) (image : Image) : Type 0 where
  pub prefix : ℕ
  pub here : image stamp ≡ Some (take prefix bytes)
  pub others : (s : ℕ) → s ≢ stamp → MayLeave m s (image s)

-- A pair that a crash while the file is laid may leave: what was told at entry, and an image of the disk at entry, to
-- which a prefix of the file may be added.
pub record LeavesLaid (m : Moment) (stamp : ℕ) (bytes : List ℕ) (told : ℕ) (image : Image) : Type 0 where
  pub untouched : told ≡ m.told
  pub files : IsImage m image ⊎ HasPrefix m stamp bytes image

-- the file stands whole
abbrev pub HasWhole : ℕ → List ℕ → ℕ → Image → Type 0
HasWhole stamp bytes told image = image stamp ≡ Some bytes

-- The disk failed only where its own count of failures rose. Want of memory may come at any time.
pub record LayHasCause {T : Type 0} (before now : ℕ) (result : Result T LayFault) : Type 0 where
  pub later : before ≤ now
  pub failed : IsErrOf result fault.Disk → Rose before now
