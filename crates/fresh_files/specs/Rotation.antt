-- A rotation: the stamp of the fresh file, what stands afterwards, and what a crash in between leaves.
use Rattle.std.specs.Prelude.{◌≡◌, ◌≢◌, ◌⊎◌, ℕ, ◌-◌, ◌≤◌, ◌^◌, List, length, take, Option, None, Some, Ok, Err, Result, IsErrOf, IsSome, Contains}
use Rattle.session_disk.specs.Causes.{Rose}
use Rattle.session_disk.specs.Moments.{Removed, Moment, IsNewestBelow}
use Rattle.session_disk.specs.Images.{Image, MayLeave, IsImage}
use Rattle.file_rotation.specs.Stamps.{fresh_stamp}
use Rattle.file_rotation.specs.Cleared.{cleared, loosened}
use Rattle.fresh_files.specs.Lay.{IsAbove, IsAboveRemoved, laid}
use Rattle.fresh_files.specs.declared.rotation.RotationFault.{RotationFault}
use Rattle.fresh_files.specs.declared.rotation.RotationFault.TheVariants as fault

-- each removed file is as old as some file that stands, or older
abbrev pub AreRemovedOlder : Moment → Type 0
AreRemovedOlder m = (file : Removed) → Contains m.removed file → (stamp : ℕ) × IsSome (m.standing stamp) × (file.stamp ≤ stamp)

-- a number is the clock's, where the clock is modelled
abbrev pub IsMomentOf : Type 0 → ℕ → ℕ → Type 0
IsMomentOf modelled moment now = modelled → now ≡ moment

-- the fresh stamp of the clock's number and the greatest stamp
pub record IsFreshStamp (IsMoment : ℕ → Type 0) (m : Moment) (stamp : ℕ) : Type 0 where
  pub clock : ℕ
  pub bound : clock ≤ 2 ^ 62
  pub moment : IsMoment clock
  pub greatest : Option ℕ
  pub newest : IsNewestBelow m.standing None greatest
  pub value : fresh_stamp clock greatest ≡ Ok stamp

-- the moment after a rotation: the fresh file, whole and safe, and of the older ones the foreign ones
abbrev pub rotated : ℕ → List ℕ → Moment → Moment
rotated stamp bytes m = cleared stamp (laid stamp bytes m)

-- a rotation under this stamp
pub record Rotates (IsMoment : ℕ → Type 0) (bytes : List ℕ) (old new : Moment) (stamp : ℕ) : Type 0 where
  pub fresh : IsFreshStamp IsMoment old stamp
  pub above : IsAbove stamp old
  pub done : new ≡ rotated stamp bytes old

-- The fresh file is added to an image of the moment. Where it is whole, some of the files that go may be missing.
pub record HasFresh (m : Moment) (bytes : List ℕ) (image : Image) : Type 0 where
  pub stamp : ℕ
  pub above : IsAbove stamp m
  pub above_removed : IsAboveRemoved stamp m
  pub prefix : ℕ
  pub here : image stamp ≡ Some (take prefix bytes)
  pub others : (s : ℕ) → s ≢ stamp → MayLeave m s (image s) ⊎ ((length bytes ≤ prefix) × MayLeave (loosened stamp m) s (image s))

-- A pair that a crash inside a rotation may leave: what was told at entry, and an image of the disk at entry, to which
-- the fresh file may be added.
pub record LeavesRotated (m : Moment) (bytes : List ℕ) (told : ℕ) (image : Image) : Type 0 where
  pub untouched : told ≡ m.told
  pub files : IsImage m image ⊎ HasFresh m bytes image

-- When a rotation may be refused: the disk failed only where its own count of failures rose, and the last stamp is
-- 2^63 - 1. Want of memory may come at any time.
pub record RotationHasCause {T : Type 0} (before now : ℕ) (result : Result T RotationFault) : Type 0 where
  pub later : before ≤ now
  pub failed : IsErrOf result fault.Disk → Rose before now
  pub last : (stamp : ℕ) → IsErrOf result (fault.LastStamp stamp) → stamp ≡ 2 ^ 63 - 1

-- The last stamp is refused exactly where a file has it; a listing that is refused comes before it.
abbrev pub RefusesLastStamp : {T : Type 0} → Moment → Result T RotationFault → Type 0
RefusesLastStamp m (Ok x) = IsAbove (2 ^ 63 - 1) m
RefusesLastStamp m (Err (fault.LastStamp stamp)) = IsNewestBelow m.standing None (Some stamp)
RefusesLastStamp m (Err fault.MemoryAfter) = IsAbove (2 ^ 63 - 1) m
RefusesLastStamp m (Err fault.MemoryBefore) = Unit {0}
RefusesLastStamp m (Err fault.Disk) = Unit {0}

-- The answers before which no file was made. That a creation which finds no memory makes none is known of a modelled
-- disk.
abbrev pub MakesNothing : {T : Type 0} → Type 0 → Result T RotationFault → Type 0
MakesNothing modelled (Ok x) = ⊥
MakesNothing modelled (Err (fault.LastStamp stamp)) = Unit {0}
MakesNothing modelled (Err fault.MemoryAfter) = ⊥
MakesNothing modelled (Err fault.MemoryBefore) = modelled
MakesNothing modelled (Err fault.Disk) = ⊥
