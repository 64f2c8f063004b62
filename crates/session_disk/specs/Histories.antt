-- The moments of a disk, and what one call, or a run of calls, adds to them.
use Rattle.std.specs.Prelude.{◌≡◌, ℕ, ◌≤◌, ◌⊎◌, List, [], ◌∷◌, ◌++◌, Contains, Result, OnOk, IsErrOf}
use Rattle.session_disk.specs.declared.failure.DiskError.{DiskError}
use Rattle.session_disk.specs.declared.failure.DiskError.TheVariants.{Memory}
use Rattle.session_disk.specs.Moments.{Moment}
use Rattle.session_disk.specs.Images.{Image, IsImage}

-- the present moment and the earlier ones, the latest first
pub record History : Type 0 where
  pub now : Moment
  pub past : List Moment

abbrev pub moments : History → List Moment
moments h = h.now ∷ h.past

-- one step later
abbrev pub after : (Moment → Moment) → History → History
after step h = record { now = step h.now; past = moments h }

-- A call whose work is counted, as the bytes of an append. After Ok all of it was done. Whatever the answer,
-- nothing was done or some of the work, in one step. After want of memory nothing was.
pub record Changes {T : Type 0} (old new : History) (result : Result T DiskError) (all : ℕ) (step : ℕ → Moment → Moment) : Type 0 where
  pub ok : OnOk result (new ≡ after (step all) old)
  pub done : (new ≡ old) ⊎ ((some : ℕ) × (some ≤ all) × (new ≡ after (step some) old))
  pub memory : IsErrOf result Memory → new ≡ old

-- The history grew from the entry on, and each pair of told number and image that a crash at the moment of entry or at
-- any later one may leave has P.
pub record Leaves (old new : History) (P : ℕ → Image → Type 0) : Type 0 where
  pub since : List Moment
  pub grew : moments new ≡ since ++ moments old
  pub pairs : (m : Moment) → Contains (since ++ old.now ∷ []) m → (image : Image) → IsImage m image → P m.told image
