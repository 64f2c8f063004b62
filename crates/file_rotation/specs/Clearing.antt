-- What stands between the steps of a clearing.
use Rattle.std.specs.Prelude.{◌≡◌, ◌⊎◌, ℕ, None, Some, if◌then◌else◌, Contains, Result, OnOk}
use Rattle.session_disk.specs.declared.failure.DiskError.{DiskError}
use Rattle.session_disk.specs.Moments.{Standing, Removed, Moment, bytes_at, after_remove}
use Rattle.session_disk.specs.Histories.{History, after}
use Rattle.file_rotation.specs.Foreign.{is_foreign}
use Rattle.file_rotation.specs.Cleared.{IsToGo}

-- a removed file is as it stood before
pub record HadStood (m : Moment) (gone : Removed) : Type 0 where
  pub file : Standing
  pub stood : m.standing gone.stamp ≡ Some file
  pub bytes : gone.bytes ≡ file.bytes
  pub synced : gone.synced ≡ file.synced

-- some of the files that go are removed, and nothing else is changed
pub record PartlyCleared (stamp : ℕ) (old new : Moment) : Type 0 where
  pub standing : (s : ℕ) → (new.standing s ≡ old.standing s) ⊎ ((new.standing s ≡ None) × IsToGo old stamp s)
  pub removed : (gone : Removed) → Contains new.removed gone → Contains old.removed gone ⊎ HadStood old gone
  pub told : new.told ≡ old.told
  pub creates : new.creates ≡ old.creates

-- one file taken away unless it is foreign
abbrev pub without_own : ℕ → History → History
without_own stamp h = if is_foreign (bytes_at stamp h.now) then h else after (after_remove stamp) h

pub record TakesOwn {T : Type 0} (stamp : ℕ) (old new : History) (result : Result T DiskError) : Type 0 where
  pub ok : OnOk result (new ≡ without_own stamp old)
  pub done : (new ≡ old) ⊎ (new ≡ without_own stamp old)
