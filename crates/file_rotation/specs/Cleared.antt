-- What is left of a disk when the files before a stamp are cleared away, all but the foreign ones.
use Rattle.std.specs.Prelude.{◌≡◌, ℕ, Bool, true, false, [], Option, None, Some, option_map, if◌then◌else◌, nat_lt, not, ◌&&◌}
use Rattle.session_disk.specs.Moments.{Standing, Moment, settled_file}
use Rattle.session_disk.specs.Images.{Image, IsImage}
use Rattle.file_rotation.specs.Foreign.{is_foreign}

-- whether the file under a stamp is to go: it is older and not foreign
abbrev pub goes : ℕ → ℕ → Standing → Bool
goes stamp s file = nat_lt s stamp && not (is_foreign file.bytes)

abbrev pub kept_file : ℕ → ℕ → Option Standing → Option Standing
kept_file stamp s None = None
kept_file stamp s (Some file) = if goes stamp s file then None else Some file

-- the moment without the files that go and with all others settled; what was told and made is as before
abbrev pub cleared : ℕ → Moment → Moment
cleared stamp m = record m {
  standing = λ s. option_map settled_file (kept_file stamp s (m.standing s));
  removed = [];
}

-- the moment with the names of the files that go unsettled, so that a crash may leave each of them out
abbrev pub loosened_file : ℕ → ℕ → Standing → Standing
loosened_file stamp s file = record file { settled = if goes stamp s file then false else file.settled }

abbrev pub loosened : ℕ → Moment → Moment
loosened stamp m = record m { standing = λ s. option_map (loosened_file stamp s) (m.standing s) }

-- A pair that a crash inside may leave: what was told at entry, and an image of the disk at entry in which some of the
-- files that go may be missing.
pub record LeavesWithout (m : Moment) (stamp told : ℕ) (image : Image) : Type 0 where
  pub untouched : told ≡ m.told
  pub files : IsImage (loosened stamp m) image

-- a file stands under this stamp that is to go
pub record IsToGo (m : Moment) (stamp s : ℕ) : Type 0 where
  pub file : Standing
  pub stands : m.standing s ≡ Some file
  pub older : goes stamp s file ≡ true
