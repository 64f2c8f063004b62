-- A disk of session files at one moment, and what each step of a call makes of it.
use Rattle.std.specs.Prelude.{◌≡◌, ℕ, ◌+◌, ◌<◌, ◌≤◌, max, Bool, true, false, if◌then◌else◌, ◌==◌, List, [], ◌∷◌, ◌++◌, length, take, drop, get_or, Option, Some, None, IsSome, option_map}

-- a file that stands: how many of its bytes a crash keeps, and whether a crash keeps its name
pub record Standing : Type 0 where
  pub bytes : List ℕ
  pub synced : ℕ
  pub settled : Bool

-- all of its bytes, and its name, are safe
abbrev pub safe_file : List ℕ → Standing
safe_file bytes = record { bytes = bytes; synced = length bytes; settled = true }

-- a file that was removed since names were last settled
pub record Removed : Type 0 where
  pub stamp : ℕ
  pub bytes : List ℕ
  pub synced : ℕ

-- the files that stand, by stamp; the removed ones in order of removal; the number that was told last; how
-- many files were made
pub record Moment : Type 0 where
  pub standing : ℕ → Option Standing
  pub removed : List Removed
  pub told : ℕ
  pub creates : ℕ

-- the files with this one under a stamp
abbrev pub with_file : ℕ → Option Standing → (ℕ → Option Standing) → ℕ → Option Standing
with_file stamp file standing s = if s == stamp then file else standing s

-- the files with the one under a stamp changed
abbrev pub with_changed : (Standing → Standing) → ℕ → (ℕ → Option Standing) → ℕ → Option Standing
with_changed change stamp standing = with_file stamp (option_map change (standing stamp)) standing

-- the moment with the file under a stamp changed
abbrev pub with_change : (Standing → Standing) → ℕ → Moment → Moment
with_change change stamp m = record m { standing = with_changed change stamp m.standing }

-- the file with more bytes behind its own
abbrev pub lengthened : List ℕ → Standing → Standing
lengthened more file = record file { bytes = file.bytes ++ more }

-- the file with its first bytes safe, up to this length
abbrev pub secured : ℕ → Standing → Standing
secured reached file = record file { synced = max file.synced reached }

abbrev pub after_create : ℕ → Moment → Moment
after_create stamp m = record m {
  standing = with_file stamp (Some (record { bytes = []; synced = 0; settled = false })) m.standing;
  creates = m.creates + 1;
}

abbrev pub after_append : ℕ → List ℕ → Moment → Moment
after_append stamp bytes = with_change (lengthened bytes) stamp

-- after a sync that reached this length of the file
abbrev pub after_sync : ℕ → ℕ → Moment → Moment
after_sync stamp reached = with_change (secured reached) stamp

abbrev pub removed_file : ℕ → Option Standing → List Removed
removed_file stamp None = []
removed_file stamp (Some file) = record { stamp = stamp; bytes = file.bytes; synced = file.synced } ∷ []

abbrev pub after_remove : ℕ → Moment → Moment
after_remove stamp m = record m {
  standing = with_file stamp None m.standing;
  removed = m.removed ++ removed_file stamp (m.standing stamp);
}

abbrev pub settled_file : Standing → Standing
settled_file file = record file { settled = true }

abbrev pub after_settle : Moment → Moment
after_settle m = record m {
  standing = λ s. option_map settled_file (m.standing s);
  removed = [];
}

abbrev pub after_tell : ℕ → Moment → Moment
after_tell n m = record m { told = n }

abbrev pub bytes_of : Option Standing → List ℕ
bytes_of None = []
bytes_of (Some file) = file.bytes

-- the bytes of the file under a stamp, none where there is no file
abbrev pub bytes_at : ℕ → Moment → List ℕ
bytes_at stamp m = bytes_of (m.standing stamp)

-- each number is a byte
abbrev pub IsBytes : List ℕ → Type 0
IsBytes bytes = (k : ℕ) → get_or bytes k 0 < 256

-- n bytes of the file from an offset on are at the start of the buffer, and none only at the file's end or
-- for a buffer without room
pub record IsReadAt (file : List ℕ) (offset n : ℕ) (buffer : List ℕ) : Type 0 where
  pub within : n ≤ length (drop offset file)
  pub bytes : take n buffer ≡ take n (drop offset file)
  pub progress : offset < length file → 0 < length buffer → 0 < n

-- a stamp is below a bound, where there is one
abbrev pub IsBelow : Option ℕ → ℕ → Type 0
IsBelow None stamp = Unit {0}
IsBelow (Some bound) stamp = stamp < bound

-- the greatest stamp, of those below the bound where there is a bound
pub record IsNewest (standing : ℕ → Option Standing) (below : Option ℕ) (stamp : ℕ) : Type 0 where
  pub stands : IsSome (standing stamp)
  pub within : IsBelow below stamp
  pub greatest : (s : ℕ) → IsSome (standing s) → IsBelow below s → s ≤ stamp

abbrev pub IsNewestBelow : (ℕ → Option Standing) → Option ℕ → Option ℕ → Type 0
IsNewestBelow standing below None = (s : ℕ) → IsSome (standing s) → IsBelow below s → ⊥
IsNewestBelow standing below (Some stamp) = IsNewest standing below stamp

-- all is synced and settled
pub record IsAtRest (m : Moment) : Type 0 where
  pub files : (stamp : ℕ) (file : Standing) → m.standing stamp ≡ Some file → (file.synced ≡ length file.bytes) × (file.settled ≡ true)
  pub none_removed : m.removed ≡ []
