-- The buffer of a pickle that is being written.
use Rattle.std.specs.Prelude.{◌≡◌, ℕ, ◌%◌, ◌≤◌, List, length}

-- it has the room of the size field, is whole, and isn't longer than a payload may be
pub record HasRoom (bytes : List ℕ) : Type 0 where
  pub begun : 4 ≤ length bytes
  pub whole : length bytes % 4 ≡ 0
  pub short : length bytes ≤ 65534
