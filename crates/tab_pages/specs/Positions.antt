-- Positions in a list of rising indices.
use Rattle.std.specs.Prelude.{ℕ, ◌-◌, ℤ, int_le, List, length, position}
use Rattle.std.specs.Option.{unwrap_or}

-- the position of the first index that is at least this, else the last position
abbrev pub first_from : ℤ → List ℤ → ℕ
first_from least indices = unwrap_or (position (λ i. int_le least i) indices) (length indices - 1)
