-- How much a state holds.
use Rattle.std.specs.Prelude.{ℕ}

-- the most tabs, and the most windows
abbrev pub limit : ℕ
limit = 1048576
