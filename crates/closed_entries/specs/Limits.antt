-- How many tabs a closed window may have; `ENTRIES` is the limit of entries.
use Rattle.std.specs.Prelude.{ℕ}

-- the greatest number that a window's count can say
abbrev pub tab_limit : ℕ
tab_limit = 2147483647
