-- Texts that the payload of a command with one number can hold.
use Rattle.std.specs.Prelude.{◌≡◌, ℕ, ◌+◌, ◌%◌, ◌≤◌, List, length}
use Rattle.pickle_cells.specs.Cell.{string_size}

-- the most bytes of a payload
abbrev pub payload_limit : ℕ
payload_limit = 65534

-- a number and a text
abbrev pub FitsText : List ℕ → Type 0
FitsText text = 8 + string_size (length text) ≤ payload_limit

-- a number and whole words behind it
abbrev pub FitsRest : List ℕ → Type 0
FitsRest rest = (length rest % 4 ≡ 0) × (8 + length rest ≤ payload_limit)
