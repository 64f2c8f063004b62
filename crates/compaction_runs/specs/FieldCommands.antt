-- The command that restates one field, where the field isn't as a new row has it.
use Rattle.std.specs.Prelude.{ℤ, Bool, List, [], ◌∷◌, Option, Some, None, if◌then◌else◌}
use Rattle.std.specs.Ordering.{int_eq}

-- a command of a value that is set
abbrev pub given : {A C : Type 0} → (A → C) → Option A → List C
given command None = []
given command (Some x) = command x ∷ []

-- a command where a flag is set
abbrev pub flagged : {C : Type 0} → C → Bool → List C
flagged command flag = if flag then command ∷ [] else []

-- a command of a number that isn't the usual one
abbrev pub unusual : {C : Type 0} → ℤ → (ℤ → C) → ℤ → List C
unusual usual command z = if int_eq z usual then [] else command z ∷ []
