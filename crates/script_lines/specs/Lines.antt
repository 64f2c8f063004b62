-- A text as lines.
use Rattle.std.specs.Prelude.{◌≡◌, ◌≢◌, ℕ, List, [], ◌∷◌, ◌++◌, if◌then◌else◌, ◌==◌}
use Rattle.std.specs.List.{AllByRecursion}

-- pieces whose first one gets one more byte before
abbrev pub with_byte : ℕ → List (List ℕ) → List (List ℕ)
with_byte b [] = (b ∷ []) ∷ []
with_byte b (piece ∷ pieces) = (b ∷ piece) ∷ pieces

-- the lines of a text, each ended by a line feed; a last one without it counts where it isn't empty
abbrev pub lines : List ℕ → List (List ℕ)
lines [] = []
lines (b ∷ bytes) = if b == 10 then [] ∷ lines bytes else with_byte b (lines bytes)

-- a byte that isn't there
abbrev pub Lacks : ℕ → List ℕ → Type 0
Lacks by bytes = AllByRecursion (λ b. b ≢ by) bytes

-- the bytes cut at the first byte `by`
pub record CutsAt (by : ℕ) (bytes prefix rest : List ℕ) : Type 0 where
  pub parts : bytes ≡ prefix ++ by ∷ rest
  pub first : Lacks by prefix
