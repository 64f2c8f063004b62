-- Payloads of fixed length: fields one after another.
use Rattle.std.specs.Prelude.{◌≡◌, ℕ, ◌<◌, ◌^◌, ℤ, Bool, not, ◌==◌, List, [], ◌∷◌, ◌++◌, length, replicate, FitsSigned}
use Rattle.std.specs.Int.{w32, w64, from_bool}
use Rattle.pickle_cells.specs.Cell.{int, int64, uint64}

pub data Field : Type 0 where
  Int : ℤ → Field
  Int64 : ℤ → Field
  Uint64 : ℕ → Field
  Flag : Bool → Field
  Free : ℕ → Field

-- the bytes that stand for a field; a flag is any byte, false exactly where it is 0, and free bytes are any
abbrev pub IsField : Field → List ℕ → Type 0
IsField (Int z) bytes = FitsSigned w32 z × (bytes ≡ int z)
IsField (Int64 z) bytes = FitsSigned w64 z × (bytes ≡ int64 z)
IsField (Uint64 n) bytes = (n < 2 ^ 64) × (bytes ≡ uint64 n)
IsField (Flag b) bytes = (byte : ℕ) × (bytes ≡ byte ∷ []) × (b ≡ not (byte == 0))
IsField (Free n) bytes = length bytes ≡ n

-- the bytes are the fields, one after another
abbrev pub AreFields : List Field → List ℕ → Type 0
AreFields [] bytes = bytes ≡ []
AreFields (field ∷ fields) bytes =
    (front : List ℕ) × (rest : List ℕ) × (bytes ≡ front ++ rest) × IsField field front × AreFields fields rest

-- the bytes that are written for a field: a flag is 0 or 1, free bytes are 0
unfoldable pub field_bytes : Field → List ℕ
field_bytes (Int z) = int z
field_bytes (Int64 z) = int64 z
field_bytes (Uint64 n) = uint64 n
field_bytes (Flag b) = from_bool b ∷ []
field_bytes (Free n) = replicate n 0

unfoldable pub fields_bytes : List Field → List ℕ
fields_bytes [] = []
fields_bytes (field ∷ fields) = field_bytes field ++ fields_bytes fields
