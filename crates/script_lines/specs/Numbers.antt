-- The numbers of a line: plain decimals within a range, and whole numbers with a sign.
use Rattle.std.specs.Prelude.{ℕ, ◌-◌, ◌^◌, ℤ, pos, negsuc, ◌&&◌, ◌==◌, nat_le, List, [], ◌∷◌, Option, Some, None, option_and_then, option_map, if◌then◌else◌}
use Rattle.decimals.specs.Decimal.{number_of}

abbrev pub within : ℕ → ℕ → ℕ → Option ℕ
within least greatest n = if nat_le least n && nat_le n greatest then Some n else None

-- the number from `least` to `greatest` of which the field is the plain decimal
unfoldable pub number_in : ℕ → ℕ → List ℕ → Option ℕ
number_in least greatest field = option_and_then (within least greatest) (number_of field)

-- a number that isn't negative, of a signed type
unfoldable pub counted_in : ℕ → ℕ → List ℕ → Option ℤ
counted_in least greatest field = option_map pos (number_in least greatest field)

-- a negative number behind its minus sign
unfoldable pub minus_in : ℕ → ℕ → List ℕ → Option ℤ
minus_in least greatest digits = option_map (λ n. negsuc (n - 1)) (number_in least greatest digits)

-- a signed number of 32 bits, with a minus sign only before what isn't 0
unfoldable pub signed_of : List ℕ → Option ℤ
signed_of [] = counted_in 0 (2 ^ 31 - 1) []
signed_of (byte ∷ digits) = if byte == 45 then minus_in 1 (2 ^ 31) digits else counted_in 0 (2 ^ 31 - 1) (byte ∷ digits)
