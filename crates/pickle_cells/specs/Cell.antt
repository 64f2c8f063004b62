-- Values as the bytes in which they stand in a pickle and in a fixed payload: little-endian, a signed number by
-- its two's complement. In a pickle each value is padded to a multiple of 4 bytes (Chromium's base/pickle.cc);
-- the padding of a string is free when it is read and 0 when it is written (this profile).
use Rattle.std.specs.Prelude.{◌≡◌, ℕ, ◌+◌, ◌-◌, ◌%◌, ◌<◌, ◌^◌, ℤ, pos, Bool, not, ◌==◌, List, ◌++◌, length, replicate, get_or}
use Rattle.std.specs.List.{flat_map, AllByRecursion}
use Rattle.std.specs.Int.{w16, w32, w64, to_le_bytes, cast_unsigned, from_bool}

-- the four bytes of an unsigned number below 2 ^ 32
unfoldable pub uint32 : ℕ → List ℕ
uint32 n = to_le_bytes w32 n

-- the eight bytes of an unsigned number below 2 ^ 64
unfoldable pub uint64 : ℕ → List ℕ
uint64 n = to_le_bytes w64 n

-- the four bytes of a signed number of 32 bits
unfoldable pub int : ℤ → List ℕ
int z = to_le_bytes w32 (cast_unsigned w32 z)

-- the eight bytes of a signed number of 64 bits
unfoldable pub int64 : ℤ → List ℕ
int64 z = to_le_bytes w64 (cast_unsigned w64 z)

-- the bytes of 16-bit units
unfoldable pub unit_bytes : List ℕ → List ℕ
unit_bytes units = flat_map (to_le_bytes w16) units

-- how many bytes stand between n bytes and the next multiple of 4
unfoldable pub padding : ℕ → ℕ
padding n = (4 - n % 4) % 4

-- how many bytes a string's cell has whose characters have n bytes
abbrev pub string_size : ℕ → ℕ
string_size n = 4 + n + padding n

-- a truth value: four bytes that are all 0 exactly where it is false
abbrev pub IsFlag : Bool → List ℕ → Type 0
IsFlag b bytes = (n : ℕ) × (n < 2 ^ 32) × (bytes ≡ uint32 n) × (b ≡ not (n == 0))

-- a number of characters, their bytes, and free bytes up to a multiple of 4
abbrev pub IsCounted : ℕ → List ℕ → List ℕ → Type 0
IsCounted count text bytes =
    (free : List ℕ) × (count < 2 ^ 31) × (length free ≡ padding (length text)) × (bytes ≡ int (pos count) ++ (text ++ free))

-- a string: the number of its bytes, the bytes, and padding
abbrev pub IsString : List ℕ → List ℕ → Type 0
IsString text bytes = IsCounted (length text) text bytes

-- a string of 16-bit units: the number of units, two bytes a unit, and padding
abbrev pub IsString16 : List ℕ → List ℕ → Type 0
IsString16 units bytes = AllByRecursion (λ u. u < 2 ^ 16) units × IsCounted (length units) (unit_bytes units) bytes

-- the written truth value
unfoldable pub flag : Bool → List ℕ
flag b = uint32 (from_bool b)

unfoldable pub counted : ℕ → List ℕ → List ℕ
counted count text = int (pos count) ++ (text ++ replicate (padding (length text)) 0)

-- the written string
abbrev pub string : List ℕ → List ℕ
string text = counted (length text) text

-- the written string of 16-bit units
abbrev pub string16 : List ℕ → List ℕ
string16 units = counted (length units) (unit_bytes units)

-- the bytes are the pickle of a body: the body's length in four bytes, and the body, a multiple of 4 bytes
abbrev pub IsPickle : List ℕ → List ℕ → Type 0
IsPickle body bytes = (length body % 4 ≡ 0) × (bytes ≡ uint32 (length body) ++ body)

unfoldable pub pickle : List ℕ → List ℕ
pickle body = uint32 (length body) ++ body

-- each is a byte, as those of a slice are
abbrev pub IsBytes : List ℕ → Type 0
IsBytes bytes = (i : ℕ) → get_or bytes i 0 < 256
