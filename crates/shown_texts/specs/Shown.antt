-- How bytes and 16-bit units are shown.
use Rattle.std.specs.Prelude.{ℕ, ◌+◌, ◌≤◌, ◌≢◌, ◌/◌, ◌%◌, Bool, ◌&&◌, ◌==◌, nat_lt, nat_le, List, [], ◌∷◌, ◌++◌, if◌then◌else◌, codes}
use Rattle.std.specs.List.{flat_map}

-- what may stand between double quotes in a line: a printable ASCII character that is no double quote
abbrev pub IsQuotable : ℕ → Type 0
IsQuotable c = (32 ≤ c) × (c ≤ 126) × (c ≢ 34)

abbrev pub is_printable : ℕ → Bool
is_printable c = nat_le 32 c && nat_le c 126

-- a printable character is shown as itself, but for `\` and `"`
abbrev pub shown_printable : ℕ → List ℕ
shown_printable c = if c == 92 then codes "\\\\" else (if c == 34 then codes "\\x22" else c ∷ [])

-- in lower case
abbrev pub hexadecimal_digit : ℕ → ℕ
hexadecimal_digit n = if nat_lt n 10 then 48 + n else 87 + n

unfoldable pub shown_byte : ℕ → List ℕ
shown_byte c =
    if is_printable c then shown_printable c else codes "\\x" ++ (hexadecimal_digit (c / 16 % 16) ∷ hexadecimal_digit (c % 16) ∷ [])

unfoldable pub shown_unit : ℕ → List ℕ
shown_unit u =
    if is_printable u
    then shown_printable u
    else codes "\\u" ++ (hexadecimal_digit (u / 4096 % 16) ∷ hexadecimal_digit (u / 256 % 16) ∷ hexadecimal_digit (u / 16 % 16) ∷ hexadecimal_digit (u % 16) ∷ [])

abbrev pub shown_bytes : List ℕ → List ℕ
shown_bytes text = flat_map shown_byte text

abbrev pub shown_units : List ℕ → List ℕ
shown_units text = flat_map shown_unit text
