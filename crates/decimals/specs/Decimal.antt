-- Plain decimals: the digits of an unsigned number, as it is printed.
use Rattle.std.specs.Prelude.{ℕ, ◌^◌, Bool, false, ◌&&◌, List, length, Option, Some, None, if◌then◌else◌, ◌==◌, nat_lt, slice_index}
use Rattle.std.specs.Char.{is_ascii_digit}
use Rattle.std.specs.List.{list_all}
use Rattle.std.specs.Str.Parse.{digits_value}

-- digits, at least one, the first of them 0 only where it stands alone
unfoldable pub is_plain : List ℕ → Bool
is_plain text =
    if length text == 0 then false else (if slice_index text 0 == 48 then length text == 1 else list_all is_ascii_digit text)

-- the number below 2 ^ 64 of which the text is the plain decimal
unfoldable pub number_of : List ℕ → Option ℕ
number_of text = if is_plain text && nat_lt (digits_value 10 text) (2 ^ 64) then Some (digits_value 10 text) else None
