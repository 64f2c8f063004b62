-- Reading the items of a pickle from left to right: the value and what is left, or why the next item doesn't
-- read. An item is named by the offset in the pickle of its first byte.
use Rattle.std.specs.Prelude.{◌≡◌, ℕ, ◌+◌, ◌-◌, ◌*◌, ◌%◌, ℤ, pos, negsuc, Bool, not, ◌&&◌, ◌==◌, List, [], ◌∷◌, length, take, drop, min, Result, Ok, Err, nat_lt, if◌then◌else◌}
use Rattle.std.specs.Int.{Width, w32, w64, byte_len, from_le_bytes, cast_signed}
use Rattle.pickle_cells.specs.declared.fault.PickleFault.{PickleFault}
use Rattle.pickle_cells.specs.declared.fault.PickleFault.TheVariants.{Short, SizeField, NegativeLength}
use Rattle.pickle_cells.specs.Cell.{padding}

-- the bytes of a pickle that are still to be read, and the offset of the first of them
pub record Unread : Type 0 where
  pub place : ℕ
  pub bytes : List ℕ

infixl 10 ◌>>=◌
abbrev pub ◌>>=◌ : {A B : Type 0} → Result A PickleFault → (A → Result B PickleFault) → Result B PickleFault
(Ok x) >>= f = f x
(Err fault) >>= f = Err fault

-- What a call on a cursor gives, seen by view, is what reading gives, and a refusal moves nothing.
abbrev pub Gives : {X Y : Type 0} → (X → Y) → Unread → Result X PickleFault → Unread → Result (Y × Unread) PickleFault → Type 0
Gives view old (Ok x) new read = read ≡ Ok (view x, new)
Gives view old (Err fault) new read = (read ≡ Err fault) × (new ≡ old)

-- an offset as a fault tells it: it stops at 2 ^ 32 - 1, which no pickle reaches
abbrev pub told : ℕ → ℕ
told place = min place 4294967295

-- what is left behind n bytes
unfoldable pub past : ℕ → Unread → Unread
past n unread = record { place = unread.place + n; bytes = drop n unread.bytes }

-- an unsigned number
unfoldable pub number_at : Width → Unread → Result (ℕ × Unread) PickleFault
number_at w unread =
    if nat_lt (length unread.bytes) (byte_len w) then Err (Short (told unread.place)) else Ok (from_le_bytes w (take (byte_len w) unread.bytes), past (byte_len w) unread)

abbrev pub uint32_at : Unread → Result (ℕ × Unread) PickleFault
uint32_at unread = number_at w32 unread

abbrev pub uint64_at : Unread → Result (ℕ × Unread) PickleFault
uint64_at unread = number_at w64 unread

-- a signed number
unfoldable pub signed_at : Width → Unread → Result (ℤ × Unread) PickleFault
signed_at w unread = number_at w unread >>= λ n. Ok (cast_signed w n.0, n.1)

abbrev pub int_at : Unread → Result (ℤ × Unread) PickleFault
int_at unread = signed_at w32 unread

abbrev pub int64_at : Unread → Result (ℤ × Unread) PickleFault
int64_at unread = signed_at w64 unread

-- a truth value
unfoldable pub flag_at : Unread → Result (Bool × Unread) PickleFault
flag_at unread = uint32_at unread >>= λ n. Ok (not (n.0 == 0), n.1)

-- so many bytes of text and their padding, in the item that begins at a place
unfoldable pub text_at : ℕ → ℕ → Unread → Result (List ℕ × Unread) PickleFault
text_at place size unread =
    if nat_lt (length unread.bytes) (size + padding size) then Err (Short (told place)) else Ok (take size unread.bytes, past (size + padding size) unread)

-- what follows a count of characters of width bytes each, in the item that begins at a place
abbrev pub characters_at : ℕ → ℕ → ℤ × Unread → Result (List ℕ × Unread) PickleFault
characters_at width place (pos count, unread) = text_at place (width * count) unread
characters_at width place (negsuc below, unread) = Err (NegativeLength (told place) (negsuc below))

-- the bytes of a count of characters of width bytes each
unfoldable pub counted_at : ℕ → Unread → Result (List ℕ × Unread) PickleFault
counted_at width unread = int_at unread >>= characters_at width unread.place

-- the bytes of a string
abbrev pub string_at : Unread → Result (List ℕ × Unread) PickleFault
string_at unread = counted_at 1 unread

-- the bytes of a string of 16-bit units
abbrev pub string16_at : Unread → Result (List ℕ × Unread) PickleFault
string16_at unread = counted_at 2 unread

-- the 16-bit units that stand as these bytes
unfoldable pub units_of : List ℕ → List ℕ
units_of [] = []
units_of (low ∷ []) = []
units_of (low ∷ high ∷ bytes) = (low + high * 256) ∷ units_of bytes

-- the body of a pickle
unfoldable pub body_at : List ℕ → Result Unread PickleFault
body_at bytes =
    let said = from_le_bytes w32 (take 4 bytes) in
    if nat_lt (length bytes) 4 then Err (Short 0) else (if (said == (length bytes - 4)) && (said % 4 == 0) then Ok (record { place = 4; bytes = drop 4 bytes }) else Err (SizeField said (length bytes - 4)))
