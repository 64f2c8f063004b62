-- What a line says: a verb, nothing, or why it is refused.
use Rattle.std.specs.Prelude.{ℕ, ◌-◌, ◌^◌, ℤ, Bool, true, false, not, ◌&&◌, ◌||◌, ◌==◌, nat_lt, List, [], ◌∷◌, length, Option, Some, None, Result, Ok, Err, option_and_then, if◌then◌else◌}
use Rattle.std.specs.List.{flat_map, join_with_byte, slice_split}
use Rattle.std.specs.Option.{ok_or}
use Rattle.std.specs.Str.{chars, is_utf8}
use Rattle.std.specs.Char.Escape.{encode_utf16}
use Rattle.script_lines.specs.Numbers.{number_in, counted_in, signed_of}
use Rattle.script_lines.specs.Verbs.{Field, Moment, Id, Place, Signed, Half, Colour, Address, StateLength, Text, MaybeText, may_be_missing, is_text, Value, Maker, Form, table, form_under}
use Rattle.script_lines.specs.declared.verb.Verb.{Verb}
use Rattle.script_lines.specs.declared.fault.LineFault.{LineFault}
use Rattle.script_lines.specs.declared.fault.LineFault.TheVariants.{LongLine, Utf8, UnknownVerb, Arguments, Number}

-- the 16-bit units of a text
unfoldable pub units : List ℕ → List ℕ
units text = flat_map encode_utf16 (chars text)

-- nothing is left of a line
abbrev pub is_over : List (List ℕ) → Bool
is_over [] = true
is_over (field ∷ others) = false

-- the next field is there and isn't empty
abbrev pub stands : List (List ℕ) → Bool
stands [] = false
stands ([] ∷ others) = false
stands ((byte ∷ bytes) ∷ others) = true

abbrev pub next : List (List ℕ) → List ℕ
next [] = []
next (field ∷ others) = field

abbrev pub behind : List (List ℕ) → List (List ℕ)
behind [] = []
behind (field ∷ others) = others

-- what is left of a line has these fields and no others: none is missing, surplus or empty
abbrev pub has_fields : List Field → List (List ℕ) → Bool
has_fields [] left = is_over left
has_fields (field ∷ fields) left =
    if is_text field then may_be_missing field || not (is_over left)
    else (if may_be_missing field && is_over left then has_fields fields left
    else stands left && has_fields fields (behind left))

-- the value of a field at the front of what is left of a line, None where it isn't the field's number
abbrev pub value_in : (field : Field) → List (List ℕ) → Option (Value field)
value_in Moment left = counted_in 0 (2 ^ 63 - 1) (next left)
value_in Id left = counted_in 1 (2 ^ 31 - 1) (next left)
value_in Place left = counted_in 0 (2 ^ 31 - 1) (next left)
value_in Signed left = signed_of (next left)
value_in Half left = number_in 0 (2 ^ 64 - 1) (next left)
value_in Colour left = number_in 0 (2 ^ 32 - 1) (next left)
value_in Address left = Some (next left)
value_in StateLength left = if is_over left then Some 0 else number_in 0 1000000 (next left)
value_in Text left = Some (units (join_with_byte 32 left))
value_in MaybeText left = Some (units (join_with_byte 32 left))

-- the verb with the values of these fields, None where one isn't its number
abbrev pub made_in : (fields : List Field) → Maker fields → List (List ℕ) → Option Verb
made_in [] verb left = Some verb
made_in (field ∷ fields) maker left =
    option_and_then (λ value. made_in fields (maker value) (behind left)) (value_in field left)

-- the id of a verb that has no other field
unfoldable pub id_in : List (List ℕ) → Result ℤ LineFault
id_in left = if has_fields (Id ∷ []) left then ok_or (value_in Id left) Number else Err Arguments

-- the verb of a form that the fields behind its word say
abbrev pub verb_in : Form → List (List ℕ) → Result Verb LineFault
verb_in form left =
    if has_fields form.fields left then ok_or (made_in form.fields form.verb left) Number else Err Arguments

abbrev pub verb_under : Option Form → List (List ℕ) → Result Verb LineFault
verb_under None left = Err UnknownVerb
verb_under (Some form) left = verb_in form left

-- the verb that one of these words and the fields behind it say
unfoldable pub verb_among : List (List ℕ × Form) → List ℕ → List (List ℕ) → Result Verb LineFault
verb_among verbs word left = verb_under (form_under word verbs) left

abbrev pub verb_with : List ℕ → List (List ℕ) → Result Verb LineFault
verb_with word left = verb_among table word left

-- the fields of a line, between single spaces
abbrev pub fields_of : List ℕ → List (List ℕ)
fields_of line = slice_split (λ b. b == 32) line

-- an empty line and one that begins with `#` say nothing
abbrev pub is_passed_over : List ℕ → Bool
is_passed_over [] = true
is_passed_over (byte ∷ bytes) = byte == 35

-- the verb that a line says
abbrev pub verb_of : List ℕ → Result Verb LineFault
verb_of line = verb_with (next (fields_of line)) (behind (fields_of line))

abbrev pub some_verb : Result Verb LineFault → Result (Option Verb) LineFault
some_verb (Ok verb) = Ok (Some verb)
some_verb (Err fault) = Err fault

-- what a line says, None where it is passed over
unfoldable pub reading : List ℕ → Result (Option Verb) LineFault
reading line =
    if nat_lt 8192 (length line) then Err LongLine
    else (if not (is_utf8 line) then Err Utf8 else (if is_passed_over line then Ok None else some_verb (verb_of line)))
