-- Reading the fields of a payload of fixed length where they stand.
use Rattle.std.specs.Prelude.{ℕ, ◌+◌, ℤ, Bool, not, ◌==◌, List, [], ◌∷◌, take, drop, get_or}
use Rattle.std.specs.Int.{w32, w64, from_le_bytes, cast_signed}
use Rattle.pickle_cells.specs.Layout.{Field, Int, Int64, Uint64, Flag, Free}
use Rattle.payload_rows.specs.declared.kind.FieldKind.{FieldKind}
use Rattle.payload_rows.specs.declared.kind.FieldKind.TheVariants.{Int as IntField, Int64 as Int64Field, Uint64 as Uint64Field, Flag as FlagField, Free as FreeField}

-- the kind of a field: the shape of a payload of fixed length is a list of kinds
abbrev pub field_kind : Field → FieldKind
field_kind (Int z) = IntField
field_kind (Int64 z) = Int64Field
field_kind (Uint64 n) = Uint64Field
field_kind (Flag b) = FlagField
field_kind (Free n) = FreeField n

-- how many bytes a field has
abbrev pub field_width : FieldKind → ℕ
field_width IntField = 4
field_width Int64Field = 8
field_width Uint64Field = 8
field_width FlagField = 1
field_width (FreeField n) = n

abbrev pub width : List FieldKind → ℕ
width [] = 0
width (kind ∷ kinds) = field_width kind + width kinds

-- the numbers and the flag that stand at an offset
unfoldable pub uint64_at : ℕ → List ℕ → ℕ
uint64_at place bytes = from_le_bytes w64 (take 8 (drop place bytes))

unfoldable pub int_at : ℕ → List ℕ → ℤ
int_at place bytes = cast_signed w32 (from_le_bytes w32 (take 4 (drop place bytes)))

unfoldable pub int64_at : ℕ → List ℕ → ℤ
int64_at place bytes = cast_signed w64 (from_le_bytes w64 (take 8 (drop place bytes)))

unfoldable pub flag_at : ℕ → List ℕ → Bool
flag_at place bytes = not (get_or bytes place 0 == 0)

-- the field of a kind that stands at an offset
abbrev pub field_at : FieldKind → ℕ → List ℕ → Field
field_at IntField place bytes = Int (int_at place bytes)
field_at Int64Field place bytes = Int64 (int64_at place bytes)
field_at Uint64Field place bytes = Uint64 (uint64_at place bytes)
field_at FlagField place bytes = Flag (flag_at place bytes)
field_at (FreeField n) place bytes = Free n

-- the fields that stand one after another from an offset on
abbrev pub fields_at : List FieldKind → ℕ → List ℕ → List Field
fields_at [] place bytes = []
fields_at (kind ∷ kinds) place bytes = field_at kind place bytes ∷ fields_at kinds (place + field_width kind) bytes
