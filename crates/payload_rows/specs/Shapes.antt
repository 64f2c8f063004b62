-- The named shapes of payloads as lists of kinds, and tables of ids with their shapes.
use Rattle.std.specs.Prelude.{◌≡◌, ℕ, ◌⊎◌, ◌==◌, List, [], ◌∷◌, ◌≤◌, length, Option, Some, None, if◌then◌else◌, option_map}
use Rattle.pickle_cells.specs.declared.kind.ItemKind.{ItemKind}
use Rattle.pickle_cells.specs.declared.kind.ItemKind.TheVariants.{Int as IntKind, Int64 as Int64Kind, Text as TextKind}
use Rattle.navigation_entry.specs.Layouts.{navigation_kinds, group_kinds}
use Rattle.payload_rows.specs.declared.kind.FieldKind.TheVariants.{Int as IntField, Int64 as Int64Field, Uint64 as Uint64Field, Flag as FlagField, Free as FreeField}
use Rattle.payload_rows.specs.declared.kind.Kinds.{Kinds}
use Rattle.payload_rows.specs.declared.kind.Kinds.TheVariants.{Fixed as FixedKinds, Pickled as PickledKinds}
use Rattle.payload_rows.specs.declared.shape.Shape.{Shape as Named}
use Rattle.payload_rows.specs.declared.shape.Shape.TheVariants as named
use Rattle.payload_rows.specs.PayloadLayout.{Shape, FixedShape, PickledShape}

abbrev pub int_rest_kinds : List ItemKind
int_rest_kinds = IntKind ∷ []

abbrev pub int_text_kinds : List ItemKind
int_text_kinds = IntKind ∷ TextKind ∷ []

abbrev pub int_two_texts_kinds : List ItemKind
int_two_texts_kinds = IntKind ∷ TextKind ∷ TextKind ∷ []

abbrev pub window_entry_kinds : List ItemKind
window_entry_kinds =
    IntKind ∷ IntKind ∷ IntKind ∷ Int64Kind ∷ IntKind ∷ IntKind ∷ IntKind ∷ IntKind ∷ IntKind ∷ []

abbrev pub fields_of : Named → Shape
fields_of named.Flag = FixedShape (FlagField ∷ [])
fields_of named.Int = FixedShape (IntField ∷ [])
fields_of named.TwoInts = FixedShape (IntField ∷ IntField ∷ [])
fields_of named.ThreeInts = FixedShape (IntField ∷ IntField ∷ IntField ∷ [])
fields_of named.IntFlag = FixedShape (IntField ∷ FlagField ∷ FreeField 3 ∷ [])
fields_of named.IntTime = FixedShape (IntField ∷ FreeField 4 ∷ Int64Field ∷ [])
fields_of named.TwoIntsTime = FixedShape (IntField ∷ IntField ∷ Int64Field ∷ [])
fields_of named.WindowBounds = FixedShape (IntField ∷ IntField ∷ IntField ∷ IntField ∷ IntField ∷ IntField ∷ [])
fields_of named.TabGroup =
    FixedShape (IntField ∷ FreeField 4 ∷ Uint64Field ∷ Uint64Field ∷ FlagField ∷ FreeField 7 ∷ [])
fields_of named.IntRest = PickledShape int_rest_kinds
fields_of named.IntText = PickledShape int_text_kinds
fields_of named.IntTwoTexts = PickledShape int_two_texts_kinds
fields_of named.WindowEntry = PickledShape window_entry_kinds
fields_of named.Navigation = PickledShape navigation_kinds
fields_of named.Group = PickledShape group_kinds

-- the kinds that the code names, as a shape
abbrev pub seen : Kinds → Shape
seen (FixedKinds kinds) = FixedShape kinds.now
seen (PickledKinds kinds) = PickledShape kinds.now

abbrev pub AreFew : Kinds → Type 0
AreFew (FixedKinds kinds) = length kinds.now ≤ 8
AreFew (PickledKinds kinds) = Unit {0}

-- A table of a family: each id that has a row, with the shape of its payloads.
abbrev pub shape_at : List (ℕ × Named) → ℕ → Option Named
shape_at [] id = None
shape_at (line ∷ lines) id = if id == line.0 then Some line.1 else shape_at lines id

-- the same shape by its fields
abbrev pub shape_in : List (ℕ × Named) → ℕ → Option Shape
shape_in lines id = option_map fields_of (shape_at lines id)

-- the id is one of these
abbrev pub IsOneOf : List ℕ → ℕ → Type 0
IsOneOf [] id = ⊥
IsOneOf (own ∷ others) id = (id ≡ own) ⊎ IsOneOf others id
