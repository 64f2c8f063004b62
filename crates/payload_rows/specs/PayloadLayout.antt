-- How a payload is laid out: fields of fixed length, or the items of a pickle and a tail. A row of the table of
-- commands says an id and a layout.
use Rattle.std.specs.Prelude.{◌≡◌, ℕ, ◌%◌, ◌<◌, ◌≤◌, ◌^◌, List, length, map, get_or, FitsSigned}
use Rattle.std.specs.List.{AllByRecursion}
use Rattle.std.specs.Int.{w32, w64}
use Rattle.pickle_cells.specs.Layout.{Field, Int, Int64, Uint64, Flag, Free, AreFields, fields_bytes}
use Rattle.pickle_cells.specs.declared.kind.ItemKind.{ItemKind}
use Rattle.pickle_cells.specs.PickleLayout.{Item, Int as IntItem, Int64 as Int64Item, Uint32 as Uint32Item, Uint64 as Uint64Item, Flag as FlagItem, Text as TextItem, Units as UnitsItem, kind_of, IsPickled, pickled_bytes, pickled_size}
use Rattle.payload_rows.specs.declared.kind.FieldKind.{FieldKind}
use Rattle.payload_rows.specs.FixedReading.{field_kind}

pub data Layout : Type 0 where
  Fixed : List Field → Layout
  Pickled : List Item → List ℕ → Layout

-- the bytes are laid out so
unfoldable pub IsLaidOut : Layout → List ℕ → Type 0
IsLaidOut (Fixed fields) payload = AreFields fields payload
IsLaidOut (Pickled items tail) payload = IsPickled items tail payload

-- the bytes that are written
abbrev pub layout_bytes : Layout → List ℕ
layout_bytes (Fixed fields) = fields_bytes fields
layout_bytes (Pickled items tail) = pickled_bytes items tail

-- a layout without its values
pub data Shape : Type 0 where
  FixedShape : List FieldKind → Shape
  PickledShape : List ItemKind → Shape

abbrev pub shape : Layout → Shape
shape (Fixed fields) = FixedShape (map field_kind fields)
shape (Pickled items tail) = PickledShape (map kind_of items)

abbrev pub FitsField : Field → Type 0
FitsField (Int z) = FitsSigned w32 z
FitsField (Int64 z) = FitsSigned w64 z
FitsField (Uint64 n) = n < 2 ^ 64
FitsField (Flag b) = Unit {0}
FitsField (Free n) = Unit {0}

-- a number is in its type's range
abbrev pub IsInType : Item → Type 0
IsInType (IntItem z) = FitsSigned w32 z
IsInType (Int64Item z) = FitsSigned w64 z
IsInType (Uint32Item n) = n < 2 ^ 32
IsInType (Uint64Item n) = n < 2 ^ 64
IsInType (FlagItem b) = Unit {0}
IsInType (TextItem text) = Unit {0}
IsInType (UnitsItem units) = (i : ℕ) → get_or units i 0 < 2 ^ 16

-- the numbers of a layout are in their types' ranges
abbrev pub FitsLayout : Layout → Type 0
FitsLayout (Fixed fields) = AllByRecursion FitsField fields
FitsLayout (Pickled items tail) = AllByRecursion IsInType items

-- what a pickle asks of its tail: whole words, and no more bytes in all than a payload may have
abbrev pub IsWhole : Layout → Type 0
IsWhole (Fixed fields) = Unit {0}
IsWhole (Pickled items tail) = (length tail % 4 ≡ 0) × (pickled_size items tail ≤ 65534)
