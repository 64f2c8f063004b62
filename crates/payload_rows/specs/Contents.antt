-- The values of a payload, owned or borrowed, as its layout.
use Rattle.std.specs.Prelude.{◌≡◌, ℕ, List, is_some, Bool, true, false, Option, Some, None, FitsSigned}
use Rattle.std.specs.Int.{w32}
use Rattle.navigation_entry.specs.declared.bounds.Bounds.{Bounds}
use Rattle.payload_rows.specs.PayloadLayout.{Layout, shape, IsLaidOut, FitsLayout, IsWhole, layout_bytes}
use Rattle.payload_rows.specs.RowLayouts.{flag_row, int_row, two_ints_row, three_ints_row, int_flag_row, int_time_row, two_ints_time_row, window_bounds_row, tab_group_row, int_rest_row, int_text_row, int_two_texts_row, window_entry_row, navigation_row, group_row}
use Rattle.payload_rows.specs.Shapes.{fields_of}
use Rattle.payload_rows.specs.Faults.{shape_fault}
use Rattle.payload_rows.specs.declared.shape.Shape.{Shape as Named}
use Rattle.payload_rows.specs.declared.fields.Fields.{Fields}
use Rattle.payload_rows.specs.declared.fields.Fields.TheVariants as fields
use Rattle.payload_rows.specs.declared.row.RowRef.{RowRef}
use Rattle.payload_rows.specs.declared.row.RowRef.TheVariants as row

abbrev pub layout_of : Fields → Layout
layout_of (fields.Flag flag) = flag_row flag
layout_of (fields.Int a) = int_row a
layout_of (fields.TwoInts a b) = two_ints_row a b
layout_of (fields.ThreeInts a b c) = three_ints_row a b c
layout_of (fields.IntFlag a flag) = int_flag_row a flag
layout_of (fields.IntTime a time) = int_time_row a time
layout_of (fields.TwoIntsTime a b time) = two_ints_time_row a b time
layout_of (fields.WindowBounds window bounds) = window_bounds_row window bounds
layout_of (fields.TabGroup tab high low grouped) = tab_group_row tab high low grouped
layout_of (fields.IntRest a rest) = int_rest_row a rest
layout_of (fields.IntText a text tail) = int_text_row a text tail
layout_of (fields.IntTwoTexts a text other tail) = int_two_texts_row a text other tail
layout_of (fields.WindowEntry entry tail) = window_entry_row entry tail
layout_of (fields.Navigation tab index navigation) = navigation_row tab index navigation
layout_of (fields.Group group) = group_row group

-- what reading a payload of a shape gives: its fields, none where a test fails
abbrev pub IsRead : Named → List ℕ → Option Fields → Type 0
IsRead named payload None = is_some (shape_fault (Some (fields_of named)) payload) ≡ true
IsRead named payload (Some values) = (shape (layout_of values) ≡ fields_of named) × IsLaidOut (layout_of values) payload

-- what is written: a layout, or bytes as they are
pub data Content : Type 0 where
  Laid : Layout → Content
  Verbatim : List ℕ → Content

abbrev pub content_bytes : Content → List ℕ
content_bytes (Laid layout) = layout_bytes layout
content_bytes (Verbatim bytes) = bytes

-- the numbers are in the ranges of their types
abbrev pub FitsContent : Content → Type 0
FitsContent (Laid layout) = FitsLayout layout
FitsContent (Verbatim bytes) = Unit {0}

-- the numbers of bounds are in the range of their type
abbrev pub FitsBounds : Bounds → Type 0
FitsBounds b =
    FitsSigned w32 b.x × FitsSigned w32 b.y × FitsSigned w32 b.width × FitsSigned w32 b.height × FitsSigned w32 b.show

-- a tail has whole words, and the payload at most 65,534 bytes
abbrev pub IsWholeContent : Content → Type 0
IsWholeContent (Laid layout) = IsWhole layout
IsWholeContent (Verbatim bytes) = Unit {0}

abbrev pub content : RowRef → Content
content (row.Flag flag) = Laid (flag_row flag)
content (row.Int a) = Laid (int_row a)
content (row.TwoInts a b) = Laid (two_ints_row a b)
content (row.ThreeInts a b c) = Laid (three_ints_row a b c)
content (row.IntFlag a flag) = Laid (int_flag_row a flag)
content (row.IntTime a time) = Laid (int_time_row a time)
content (row.TwoIntsTime a b time) = Laid (two_ints_time_row a b time)
content (row.WindowBounds window bounds) = Laid (window_bounds_row window bounds)
content (row.TabGroup tab high low grouped) = Laid (tab_group_row tab high low grouped)
content (row.IntRest a rest) = Laid (int_rest_row a rest.now)
content (row.IntText a text tail) = Laid (int_text_row a text.now tail.now)
content (row.IntTwoTexts a text other tail) = Laid (int_two_texts_row a text.now other.now tail.now)
content (row.WindowEntry entry tail) = Laid (window_entry_row entry tail.now)
content (row.Navigation tab index navigation) = Laid (navigation_row tab index navigation.now)
content (row.Group group) = Laid (group_row group.now)
content (row.Raw bytes) = Verbatim bytes.now

abbrev pub is_laid : Content → Bool
is_laid (Laid layout) = true
is_laid (Verbatim bytes) = false

-- what owning a row gives: its fields, none for bytes as they are
abbrev pub Owns : Content → Option Fields → Type 0
Owns what None = is_laid what ≡ false
Owns what (Some values) = what ≡ Laid (layout_of values)
