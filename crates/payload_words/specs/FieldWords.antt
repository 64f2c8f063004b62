-- The words of a payload's fields, each behind a space: numbers in decimal, flags as `true` or `false`, texts as they are
-- shown, between double quotes. Bytes that say nothing have no word.
use Rattle.std.specs.Prelude.{ℕ, ℤ, Bool, true, false, List, [], ◌++◌, length, codes}
use Rattle.std.specs.List.{flat_map}
use Rattle.std.specs.Fmt.{decimal, signed_decimal}
use Rattle.pickle_cells.specs.Layout.{Field, Int, Int64, Uint64, Flag, Free}
use Rattle.pickle_cells.specs.PickleLayout.{Item, Int as IntItem, Int64 as Int64Item, Uint32 as Uint32Item, Uint64 as Uint64Item, Flag as FlagItem, Text as TextItem, Units as UnitsItem}
use Rattle.shown_texts.specs.Shown.{shown_bytes, shown_units}

abbrev pub number_word : ℕ → List ℕ
number_word n = codes " " ++ decimal n

abbrev pub signed_word : ℤ → List ℕ
signed_word z = codes " " ++ signed_decimal z

abbrev pub flag_word : Bool → List ℕ
flag_word true = codes " true"
flag_word false = codes " false"

abbrev pub quoted : List ℕ → List ℕ
quoted shown = codes " \"" ++ (shown ++ codes "\"")

abbrev pub text_word : List ℕ → List ℕ
text_word text = quoted (shown_bytes text)

abbrev pub units_word : List ℕ → List ℕ
units_word units = quoted (shown_units units)

-- opaque bytes are shown by their number
abbrev pub length_word : List ℕ → List ℕ
length_word bytes = codes " [" ++ (decimal (length bytes) ++ codes "]")

unfoldable pub field_word : Field → List ℕ
field_word (Int z) = signed_word z
field_word (Int64 z) = signed_word z
field_word (Uint64 n) = number_word n
field_word (Flag b) = flag_word b
field_word (Free n) = []

unfoldable pub item_word : Item → List ℕ
item_word (IntItem z) = signed_word z
item_word (Int64Item z) = signed_word z
item_word (Uint32Item n) = number_word n
item_word (Uint64Item n) = number_word n
item_word (FlagItem b) = flag_word b
item_word (TextItem text) = text_word text
item_word (UnitsItem units) = units_word units

abbrev pub field_words : List Field → List ℕ
field_words fields = flat_map field_word fields

abbrev pub item_words : List Item → List ℕ
item_words items = flat_map item_word items
