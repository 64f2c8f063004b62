-- The words of a command, by its id's shape and its payload: those of its fields, or why it is raw.
use Rattle.std.specs.Prelude.{ℕ, ◌==◌, Bool, true, false, List, ◌++◌, length, Option, None, Some, Result, Ok, Err, if◌then◌else◌}
use Rattle.pickle_cells.specs.PickleLayout.{Item, pickled_at}
use Rattle.pickle_cells.specs.declared.fault.PickleFault.{PickleFault}
use Rattle.navigation_entry.specs.Layouts.{navigation_kinds}
use Rattle.payload_rows.specs.FixedReading.{width, fields_at}
use Rattle.payload_rows.specs.PayloadLayout.{Shape, FixedShape, PickledShape}
use Rattle.payload_rows.specs.Shapes.{fields_of}
use Rattle.payload_rows.specs.declared.shape.Shape.{Shape as Named}
use Rattle.payload_rows.specs.declared.shape.Shape.TheVariants.{Navigation}
use Rattle.payload_words.specs.FieldWords.{field_words, item_words, length_word}
use Rattle.payload_words.specs.FaultWords.{pickle_fault_words, length_fault_words, unknown_words}
use Rattle.payload_words.specs.PageWords.{page_words}

-- a pickle is shown by its items and the length of its tail
abbrev pub pickled_words : Result (List Item × List ℕ) PickleFault → List ℕ
pickled_words (Ok x) = item_words x.0 ++ length_word x.1
pickled_words (Err fault) = pickle_fault_words fault

abbrev pub shape_words : Shape → List ℕ → List ℕ
shape_words (FixedShape kinds) payload =
    if length payload == width kinds then field_words (fields_at kinds 0 payload) else length_fault_words (width kinds) (length payload)
shape_words (PickledShape kinds) payload = pickled_words (pickled_at kinds payload)

abbrev pub is_navigation : Named → Bool
is_navigation Navigation = true
is_navigation named = false

unfoldable pub words : Option Named → ℕ → List ℕ → List ℕ
words None id payload = unknown_words id payload
words (Some named) id payload =
    if is_navigation named then page_words (pickled_at navigation_kinds payload) else shape_words (fields_of named) payload
