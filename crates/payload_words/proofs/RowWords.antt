-- The words of a payload are those of its row: of the fields that its bytes are laid out as.
use Rattle.std.proofs.Common.{◌≡◌, ℕ, ℤ, ◌≤◌, Bool, false, List, ◌++◌, length, map, Some, refl, sym, ap, ◌∙◌, arith}
use Rattle.std.specs.Prelude.{if◌then◌else◌}
use Rattle.std.proofs.lemmas.Bool.{eq-eqb}
use Rattle.pickle_cells.specs.PickleLayout.{pickled_at}
use Rattle.pickle_cells.proofs.PickleLaws.{pickled_only}
use Rattle.navigation_entry.specs.Display.{more}
use Rattle.navigation_entry.specs.Layouts.{navigation_items, navigation_kinds}
use Rattle.payload_rows.specs.FixedReading.{field_kind, width}
use Rattle.payload_rows.specs.PayloadLayout.{Layout, Fixed, Pickled, Shape, shape, IsLaidOut}
use Rattle.payload_rows.specs.Shapes.{fields_of}
use Rattle.payload_rows.specs.declared.shape.Shape.{Shape as Named}
use Rattle.payload_rows.specs.declared.shape.Shape.TheVariants.{Navigation}
use Rattle.payload_rows.proofs.FieldLaws.{length-fields, fields_only}
use Rattle.payload_words.specs.FieldWords.{field_words, item_words, length_word}
use Rattle.payload_words.specs.PageWords.{page_item_words, more_words, page_words}
use Rattle.payload_words.specs.Words.{shape_words, is_navigation, words}

-- the fields in the order of the row, and the length of a pickle's tail
abbrev pub layout_words : Layout → List ℕ
layout_words (Fixed fields) = field_words fields
layout_words (Pickled items tail) = item_words items ++ length_word tail

shape_says : (layout : Layout) (payload : List ℕ) → length payload ≤ 65534 → IsLaidOut layout payload → shape_words (shape layout) payload ≡ layout_words layout
unfolding IsLaidOut
shape_says (Fixed fields) payload short is =
    rw (eq-eqb (length payload) (width (map field_kind fields)) (length-fields fields payload is)) (ap field_words (fields_only fields payload is))
shape_says (Pickled items tail) payload short is = rw (pickled_only items tail payload (omega arith) is) refl

-- a payload of any shape but a navigation's is shown as its row's fields
pub words-row : (named : Named) (layout : Layout) (id : ℕ) (payload : List ℕ) → shape layout ≡ fields_of named → is_navigation named ≡ false → length payload ≤ 65534 → IsLaidOut layout payload → words (Some named) id payload ≡ layout_words layout
unfolding words
words-row named layout id payload same other short is =
    ap (λ (b : Bool). if b then page_words (pickled_at navigation_kinds payload) else shape_words (fields_of named) payload) other
    ∙ ap (λ (s : Shape). shape_words s payload) (sym same) ∙ shape_says layout payload short is

-- a navigation by its fields, the length of its rest, and the fields of the rest that read
pub words-navigation : (tab index : ℤ) (url title page_state : List ℕ) (transition : ℤ) (rest : List ℕ) (id : ℕ) (payload : List ℕ) → length payload ≤ 65534 →
    IsLaidOut (Pickled (navigation_items tab index url title page_state transition) rest) payload →
    words (Some Navigation) id payload ≡ page_item_words (navigation_items tab index url title page_state transition) ++ (length_word rest ++ more_words (more rest))
unfolding words IsLaidOut
words-navigation tab index url title page_state transition rest id payload short is =
    ap page_words (pickled_only (navigation_items tab index url title page_state transition) rest payload (omega arith) is)
