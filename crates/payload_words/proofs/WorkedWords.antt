-- Payloads shown by hand.
use Rattle.std.proofs.Common.{◌≡◌, [], ◌∷◌, None, Some, codes, refl}
use Rattle.std.specs.Fmt.{digits}
use Rattle.pickle_cells.specs.Cell.{padding}
use Rattle.pickle_cells.specs.CellReading.{past, number_at, signed_at, text_at, counted_at, units_of, body_at}
use Rattle.pickle_cells.specs.PickleLayout.{item_at, items_at, pickled_at}
use Rattle.navigation_entry.specs.Display.{next, info_at, more}
use Rattle.payload_rows.specs.FixedReading.{int_at, flag_at as flag_byte_at}
use Rattle.payload_rows.specs.declared.shape.Shape.TheVariants.{TwoInts, IntFlag, IntText, Navigation}
use Rattle.shown_texts.specs.Shown.{shown_byte, shown_unit}
use Rattle.payload_words.specs.FieldWords.{field_word, item_word}
use Rattle.payload_words.specs.PageWords.{more_words}
use Rattle.payload_words.specs.Words.{words}

two_numbers : words (Some TwoInts) 0 (1 ∷ 0 ∷ 0 ∷ 0 ∷ 255 ∷ 255 ∷ 255 ∷ 255 ∷ []) ≡ codes " 1 -1"
unfolding words int_at field_word digits
two_numbers = refl

-- any byte but 0 is true, and bytes that say nothing have no word
a_flag : words (Some IntFlag) 12 (7 ∷ 0 ∷ 0 ∷ 0 ∷ 2 ∷ 9 ∷ 9 ∷ 9 ∷ []) ≡ codes " 7 true"
unfolding words int_at flag_byte_at field_word digits
a_flag = refl

a_wrong_length : words (Some TwoInts) 0 (1 ∷ 0 ∷ 0 ∷ 0 ∷ []) ≡ codes " raw length 8 4"
unfolding words digits
a_wrong_length = refl

a_text : words (Some IntText) 15 (12 ∷ 0 ∷ 0 ∷ 0 ∷ 1 ∷ 0 ∷ 0 ∷ 0 ∷ 2 ∷ 0 ∷ 0 ∷ 0 ∷ 97 ∷ 98 ∷ 0 ∷ 0 ∷ []) ≡ codes " 1 \"ab\" [0]"
unfolding words pickled_at body_at items_at item_at signed_at counted_at number_at text_at past padding item_word shown_byte digits
a_text = refl

a_tail : words (Some IntText) 15 (12 ∷ 0 ∷ 0 ∷ 0 ∷ 1 ∷ 0 ∷ 0 ∷ 0 ∷ 0 ∷ 0 ∷ 0 ∷ 0 ∷ 1 ∷ 2 ∷ 3 ∷ 4 ∷ []) ≡ codes " 1 \"\" [4]"
unfolding words pickled_at body_at items_at item_at signed_at counted_at number_at text_at past padding item_word shown_byte digits
a_tail = refl

-- the number before it reads, and yet has no word
a_negative_length : words (Some IntText) 15 (8 ∷ 0 ∷ 0 ∷ 0 ∷ 1 ∷ 0 ∷ 0 ∷ 0 ∷ 255 ∷ 255 ∷ 255 ∷ 255 ∷ []) ≡ codes " raw negative-length 8 -1"
unfolding words pickled_at body_at items_at item_at signed_at counted_at number_at text_at past padding item_word digits
a_negative_length = refl

a_short_text : words (Some IntText) 15 (8 ∷ 0 ∷ 0 ∷ 0 ∷ 1 ∷ 0 ∷ 0 ∷ 0 ∷ 5 ∷ 0 ∷ 0 ∷ 0 ∷ []) ≡ codes " raw short 8"
unfolding words pickled_at body_at items_at item_at signed_at counted_at number_at text_at past padding item_word digits
a_short_text = refl

a_wrong_size : words (Some IntText) 15 (9 ∷ 0 ∷ 0 ∷ 0 ∷ 1 ∷ 0 ∷ 0 ∷ 0 ∷ []) ≡ codes " raw size-field 9 4"
unfolding words pickled_at body_at digits
a_wrong_size = refl

a_marker : words None 255 [] ≡ codes " marker"
unfolding words
a_marker = refl

no_marker : words None 255 (0 ∷ []) ≡ codes " raw unknown-id"
unfolding words
no_marker = refl

an_unknown_id : words None 1 [] ≡ codes " raw unknown-id"
unfolding words
an_unknown_id = refl

-- tab 1 at 0, URL `a`, title `b`, a page state of one byte, transition 8, and the type mask of its rest, behind which no
-- referrer stands
a_navigation :
    words (Some Navigation) 6
    (44 ∷ 0 ∷ 0 ∷ 0 ∷ 1 ∷ 0 ∷ 0 ∷ 0 ∷ 0 ∷ 0 ∷ 0 ∷ 0 ∷ 1 ∷ 0 ∷ 0 ∷ 0 ∷ 97 ∷ 0 ∷ 0 ∷ 0 ∷ 1 ∷ 0 ∷ 0 ∷ 0 ∷ 98 ∷ 0 ∷ 0 ∷ 0
    ∷ 1 ∷ 0 ∷ 0 ∷ 0 ∷ 5 ∷ 0 ∷ 0 ∷ 0 ∷ 8 ∷ 0 ∷ 0 ∷ 0 ∷ 3 ∷ 0 ∷ 0 ∷ 0 ∷ 9 ∷ 0 ∷ 0 ∷ 0 ∷ [])
    ≡ codes " 1 0 \"a\" \"b\" [1] 8 [8] 3 [4]"
unfolding words pickled_at body_at items_at item_at signed_at counted_at number_at text_at past padding units_of next info_at more item_word shown_byte shown_unit more_words digits
a_navigation = refl
