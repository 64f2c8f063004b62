-- The words of a navigation. Its page state, which is opaque, is shown by its length, as its rest is; then come the fields
-- of the rest that read, and the length of what is left of it.
use Rattle.std.specs.Prelude.{ℕ, List, [], ◌∷◌, ◌++◌, Option, None, Some, Result, Ok, Err}
use Rattle.std.specs.List.{flat_map}
use Rattle.pickle_cells.specs.PickleLayout.{Item, Text}
use Rattle.pickle_cells.specs.declared.fault.PickleFault.{PickleFault}
use Rattle.navigation_entry.specs.declared.more.InfoPair.{InfoPair}
use Rattle.navigation_entry.specs.declared.more.More.{More}
use Rattle.navigation_entry.specs.Display.{more}
use Rattle.payload_words.specs.FieldWords.{signed_word, flag_word, text_word, units_word, length_word, item_word}
use Rattle.payload_words.specs.FaultWords.{pickle_fault_words}

abbrev pub opaque_word : Item → List ℕ
opaque_word (Text text) = length_word text
opaque_word item = item_word item

-- tab, index, URL, title, page state and transition
abbrev pub page_item_words : List Item → List ℕ
page_item_words (tab ∷ index ∷ url ∷ title ∷ state ∷ transition ∷ []) =
    item_word tab ++ (item_word index ++ (item_word url ++ (item_word title ++ (opaque_word state ++ item_word transition))))
page_item_words items = []

-- a field that doesn't read has no word
abbrev pub if_read : {A : Type 0} → (A → List ℕ) → Option A → List ℕ
if_read word None = []
if_read word (Some x) = word x

abbrev pub pair_words : InfoPair → List ℕ
pair_words pair = text_word pair.key ++ text_word pair.value

unfoldable pub more_words : More → List ℕ
more_words m =
    if_read signed_word m.type_mask
    ++ (if_read text_word m.referrer
    ++ (if_read signed_word m.old_policy
    ++ (if_read text_word m.original
    ++ (if_read flag_word m.overriding
    ++ (if_read signed_word m.time
    ++ (if_read units_word m.terms
    ++ (if_read signed_word m.status
    ++ (if_read signed_word m.policy
    ++ (flat_map pair_words m.info
    ++ length_word m.left)))))))))

abbrev pub page_words : Result (List Item × List ℕ) PickleFault → List ℕ
page_words (Ok x) = page_item_words x.0 ++ (length_word x.1 ++ more_words (more x.1))
page_words (Err fault) = pickle_fault_words fault
