-- The definitions at payloads whose bytes are known: the name of a window's app, and two payloads that aren't one.
use Rattle.std.proofs.Common.{◌≡◌, ℕ, List, [], ◌∷◌, Result, Ok, Err, pos, negsuc, refl}
use Rattle.pickle_cells.specs.declared.fault.PickleFault.{PickleFault}
use Rattle.pickle_cells.specs.declared.fault.PickleFault.TheVariants.{Short, SizeField, NegativeLength}
use Rattle.pickle_cells.specs.Cell.{int, uint32, padding, counted, pickle}
use Rattle.pickle_cells.specs.CellReading.{past, number_at, signed_at, text_at, counted_at, body_at}
use Rattle.pickle_cells.specs.declared.kind.ItemKind.{ItemKind}
use Rattle.pickle_cells.specs.declared.kind.ItemKind.TheVariants.{Int as IntKind, Text as TextKind}
use Rattle.pickle_cells.specs.PickleLayout.{Item, Int, Text, item_bytes, items_bytes, pickled_bytes, item_at, items_at, pickled_at}

abbrev app : List Item
app = Int (pos 1) ∷ Text (97 ∷ 98 ∷ []) ∷ []

abbrev app_kinds : List ItemKind
app_kinds = IntKind ∷ TextKind ∷ []

abbrev outcome : Type 0
outcome = Result (List Item × List ℕ) PickleFault

written : pickled_bytes app [] ≡ 12 ∷ 0 ∷ 0 ∷ 0 ∷ 1 ∷ 0 ∷ 0 ∷ 0 ∷ 2 ∷ 0 ∷ 0 ∷ 0 ∷ 97 ∷ 98 ∷ 0 ∷ 0 ∷ []
unfolding pickled_bytes pickle items_bytes item_bytes int uint32 counted padding
written = refl

-- any padding is read, and the tail is what is left
read : pickled_at app_kinds (16 ∷ 0 ∷ 0 ∷ 0 ∷ 1 ∷ 0 ∷ 0 ∷ 0 ∷ 2 ∷ 0 ∷ 0 ∷ 0 ∷ 97 ∷ 98 ∷ 255 ∷ 7 ∷ 1 ∷ 2 ∷ 3 ∷ 4 ∷ []) ≡ (let r : outcome = Ok (app, 1 ∷ 2 ∷ 3 ∷ 4 ∷ []) in r)
unfolding pickled_at body_at items_at item_at signed_at counted_at number_at text_at past padding
read = refl

negative : pickled_at app_kinds (8 ∷ 0 ∷ 0 ∷ 0 ∷ 1 ∷ 0 ∷ 0 ∷ 0 ∷ 255 ∷ 255 ∷ 255 ∷ 255 ∷ []) ≡ (let r : outcome = Err (NegativeLength 8 (negsuc 0)) in r)
unfolding pickled_at body_at items_at item_at signed_at counted_at number_at text_at past padding
negative = refl

short : pickled_at app_kinds (8 ∷ 0 ∷ 0 ∷ 0 ∷ 1 ∷ 0 ∷ 0 ∷ 0 ∷ 5 ∷ 0 ∷ 0 ∷ 0 ∷ []) ≡ (let r : outcome = Err (Short 8) in r)
unfolding pickled_at body_at items_at item_at signed_at counted_at number_at text_at past padding
short = refl

size : pickled_at app_kinds (9 ∷ 0 ∷ 0 ∷ 0 ∷ 1 ∷ 0 ∷ 0 ∷ 0 ∷ []) ≡ (let r : outcome = Err (SizeField 9 4) in r)
unfolding pickled_at body_at
size = refl
