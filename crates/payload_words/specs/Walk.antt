-- What a walk over the items of a pickle appends: the words of those that read. At one that doesn't read only the words
-- of those before it are there, and nothing is said where memory runs out.
use Rattle.std.specs.Prelude.{◌≡◌, ℕ, List, [], ◌++◌, length, take, Result, Ok, Err}
use Rattle.pickle_cells.specs.PickleLayout.{Item}
use Rattle.pickle_cells.specs.CellReading.{Unread}
use Rattle.pickle_cells.specs.declared.fault.PickleFault.{PickleFault}
use Rattle.payload_rows.specs.Faults.{behind}
use Rattle.payload_words.specs.declared.pickled.Stop.{Stop}
use Rattle.payload_words.specs.declared.pickled.Stop.TheVariants as stop
use Rattle.payload_words.specs.FieldWords.{item_word, item_words}
use Rattle.payload_words.specs.Words.{pickled_words}

-- the words of what was read
abbrev pub said_item : Result (Item × Unread) PickleFault → List ℕ
said_item (Ok x) = item_word x.0
said_item (Err fault) = []

abbrev pub said_items : Result (List Item × Unread) PickleFault → List ℕ
said_items (Ok x) = item_words x.0
said_items (Err fault) = []

abbrev pub SaysItem : {T : Type 0} → List ℕ → List ℕ → Result (Item × Unread) PickleFault → Unread → Result T Stop → Type 0
SaysItem old new read after (Ok x) = (behind read ≡ Ok after) × (new ≡ old ++ said_item read)
SaysItem old new read after (Err (stop.Fault fault)) = (read ≡ Err fault) × (new ≡ old)
SaysItem old new read after (Err stop.Memory) = Unit {0}

abbrev pub SaysItems : {T : Type 0} → List ℕ → List ℕ → Result (List Item × Unread) PickleFault → Unread → Result T Stop → Type 0
SaysItems old new read after (Ok x) = (behind read ≡ Ok after) × (new ≡ old ++ said_items read)
SaysItems old new read after (Err (stop.Fault fault)) = (read ≡ Err fault) × (take (length old) new ≡ old)
SaysItems old new read after (Err stop.Memory) = Unit {0}

-- the words of the whole pickle
abbrev pub SaysPickle : {T : Type 0} → List ℕ → List ℕ → Result (List Item × List ℕ) PickleFault → Result T Stop → Type 0
SaysPickle old new read (Ok x) = new ≡ old ++ pickled_words read
SaysPickle old new read (Err (stop.Fault fault)) = (read ≡ Err fault) × (take (length old) new ≡ old)
SaysPickle old new read (Err stop.Memory) = Unit {0}
