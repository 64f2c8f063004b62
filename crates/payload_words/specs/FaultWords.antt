-- Why a command is raw, in words.
use Rattle.std.specs.Prelude.{ℕ, ◌==◌, List, ◌++◌, length, codes, if◌then◌else◌, ◌&&◌}
use Rattle.pickle_cells.specs.declared.fault.PickleFault.{PickleFault}
use Rattle.pickle_cells.specs.declared.fault.PickleFault.TheVariants.{Short, SizeField, NegativeLength}
use Rattle.payload_words.specs.FieldWords.{number_word, signed_word}

abbrev pub pickle_fault_words : PickleFault → List ℕ
pickle_fault_words (Short at) = codes " raw short" ++ number_word at
pickle_fault_words (SizeField said present) = codes " raw size-field" ++ (number_word said ++ number_word present)
pickle_fault_words (NegativeLength at n) = codes " raw negative-length" ++ (number_word at ++ signed_word n)

abbrev pub length_fault_words : ℕ → ℕ → List ℕ
length_fault_words wanted present = codes " raw length" ++ (number_word wanted ++ number_word present)

-- an id that no row has: the initial-state marker is the id 255 without a payload
abbrev pub unknown_words : ℕ → List ℕ → List ℕ
unknown_words id payload = if (id == 255) && (length payload == 0) then codes " marker" else codes " raw unknown-id"
