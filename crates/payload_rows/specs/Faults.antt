-- Why a payload isn't of a shape.
use Rattle.std.specs.Prelude.{◌≡◌, ℕ, List, length, Option, Some, None, Result, Ok, Err, option_map, if◌then◌else◌, ◌==◌}
use Rattle.pickle_cells.specs.declared.fault.PickleFault.{PickleFault}
use Rattle.pickle_cells.specs.CellReading.{Unread}
use Rattle.pickle_cells.specs.PickleLayout.{pickled_fault}
use Rattle.payload_rows.specs.FixedReading.{width}
use Rattle.payload_rows.specs.PayloadLayout.{Shape, FixedShape, PickledShape}
use Rattle.payload_rows.specs.declared.fault.PayloadFault.{PayloadFault}
use Rattle.payload_rows.specs.declared.fault.PayloadFault.TheVariants.{UnknownId, Length, Pickle}

abbrev pub length_fault : ℕ → List ℕ → Option PayloadFault
length_fault wanted payload = if length payload == wanted then None else Some (Length wanted (length payload))

-- the first test of a shape that a payload fails
abbrev pub shape_fault : Option Shape → List ℕ → Option PayloadFault
shape_fault None payload = Some UnknownId
shape_fault (Some (FixedShape kinds)) payload = length_fault (width kinds) payload
shape_fault (Some (PickledShape kinds)) payload = option_map Pickle (pickled_fault kinds payload)

-- what is left behind what was read
abbrev pub behind : {A : Type 0} → Result (A × Unread) PickleFault → Result Unread PickleFault
behind (Ok x) = Ok x.1
behind (Err fault) = Err fault

-- what a call gives that moves a cursor past what is read
abbrev pub Passes : {T A : Type 0} → Result (A × Unread) PickleFault → Unread → Result T PickleFault → Type 0
Passes read after (Ok x) = behind read ≡ Ok after
Passes read after (Err fault) = read ≡ Err fault
