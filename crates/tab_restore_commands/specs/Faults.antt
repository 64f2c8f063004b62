-- The ids of tab-restore commands with the shapes of their payloads, and why no row holds for a payload.
use Rattle.std.specs.Prelude.{ℕ, List, [], ◌∷◌, Option}
use Rattle.payload_rows.specs.PayloadLayout.{Shape}
use Rattle.payload_rows.specs.Shapes.{shape_at, shape_in}
use Rattle.payload_rows.specs.Faults.{shape_fault}
use Rattle.payload_rows.specs.declared.fault.PayloadFault.{PayloadFault}
use Rattle.payload_rows.specs.declared.shape.Shape.{Shape as Named}
use Rattle.payload_rows.specs.declared.shape.Shape.TheVariants.{Flag, Int, TwoIntsTime, IntRest, IntText, WindowEntry, Navigation, Group}

abbrev pub shapes : List (ℕ × Named)
shapes =
    (1, Navigation)
    ∷ (2, Int)
    ∷ (4, TwoIntsTime)
    ∷ (5, Flag)
    ∷ (6, IntText)
    ∷ (7, IntText)
    ∷ (9, WindowEntry)
    ∷ (10, Group)
    ∷ (11, IntRest)
    ∷ (12, IntText)
    ∷ []

-- the shape of the payloads of an id, by its name and by its fields
abbrev pub name_of : ℕ → Option Named
name_of id = shape_at shapes id

abbrev pub shape_of : ℕ → Option Shape
shape_of id = shape_in shapes id

-- the first test that a payload fails, None where a row holds
unfoldable pub fault_of : ℕ → List ℕ → Option PayloadFault
fault_of id payload = shape_fault (shape_of id) payload
