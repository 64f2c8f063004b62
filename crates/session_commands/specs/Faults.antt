-- The ids of session commands with the shapes of their payloads, and why no row holds for a payload.
use Rattle.std.specs.Prelude.{ℕ, List, [], ◌∷◌, Option}
use Rattle.payload_rows.specs.PayloadLayout.{Shape}
use Rattle.payload_rows.specs.Shapes.{shape_at, shape_in}
use Rattle.payload_rows.specs.Faults.{shape_fault}
use Rattle.payload_rows.specs.declared.fault.PayloadFault.{PayloadFault}
use Rattle.payload_rows.specs.declared.shape.Shape.{Shape as Named}
use Rattle.payload_rows.specs.declared.shape.Shape.TheVariants.{Int, TwoInts, ThreeInts, IntFlag, IntTime, WindowBounds, TabGroup, IntRest, IntText, IntTwoTexts, Navigation, Group}

abbrev pub shapes : List (ℕ × Named)
shapes =
    (0, TwoInts)
    ∷ (2, TwoInts)
    ∷ (5, TwoInts)
    ∷ (6, Navigation)
    ∷ (7, TwoInts)
    ∷ (8, TwoInts)
    ∷ (9, TwoInts)
    ∷ (11, TwoInts)
    ∷ (12, IntFlag)
    ∷ (13, IntText)
    ∷ (14, WindowBounds)
    ∷ (15, IntText)
    ∷ (16, IntTime)
    ∷ (17, IntTime)
    ∷ (19, IntText)
    ∷ (20, Int)
    ∷ (21, IntTime)
    ∷ (23, IntText)
    ∷ (24, ThreeInts)
    ∷ (25, TabGroup)
    ∷ (27, Group)
    ∷ (28, IntText)
    ∷ (29, IntRest)
    ∷ (31, IntText)
    ∷ (32, IntFlag)
    ∷ (33, IntTwoTexts)
    ∷ (34, IntTwoTexts)
    ∷ []

-- the shape of the payloads of an id, by its name and by its fields
abbrev pub name_of : ℕ → Option Named
name_of id = shape_at shapes id

abbrev pub shape_of : ℕ → Option Shape
shape_of id = shape_in shapes id

-- the first test that a payload fails, None where a row holds
unfoldable pub fault_of : ℕ → List ℕ → Option PayloadFault
fault_of id payload = shape_fault (shape_of id) payload
