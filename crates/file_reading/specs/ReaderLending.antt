-- What a reader holds once the frame that it lent is let go.
use Rattle.std.specs.Prelude.{⊤}
use Rattle.std.specs.Borrow.{follows_so, Fml, MutBor}
use mathlib.Core.Option.{none}
use Rattle.file_reading.specs.contracts.reader.FrameReader.{the_row}
use Rattle.file_reading.specs.declared.reader.FrameReader.{FrameReader}

-- this holds of a reader once what was lent of it is let go
abbrev pub Rests : MutBor FrameReader → (FrameReader → Type 0) → Fml
Rests s P = follows_so the_row the_row s.ghost_name none (λ _ _. ⊤) P
