-- The rows of a table of commands, of any family. A row says an id and a layout; a raw command has none, and is kept as
-- its id and its bytes.
use Rattle.std.specs.Prelude.{◌≡◌, ℕ, List, Bool, true, false}
use Rattle.payload_rows.specs.PayloadLayout.{Layout, IsLaidOut}
use Rattle.payload_rows.specs.Contents.{Content, Laid, Verbatim, content_bytes, FitsContent, IsWholeContent}

pub data Row : Type 0 where
  Known : ℕ → Layout → Row
  Kept : ℕ → List ℕ → Row

-- the payload under this id is one of the row
abbrev pub Holds : Row → ℕ → List ℕ → Type 0
Holds (Known own layout) id payload = (id ≡ own) × IsLaidOut layout payload
Holds (Kept own bytes) id payload = (id ≡ own) × (payload ≡ bytes)

-- the id and the content that a row writes
abbrev pub told : Row → ℕ × Content
told (Known id layout) = (id, Laid layout)
told (Kept id bytes) = (id, Verbatim bytes)

abbrev pub row_id : Row → ℕ
row_id r = (told r).0

abbrev pub row_bytes : Row → List ℕ
row_bytes r = content_bytes (told r).1

-- the numbers are in the ranges of their types
abbrev pub RowFits : Row → Type 0
RowFits r = FitsContent (told r).1

-- the tail of a pickle has whole words, and the payload at most 65,534 bytes
abbrev pub RowIsWhole : Row → Type 0
RowIsWhole r = IsWholeContent (told r).1

-- the row says a layout
abbrev pub is_known : Row → Bool
is_known (Known id layout) = true
is_known (Kept id bytes) = false
