-- A family's table, in both directions: a payload has one command, a payload with no fault has a row, and what is
-- written for a command reads back.
use Rattle.std.proofs.Common.{◌≡◌, ℕ, ◌≤◌, true, List, [], ◌∷◌, length, map, is_some, Option, Some, None, refl, sym, ap, subst, ◌∙◌}
use Rattle.std.proofs.Props.{props}
use Rattle.std.specs.Prelude.{if◌then◌else◌, ◌==◌}
use Rattle.std.specs.List.{AllByRecursion}
use Rattle.payload_rows.specs.PayloadLayout.{Layout, IsLaidOut, Shape, shape, IsWhole}
use Rattle.payload_rows.specs.Contents.{Content, Laid, Verbatim}
use Rattle.payload_rows.specs.Faults.{shape_fault}
use Rattle.payload_rows.specs.Rows.{Row, Known, Kept, Holds, told, row_id, row_bytes, RowFits, RowIsWhole, is_known}
use Rattle.payload_rows.specs.Shapes.{fields_of, shape_at, shape_in}
use Rattle.payload_rows.specs.declared.shape.Shape.{Shape as Named}
use Rattle.payload_rows.specs.declared.shape.Shape.TheVariants as named
use Rattle.payload_rows.proofs.FieldLaws.{AreBytes}
use Rattle.payload_rows.proofs.LayoutLaws.{accepted, one_layout, laid_out, whole_of, layout_written, is_short, length-layout}
use Rattle.payload_rows.proofs.TableLookup.{found, found_shape}
use Rattle.payload_rows.proofs.CommandsByShape.{Keeps, RowOf, Line}

-- ---- rows that a table has

-- what a raw command keeps: the bytes fit a frame, and no row holds for them
abbrev pub IsRaw : List (ℕ × Named) → ℕ → List ℕ → Type 0
IsRaw shapes id bytes = (length bytes ≤ 65534) × (is_some (shape_fault (shape_in shapes id) bytes) ≡ true)

pub IsRaw-prop : (shapes : List (ℕ × Named)) (id : ℕ) (bytes : List ℕ) → IsProp (IsRaw shapes id bytes)
IsRaw-prop shapes id bytes = hlevel props

abbrev pub IsRowIn : List (ℕ × Named) → Row → Type 0
IsRowIn shapes (Known id layout) = shape_in shapes id ≡ Some (shape layout)
IsRowIn shapes (Kept id bytes) = IsRaw shapes id bytes

-- a payload with a layout of its id's shape isn't raw
not_raw : (shapes : List (ℕ × Named)) (own id : ℕ) (bytes : List ℕ) (layout : Layout) → IsRaw shapes own bytes → shape_in shapes id ≡ Some (shape layout) → id ≡ own → IsLaidOut layout bytes → ⊥
not_raw shapes own id bytes layout raw known same is =
    let none : shape_fault (shape_in shapes own) bytes ≡ None = rw (sym same, known) (accepted layout bytes raw.0 is) in
    let bad = rw none at raw.1 in cc

-- a payload of any length has one row
one_row : (shapes : List (ℕ × Named)) (r s : Row) (id : ℕ) (payload : List ℕ) → IsRowIn shapes r → IsRowIn shapes s → Holds r id payload → Holds s id payload → r ≡ s
one_row shapes (Known i l) (Known j m) id payload p q h k =
    let same : i ≡ j = sym h.0 ∙ k.0 in
    let shapes_are : Some (shape l) ≡ Some (shape m) = sym p ∙ ap (shape_in shapes) same ∙ q in
    let layouts : l ≡ m = one_layout l m payload (cc) h.1 k.1 in
    rw (same, layouts) refl
one_row shapes (Known i l) (Kept j bytes) id payload p q h k =
    absurd (not_raw shapes j i bytes l q p (sym h.0 ∙ k.0) (subst (IsLaidOut l) k.1 h.1))
one_row shapes (Kept i bytes) (Known j m) id payload p q h k =
    absurd (not_raw shapes i j bytes m p q (sym k.0 ∙ h.0) (subst (IsLaidOut m) h.1 k.1))
one_row shapes (Kept i bytes) (Kept j others) id payload p q h k =
    let ids : i ≡ j = sym h.0 ∙ k.0 in
    let same : bytes ≡ others = sym h.1 ∙ k.1 in
    rw (ids, same) refl

whole_row : (r : Row) (id : ℕ) (payload : List ℕ) → length payload ≤ 65534 → Holds r id payload → RowIsWhole r
whole_row (Known own layout) id payload short h = whole_of layout payload short h.1
whole_row (Kept own bytes) id payload short h = tt

written_row : (r : Row) → RowFits r → RowIsWhole r → Holds r (row_id r) (row_bytes r)
written_row (Known id layout) fits whole = (refl, layout_written layout fits whole)
written_row (Kept id bytes) fits whole = (refl, refl)

named_short : (name : Named) → is_short (fields_of name) ≡ true
named_short named.Flag = refl
named_short named.Int = refl
named_short named.TwoInts = refl
named_short named.ThreeInts = refl
named_short named.IntFlag = refl
named_short named.IntTime = refl
named_short named.TwoIntsTime = refl
named_short named.WindowBounds = refl
named_short named.TabGroup = refl
named_short named.IntRest = refl
named_short named.IntText = refl
named_short named.IntTwoTexts = refl
named_short named.WindowEntry = refl
named_short named.Navigation = refl
named_short named.Group = refl

length_row : (shapes : List (ℕ × Named)) (r : Row) → IsRowIn shapes r → RowFits r → RowIsWhole r → length (row_bytes r) ≤ 65534
length_row shapes (Known id layout) is fits whole =
    let name = found_shape shapes id (shape layout) is in
    length-layout layout (subst (λ (s : Shape). is_short s ≡ true) name.2 (named_short name.0)) fits whole
length_row shapes (Kept id bytes) is fits whole = is.0

row_accepts : (shapes : List (ℕ × Named)) (r : Row) (id : ℕ) (payload : List ℕ) → IsRowIn shapes r → is_known r ≡ true → length payload ≤ 65534 → Holds r id payload → shape_fault (shape_in shapes id) payload ≡ None
row_accepts shapes (Known own layout) id payload is known short h = rw (h.0, is) (accepted layout payload short h.1)
row_accepts shapes (Kept own bytes) id payload is known short h = absurd cc

told_known : (r : Row) (id : ℕ) (layout : Layout) → (id, Laid layout) ≡ told r → r ≡ Known id layout
told_known (Known own l) id layout e =
    let ids : id ≡ own = ap (λ (x : ℕ × Content). x.0) e in
    let same : Laid layout ≡ Laid l = ap (λ (x : ℕ × Content). x.1) e in
    let layouts : layout ≡ l = cc in rw (ids, layouts) refl
told_known (Kept own bytes) id layout e = let same : Laid layout ≡ Verbatim bytes = ap (λ (x : ℕ × Content). x.1) e in absurd cc

shape_known : (s : Option Shape) (payload : List ℕ) → shape_fault s payload ≡ None → (known : Shape) × (s ≡ Some known)
shape_known None payload none = absurd cc
shape_known (Some known) payload none = (known, refl)

-- ---- answers of an id's shape

-- no row of the table has the id
pub unknown_id : (shapes : List (ℕ × Named)) (id : ℕ) (payload : List ℕ) → None ≡ shape_at shapes id → is_some (shape_fault (shape_in shapes id) payload) ≡ true
unknown_id shapes id payload none = rw (← none) refl

-- the payload isn't of the id's shape
pub refused : (shapes : List (ℕ × Named)) (id : ℕ) (payload : List ℕ) (name : Named) → Some name ≡ shape_at shapes id → is_some (shape_fault (Some (fields_of name)) payload) ≡ true → is_some (shape_fault (shape_in shapes id) payload) ≡ true
refused shapes id payload name is fault = rw (← is) fault

-- ---- tables

-- the command of an id and a layout, by the first line with the id
abbrev pub make_at : {C : Type 0} {row : C → Row} → List (Line row) → ℕ → (layout : Layout) → Keeps layout → Option C
make_at [] id layout keeps = None
make_at (line ∷ lines) id layout keeps = if id == line.id then line.make layout keeps else make_at lines id layout keeps

-- The table says one thing for a command: its row is one of the table, and no other command's.
abbrev pub Joined : {C : Type 0} {row : C → Row} (shapes : List (ℕ × Named)) → List (Line row) → ((id : ℕ) (bytes : List ℕ) → IsRaw shapes id bytes → C) → C → Row → Type 0
Joined shapes lines raw c (Known id layout) =
    (shape_in shapes id ≡ Some (shape layout)) × Keeps layout × ((keeps : Keeps layout) → make_at lines id layout keeps ≡ Some c)
Joined shapes lines raw c (Kept id bytes) = IsRaw shapes id bytes × ((is : IsRaw shapes id bytes) → raw id bytes is ≡ c)

abbrev pub names : {C : Type 0} {row : C → Row} → List (Line row) → List (ℕ × Named)
names lines = map (λ line. (line.id, line.name)) lines

-- the rows of a family's commands, the shapes of its ids, and the command of each row
pub record Table {C : Type 0} (row : C → Row) (shapes : List (ℕ × Named)) : Type 0 where
  pub lines : List (Line row)
  pub named_so : names lines ≡ shapes
  pub raw : (id : ℕ) (bytes : List ℕ) → IsRaw shapes id bytes → C
  pub joined : (c : C) → Joined shapes lines raw c (row c)

-- a line of the table holds for a layout: where the layout has the line's shape, some command has the row
abbrev LineHolds : {C : Type 0} → (C → Row) → Layout → ℕ → Named → Type 0
LineHolds row layout id name = fields_of name ≡ shape layout → RowOf row id layout

lines_hold : {C : Type 0} {row : C → Row} (lines : List (Line row)) (layout : Layout) → IsWhole layout → AllByRecursion (λ entry. LineHolds row layout entry.0 entry.1) (names lines)
lines_hold [] layout whole = tt
lines_hold (line ∷ lines) layout whole = (line.makes layout whole, lines_hold lines layout whole)

module _ {C : Type 0} {row : C → Row} {shapes : List (ℕ × Named)} (table : Table row shapes) where
  joined_row : (c : C) (r : Row) → Joined shapes table.lines table.raw c r → IsRowIn shapes r
  joined_row c (Known id layout) j = j.0
  joined_row c (Kept id bytes) j = j.0

  -- the row of each command is one of the table
  pub row_in : (c : C) → IsRowIn shapes (row c)
  row_in c = joined_row c (row c) (table.joined c)

  one : (c d : C) (r : Row) → Joined shapes table.lines table.raw c r → Joined shapes table.lines table.raw d r → d ≡ c
  one c d (Known id layout) p q = let both : Some c ≡ Some d = sym (p.2 p.1) ∙ q.2 p.1 in cc
  one c d (Kept id bytes) p q = sym (q.1 p.0) ∙ p.1 p.0

  -- and no other command's
  pub row_injective : (c d : C) → row d ≡ row c → d ≡ c
  row_injective c d same =
      one c d (row c) (table.joined c) (subst (λ (r : Row). Joined shapes table.lines table.raw d r) same (table.joined d))

  -- a payload of any length has one command
  pub one_command : (c d : C) (id : ℕ) (payload : List ℕ) → Holds (row c) id payload → Holds (row d) id payload → d ≡ c
  one_command c d id payload h k = row_injective c d (one_row shapes (row d) (row c) id payload (row_in d) (row_in c) k h)

  -- the command of a payload can be written
  pub is_sound : (c : C) (id : ℕ) (payload : List ℕ) → length payload ≤ 65534 → Holds (row c) id payload → RowIsWhole (row c)
  is_sound c id payload short h = whole_row (row c) id payload short h

  -- what is written reads back
  pub reads_back : (c : C) → RowFits (row c) → RowIsWhole (row c) → Holds (row c) (row_id (row c)) (row_bytes (row c))
  reads_back c fits whole = written_row (row c) fits whole

  -- and fits a frame
  pub length-payload : (c : C) → RowFits (row c) → RowIsWhole (row c) → length (row_bytes (row c)) ≤ 65534
  length-payload c fits whole = length_row shapes (row c) (row_in c) fits whole

  -- each layout of an id's shape is some command's
  row_of_shape : (id : ℕ) (layout : Layout) → IsWhole layout → shape_in shapes id ≡ Some (shape layout) → RowOf row id layout
  row_of_shape id layout whole e =
      let line = found_shape shapes id (shape layout) e in
      let all = subst (λ (s : List (ℕ × Named)). AllByRecursion (λ entry. LineHolds row layout entry.0 entry.1) s) table.named_so (lines_hold table.lines layout whole) in
      found (LineHolds row layout) shapes all id line.0 line.1 line.2

  -- a payload with no fault is the payload of a command that isn't raw
  pub has_row : (id : ℕ) (payload : List ℕ) → AreBytes payload → length payload ≤ 65534 → shape_fault (shape_in shapes id) payload ≡ None → (c : C) × (is_known (row c) ≡ true) × Holds (row c) id payload
  has_row id payload range short none =
      let s = shape_known (shape_in shapes id) payload none in
      let found = laid_out s.0 payload range (rw s.1 at none) in
      let c = row_of_shape id found.0 (whole_of found.0 payload short found.2) (s.1 ∙ ap (λ (x : Shape). Some x) (sym found.1)) in
      (c.0, ap is_known c.1, subst (λ (r : Row). Holds r id payload) (sym c.1) (refl, found.2))

  -- and the payload of such a command has no fault
  pub has_no_fault : (c : C) (id : ℕ) (payload : List ℕ) → length payload ≤ 65534 → is_known (row c) ≡ true → Holds (row c) id payload → shape_fault (shape_in shapes id) payload ≡ None
  has_no_fault c id payload short known h = row_accepts shapes (row c) id payload (row_in c) known short h

  -- a command that tells a layout has a row with it
  tells_row : (c : C) (id : ℕ) (what : Content) (layout : Layout) → (id, what) ≡ told (row c) → what ≡ Laid layout → row c ≡ Known id layout
  tells_row c id what layout e is = told_known (row c) id layout (ap (λ (x : Content). (id, x)) (sym is) ∙ e)

  pub tells_shape : (c : C) (id : ℕ) (what : Content) (layout : Layout) → (id, what) ≡ told (row c) → what ≡ Laid layout → shape_in shapes id ≡ Some (shape layout)
  tells_shape c id what layout e is = subst (IsRowIn shapes) (tells_row c id what layout e is) (row_in c)

  -- and no other command has it
  pub same_row : (c d : C) (id : ℕ) (what : Content) (layout : Layout) → (id, what) ≡ told (row c) → what ≡ Laid layout → row d ≡ Known id layout → d ≡ c
  same_row c d id what layout e is own = row_injective c d (own ∙ sym (tells_row c id what layout e is))
