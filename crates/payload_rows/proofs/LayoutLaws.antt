-- Layouts of both sorts, over any table: a payload has one layout of a shape, one that has no fault is laid out, and
-- what is written for a layout is laid out so.
use Rattle.std.proofs.Common.{◌≡◌, ℕ, suc, ◌<◌, ◌≤◌, ◌^◌, Bool, true, eqb, List, [], ◌∷◌, length, map, drop, get_or, Some, None, Result, Ok, Err, refl, sym, ap, subst, ◌∙◌, inl, inr, arith}
use Rattle.std.specs.Prelude.{option_map, nat_le}
use Rattle.std.specs.List.{AllByRecursion}
use Rattle.std.proofs.lemmas.Bool.{eq-eqb, eqb-true, cases_Bool, leb-true}
use Rattle.std.proofs.lemmas.List.{drop_at}
use Rattle.pickle_cells.specs.declared.fault.PickleFault.{PickleFault}
use Rattle.pickle_cells.specs.Layout.{fields_bytes}
use Rattle.pickle_cells.specs.Cell.{uint32, IsPickle}
use Rattle.pickle_cells.specs.CellReading.{Unread}
use Rattle.pickle_cells.specs.declared.kind.ItemKind.{ItemKind}
use Rattle.pickle_cells.specs.PickleLayout.{Item, Int, Int64, Uint32, Uint64, Flag, Text, Units, kind_of, AreItems, IsPickled, items_at, pickled_at, pickled_bytes, item_size, items_size, FitsItem, fault_of as pickle_fault_of}
use Rattle.pickle_cells.proofs.CellLaws.{ok_is}
use Rattle.pickle_cells.proofs.ItemLaws.{length-uint32}
use Rattle.pickle_cells.proofs.PickleLaws.{items_only, pickled_found, pickled_only, pickled_bytes-is, length-pickled}
use Rattle.payload_rows.specs.FixedReading.{field_kind, width, fields_at}
use Rattle.payload_rows.specs.PayloadLayout.{Layout, Fixed, Pickled, IsLaidOut, layout_bytes, Shape, FixedShape, PickledShape, shape, FitsLayout, IsInType, IsWhole}
use Rattle.payload_rows.specs.Faults.{shape_fault, length_fault}
use Rattle.payload_rows.specs.declared.fault.PayloadFault.TheVariants.{Pickle}
use Rattle.payload_rows.proofs.FieldLaws.{AreBytes, fields_found, kinds_at, one_fields, length-fields, fields_written}

-- a payload that is laid out so has no fault of that shape
pub accepted : (layout : Layout) (payload : List ℕ) → length payload ≤ 65534 → IsLaidOut layout payload → shape_fault (Some (shape layout)) payload ≡ None
unfolding IsLaidOut
accepted (Fixed fields) payload short is = rw (eq-eqb (length payload) (width (map field_kind fields)) (length-fields fields payload is)) refl
accepted (Pickled items tail) payload short is = rw (pickled_only items tail payload (omega arith) is) refl

-- a payload of any length is the pickle of one body
one_body : (body other payload : List ℕ) → IsPickle body payload → IsPickle other payload → body ≡ other
one_body body other payload p q =
    sym (drop_at (uint32 (length body)) body 4 (length-uint32 (length body))) ∙ ap (drop 4) (sym p.1 ∙ q.1) ∙ drop_at (uint32 (length other)) other 4 (length-uint32 (length other))

one_pickle : (items others : List Item) (tail rest payload : List ℕ) → map kind_of items ≡ map kind_of others → IsPickled items tail payload → IsPickled others rest payload → Pickled items tail ≡ Pickled others rest
one_pickle items others tail rest payload kinds p q =
    let old : Unread = record { place = 4; bytes = p.0 } in
    let first = items_only items tail old p.2 in
    let second = items_only others rest old (subst (AreItems others rest) (one_body q.0 p.0 payload q.1 p.1) q.2) in
    let same : ◌≡◌ {A = List Item × Unread} (items, first.0) (others, second.0) = ok_is (items, first.0) (others, second.0) (sym first.1 ∙ ap (λ (k : List ItemKind). items_at k old) kinds ∙ second.1) in
    let tails : tail ≡ rest = sym first.2 ∙ ap (λ (y : List Item × Unread). y.1.bytes) same ∙ second.2 in
    ap (λ (y : List Item × Unread). Pickled y.0 tail) same ∙ ap (Pickled others) tails

-- a payload has one layout of a shape
pub one_layout : (l m : Layout) (payload : List ℕ) → shape l ≡ shape m → IsLaidOut l payload → IsLaidOut m payload → l ≡ m
unfolding IsLaidOut
one_layout (Fixed fields) (Fixed others) payload same p q = ap Fixed (one_fields fields others payload (cc) p q)
one_layout (Fixed fields) (Pickled items tail) payload same p q = absurd cc
one_layout (Pickled items tail) (Fixed fields) payload same p q = absurd cc
one_layout (Pickled items tail) (Pickled others rest) payload same p q = one_pickle items others tail rest payload (cc) p q

read_ok : {X : Type 0} (r : Result X PickleFault) → option_map (λ (x : PickleFault). Pickle x) (pickle_fault_of r) ≡ None → (x : X) × (r ≡ Ok x)
read_ok (Ok x) none = (x, refl)
read_ok (Err fault) none = absurd cc

fixed_length : (wanted : ℕ) (payload : List ℕ) → length_fault wanted payload ≡ None → length payload ≡ wanted
fixed_length wanted payload none =
    elim (cases_Bool (eqb (length payload) wanted)) [
      | inl same ↦ eqb-true (length payload) wanted same
      | inr apart ↦ let bad = rw apart at none in absurd cc
    ]

-- a payload with no fault of a shape has a layout of that shape
pub laid_out : (s : Shape) (payload : List ℕ) → AreBytes payload → shape_fault (Some s) payload ≡ None → (l : Layout) × (shape l ≡ s) × IsLaidOut l payload
unfolding IsLaidOut
laid_out (FixedShape kinds) payload range none =
    let long = fixed_length (width kinds) payload none in
    (Fixed (fields_at kinds 0 payload), ap FixedShape (kinds_at kinds 0 payload), fields_found kinds payload range long)
laid_out (PickledShape kinds) payload range none =
    let r = read_ok (pickled_at kinds payload) none in
    let x = r.0 in
    let found = pickled_found kinds payload x (λ i. omega (arith, range i)) r.1 in
    (Pickled x.0 x.1, ap PickledShape found.1, found.0)

-- a payload that is short enough has a whole tail
pub whole_of : (layout : Layout) (payload : List ℕ) → length payload ≤ 65534 → IsLaidOut layout payload → IsWhole layout
unfolding IsLaidOut
whole_of (Fixed fields) payload short is = tt
whole_of (Pickled items tail) payload short is = let size = length-pickled items tail payload is in (size.1, omega (arith, size.0))

-- ---- what is written

units_fit : (units : List ℕ) → ((i : ℕ) → get_or units i 0 < 2 ^ 16) → AllByRecursion (λ u. u < 2 ^ 16) units
units_fit [] range = tt
units_fit (unit ∷ units) range = (range 0, units_fit units (λ i. range (suc i)))

item_fits : (item : Item) → IsInType item → item_size item ≤ 65534 → FitsItem item
item_fits (Int z) range small = range
item_fits (Int64 z) range small = range
item_fits (Uint32 n) range small = range
item_fits (Uint64 n) range small = range
item_fits (Flag b) range small = tt
item_fits (Text text) range small = omega arith
item_fits (Units units) range small = (units_fit units range, omega arith)

items_fit : (items : List Item) (tail : List ℕ) → AllByRecursion IsInType items → items_size items tail ≤ 65534 → AllByRecursion FitsItem items
items_fit [] tail range small = tt
items_fit (item ∷ items) tail range small = (item_fits item range.0 (omega arith), items_fit items tail range.1 (omega arith))

-- what is written is laid out so
pub layout_written : (layout : Layout) → FitsLayout layout → IsWhole layout → IsLaidOut layout (layout_bytes layout)
unfolding IsLaidOut
layout_written (Fixed fields) range whole = fields_written fields range
layout_written (Pickled items tail) range whole = pickled_bytes-is items tail (items_fit items tail range (omega (arith, whole.1))) whole.0

-- a fixed payload is shorter than a frame allows
abbrev pub is_short : Shape → Bool
is_short (FixedShape kinds) = nat_le (width kinds) 65534
is_short (PickledShape kinds) = true

-- and fits a frame
pub length-layout : (layout : Layout) → is_short (shape layout) ≡ true → FitsLayout layout → IsWhole layout → length (layout_bytes layout) ≤ 65534
length-layout (Fixed fields) short range whole =
    let small = leb-true (width (map field_kind fields)) 65534 short in
    let long = length-fields fields (fields_bytes fields) (fields_written fields range) in omega arith
length-layout (Pickled items tail) short range whole =
    let is = pickled_bytes-is items tail (items_fit items tail range (omega (arith, whole.1))) whole.0 in
    let size = length-pickled items tail (pickled_bytes items tail) is in omega (arith, size.0, whole.1)

-- ---- readings of pickles, as the readers give them

pub pickled_read : (kinds : List ItemKind) (payload : List ℕ) (items : List Item) (tail : List ℕ) → AreBytes payload → pickled_at kinds payload ≡ Ok (items, tail) → IsLaidOut (Pickled items tail) payload
unfolding IsLaidOut
pickled_read kinds payload items tail range read = (pickled_found kinds payload (items, tail) (λ i. omega (arith, range i)) read).0
