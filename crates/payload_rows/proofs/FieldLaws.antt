-- Fields of fixed length: what is read stands there, what stands there is read, and what is written reads back.
use Rattle.std.proofs.Common.{add-zero, ◌≡◌, ℕ, ℤ, ◌+◌, ◌<◌, ◌≤◌, ◌^◌, Bool, true, false, not, eqb, List, [], ◌∷◌, ◌++◌, length, map, take, drop, get_or, refl, sym, ap, ◌∙◌, inl, inr, Fits, arith}
use Rattle.std.specs.Prelude.{FitsSigned}
use Rattle.std.specs.Int.{w8, w32, w64, to_le_bytes, from_le_bytes, cast_signed, cast_unsigned}
use Rattle.std.specs.List.{AllByRecursion}
use Rattle.std.proofs.lemmas.Int.{ints, to_z-of_z, of_z-to_z}
use Rattle.std.proofs.lemmas.Nat.{le_bytes_4, le_bytes_8, from_le_bytes-to_le_bytes_4, from_le_bytes-to_le_bytes_8}
use Rattle.std.proofs.lemmas.List.{drop_more, take_at, drop_at, length-append, length-take, length-take-le, length-drop, length-replicate, get_or-take, get_or-drop, get_or_past, take-append-drop, drop-drop, drop_all}
use Rattle.std.proofs.lemmas.Bool.{cases_lt}
use Rattle.pickle_cells.specs.Cell.{int, int64, uint64}
use Rattle.pickle_cells.specs.Layout.{Field, Int, Int64, Uint64, Flag, Free, IsField, AreFields, field_bytes, fields_bytes}
use Rattle.pickle_cells.proofs.ItemLaws.{length-int, length-int64, length-uint64}
use Rattle.payload_rows.specs.declared.kind.FieldKind.{FieldKind}
use Rattle.payload_rows.specs.declared.kind.FieldKind.TheVariants.{Int as IntField, Int64 as Int64Field, Uint64 as Uint64Field, Flag as FlagField, Free as FreeField}
use Rattle.payload_rows.specs.FixedReading.{field_kind, field_width, width, int_at, int64_at, uint64_at, flag_at, field_at, fields_at}
use Rattle.payload_rows.specs.PayloadLayout.{FitsField}

-- each is a byte, as a slice's are
abbrev pub AreBytes : List ℕ → Type 0
AreBytes bytes = (i : ℕ) → Fits w8 (get_or bytes i 0)

below : (bytes : List ℕ) → AreBytes bytes → (i : ℕ) → get_or bytes i 0 < 256
below bytes range i = omega (arith, range i)

range_at : (place size : ℕ) (bytes : List ℕ) → AreBytes bytes → (i : ℕ) → get_or (take size (drop place bytes)) i 0 < 256
range_at place size bytes range i =
    elim (cases_lt i size) [
      | inl within ↦ rw (get_or-take size (drop place bytes) i 0 within, get_or-drop place bytes i 0) (below bytes range (place + i))
      | inr past ↦ rw (get_or_past (take size (drop place bytes)) i 0 (omega (arith, length-take size (drop place bytes)))) (omega arith)
    ]

length_at : (place size : ℕ) (bytes : List ℕ) → place + size ≤ length bytes → length (take size (drop place bytes)) ≡ size
length_at place size bytes there = length-take-le size (drop place bytes) (omega (arith, length-drop place bytes))

-- the number that four bytes say: below 2 ^ 32, since they are bytes
from_4_below : (bytes : List ℕ) → ((i : ℕ) → get_or bytes i 0 < 256) → from_le_bytes w32 bytes < 2 ^ 32
from_4_below bytes range = omega (arith, range 0, range 1, range 2, range 3)

from_8_below : (bytes : List ℕ) → ((i : ℕ) → get_or bytes i 0 < 256) → from_le_bytes w64 bytes < 2 ^ 64
from_8_below bytes range = omega (arith, range 0, range 1, range 2, range 3, range 4, range 5, range 6, range 7)

signed_fits_4 : (n : ℕ) → n < 2 ^ 32 → FitsSigned w32 (cast_signed w32 n)
signed_fits_4 n small = omega (arith, ints)

signed_fits_8 : (n : ℕ) → n < 2 ^ 64 → FitsSigned w64 (cast_signed w64 n)
signed_fits_8 n small = omega (arith, ints)

unsigned_4 : (z : ℤ) → FitsSigned w32 z → cast_unsigned w32 z < 2 ^ 32
unsigned_4 z h = omega (arith, ints, h)

unsigned_8 : (z : ℤ) → FitsSigned w64 z → cast_unsigned w64 z < 2 ^ 64
unsigned_8 z h = omega (arith, ints, h)

-- ---- one field

one_byte : (place : ℕ) (bytes : List ℕ) → place + 1 ≤ length bytes → take 1 (drop place bytes) ≡ get_or bytes place 0 ∷ []
one_byte place bytes there = ap (take 1) (drop_more bytes place 0 (omega arith))

-- what is read of a field stands there
field_found : (kind : FieldKind) (place : ℕ) (bytes : List ℕ) → AreBytes bytes → place + field_width kind ≤ length bytes → IsField (field_at kind place bytes) (take (field_width kind) (drop place bytes))
unfolding int_at int64_at uint64_at flag_at int int64 uint64
field_found IntField place bytes range there =
    let word = take 4 (drop place bytes) in
    let small = from_4_below word (range_at place 4 bytes range) in (
      signed_fits_4 (from_le_bytes w32 word) small,
      sym (ap (to_le_bytes w32) (of_z-to_z w32 (from_le_bytes w32 word) small) ∙ le_bytes_4 word (from_le_bytes w32 word) (length_at place 4 bytes there) (range_at place 4 bytes range) refl),
    )
field_found Int64Field place bytes range there =
    let word = take 8 (drop place bytes) in
    let small = from_8_below word (range_at place 8 bytes range) in (
      signed_fits_8 (from_le_bytes w64 word) small,
      sym (ap (to_le_bytes w64) (of_z-to_z w64 (from_le_bytes w64 word) small) ∙ le_bytes_8 word (from_le_bytes w64 word) (length_at place 8 bytes there) (range_at place 8 bytes range) refl),
    )
field_found Uint64Field place bytes range there =
    let word = take 8 (drop place bytes) in (
      from_8_below word (range_at place 8 bytes range),
      sym (le_bytes_8 word (from_le_bytes w64 word) (length_at place 8 bytes there) (range_at place 8 bytes range) refl),
    )
field_found FlagField place bytes range there =
    (get_or bytes place 0, one_byte place bytes there, refl)
field_found (FreeField n) place bytes range there = length_at place n bytes there

-- what stands there is read
field_only : (field : Field) (place : ℕ) (bytes : List ℕ) → IsField field (take (field_width (field_kind field)) (drop place bytes)) → field_at (field_kind field) place bytes ≡ field
unfolding int_at int64_at uint64_at flag_at int int64 uint64
field_only (Int z) place bytes is =
    ap (λ (x : ℤ). Int x) (ap (λ (x : List ℕ). cast_signed w32 (from_le_bytes w32 x)) is.1 ∙ ap (cast_signed w32) (from_le_bytes-to_le_bytes_4 (cast_unsigned w32 z) (unsigned_4 z is.0)) ∙ to_z-of_z w32 z is.0)
field_only (Int64 z) place bytes is =
    ap (λ (x : ℤ). Int64 x) (ap (λ (x : List ℕ). cast_signed w64 (from_le_bytes w64 x)) is.1 ∙ ap (cast_signed w64) (from_le_bytes-to_le_bytes_8 (cast_unsigned w64 z) (unsigned_8 z is.0)) ∙ to_z-of_z w64 z is.0)
field_only (Uint64 n) place bytes is =
    ap (λ (x : ℕ). Uint64 x) (ap (from_le_bytes w64) is.1 ∙ from_le_bytes-to_le_bytes_8 n is.0)
field_only (Flag b) place bytes is =
    let here : get_or bytes place 0 ≡ is.0 =
    ap (λ (k : ℕ). get_or bytes k 0) (sym (add-zero place)) ∙ sym (get_or-drop place bytes 0 0) ∙ sym (get_or-take 1 (drop place bytes) 0 0 (omega arith)) ∙ ap (λ (x : List ℕ). get_or x 0 0) is.1 in
    ap (λ (x : Bool). Flag x) (ap (λ (n : ℕ). not (eqb n 0)) here ∙ sym is.2)
field_only (Free n) place bytes is = refl

pub length-field : (field : Field) (bytes : List ℕ) → IsField field bytes → length bytes ≡ field_width (field_kind field)
length-field (Int z) bytes is = ap length is.1 ∙ length-int z
length-field (Int64 z) bytes is = ap length is.1 ∙ length-int64 z
length-field (Uint64 n) bytes is = ap length is.1 ∙ length-uint64 n
length-field (Flag b) bytes is = ap length is.1
length-field (Free n) bytes is = is

-- what is written for a field is one
field_written : (field : Field) → FitsField field → IsField field (field_bytes field)
unfolding field_bytes
field_written (Int z) fits = (fits, refl)
field_written (Int64 z) fits = (fits, refl)
field_written (Uint64 n) fits = (fits, refl)
field_written (Flag true) fits = (1, refl, refl)
field_written (Flag false) fits = (0, refl, refl)
field_written (Free n) fits = length-replicate {A = ℕ} n 0

-- ---- fields one after another

found_from : (kinds : List FieldKind) (place : ℕ) (bytes : List ℕ) → AreBytes bytes → place + width kinds ≡ length bytes → AreFields (fields_at kinds place bytes) (drop place bytes)
found_from [] place bytes range there = drop_all place bytes (omega arith)
found_from (kind ∷ kinds) place bytes range there =
    let w = field_width kind in (
      take w (drop place bytes),
      drop (place + w) bytes,
      sym (ap (λ (x : List ℕ). take w (drop place bytes) ++ x) (sym (drop-drop w place bytes)) ∙ take-append-drop w (drop place bytes)),
      field_found kind place bytes range (omega arith),
      found_from kinds (place + w) bytes range (omega arith),
    )

-- what is read of a payload of the fields' length stands there
pub fields_found : (kinds : List FieldKind) (payload : List ℕ) → AreBytes payload → length payload ≡ width kinds → AreFields (fields_at kinds 0 payload) payload
fields_found kinds payload range size = found_from kinds 0 payload range (omega arith)

kind_at : (kind : FieldKind) (place : ℕ) (bytes : List ℕ) → field_kind (field_at kind place bytes) ≡ kind
kind_at IntField place bytes = refl
kind_at Int64Field place bytes = refl
kind_at Uint64Field place bytes = refl
kind_at FlagField place bytes = refl
kind_at (FreeField n) place bytes = refl

pub kinds_at : (kinds : List FieldKind) (place : ℕ) (bytes : List ℕ) → map field_kind (fields_at kinds place bytes) ≡ kinds
kinds_at [] place bytes = refl
kinds_at (kind ∷ kinds) place bytes =
    ap (λ (x : FieldKind). x ∷ map field_kind (fields_at kinds (place + field_width kind) bytes)) (kind_at kind place bytes) ∙ ap (λ (x : List FieldKind). kind ∷ x) (kinds_at kinds (place + field_width kind) bytes)

pub length-fields : (fields : List Field) (bytes : List ℕ) → AreFields fields bytes → length bytes ≡ width (map field_kind fields)
length-fields [] bytes are = ap length are
length-fields (field ∷ fields) bytes (front, rest, split, is, are) =
    omega (arith, ap length split, length-append front rest, length-field field front is, length-fields fields rest are)

only_from : (fields : List Field) (place : ℕ) (bytes : List ℕ) → AreFields fields (drop place bytes) → fields_at (map field_kind fields) place bytes ≡ fields
only_from [] place bytes are = refl
only_from (field ∷ fields) place bytes (front, rest, split, is, are) =
    let w = field_width (field_kind field) in
    let size : length front ≡ w = length-field field front is in
    let here : take w (drop place bytes) ≡ front = ap (take w) split ∙ take_at front rest w size in
    let behind : drop (place + w) bytes ≡ rest = sym (drop-drop w place bytes) ∙ ap (drop w) split ∙ drop_at front rest w size in
    let first : field_at (field_kind field) place bytes ≡ field = field_only field place bytes (rw here is) in
    let others : fields_at (map field_kind fields) (place + w) bytes ≡ fields = only_from fields (place + w) bytes (rw behind are) in
    ap (λ (x : Field). x ∷ fields_at (map field_kind fields) (place + w) bytes) first ∙ ap (λ (x : List Field). field ∷ x) others

-- what stands in a payload is read
pub fields_only : (fields : List Field) (payload : List ℕ) → AreFields fields payload → fields_at (map field_kind fields) 0 payload ≡ fields
fields_only fields payload are = only_from fields 0 payload are

-- fields of one shape that stand in a payload are the same
pub one_fields : (fields others : List Field) (payload : List ℕ) → map field_kind fields ≡ map field_kind others → AreFields fields payload → AreFields others payload → fields ≡ others
one_fields fields others payload kinds are also =
    sym (fields_only fields payload are) ∙ ap (λ (x : List FieldKind). fields_at x 0 payload) kinds ∙ fields_only others payload also

-- what is written stands there
pub fields_written : (fields : List Field) → AllByRecursion FitsField fields → AreFields fields (fields_bytes fields)
unfolding fields_bytes
fields_written [] fits = refl
fields_written (field ∷ fields) fits = (field_bytes field, fields_bytes fields, refl, field_written field fits.0, fields_written fields fits.1)
