-- An item that is read stands there, an item that stands there is read, and what is written is one of its cells.
use Rattle.std.proofs.Common.{◌≡◌, ℕ, ◌+◌, ◌*◌, ◌%◌, ℤ, pos, Bool, true, false, List, ◌++◌, length, replicate, Result, Ok, refl, sym, ap, subst, ◌∙◌, append_assoc, arith}
use Rattle.std.specs.Int.{from_bool}
use Rattle.std.proofs.lemmas.List.{length-append, length-replicate, take_at, drop_at}
use Rattle.pickle_cells.specs.declared.fault.PickleFault.{PickleFault}
use Rattle.pickle_cells.specs.Cell.{IsBytes, int, int64, uint32, uint64, flag, counted, unit_bytes, padding, IsCounted, pickle}
use Rattle.pickle_cells.specs.CellReading.{Unread, ◌>>=◌, int_at, int64_at, uint32_at, uint64_at, flag_at, string_at, string16_at, units_of}
use Rattle.pickle_cells.specs.declared.kind.ItemKind.{ItemKind}
use Rattle.pickle_cells.specs.declared.kind.ItemKind.TheVariants.{Int as IntKind, Int64 as Int64Kind, Uint32 as Uint32Kind, Uint64 as Uint64Kind, Flag as FlagKind, Text as TextKind, Units as UnitsKind}
use Rattle.pickle_cells.specs.PickleLayout.{Item, Int, Int64, Uint32, Uint64, Flag, Text, Units, IsItem, FitsItem, item_size, item_bytes, kind_of, item_at, Takes}
use Rattle.pickle_cells.proofs.UnitLaws.{length-unit_bytes, length-units_of, unit_bytes-units_of, units_of-fits, units_of-unit_bytes}
use Rattle.pickle_cells.proofs.CellLaws.{IsBytes-take, IsBytes-drop, padded, bind_ok, ok_is, Taken, int_takes, int_again, int64_takes, int64_again, uint32_takes, uint32_again, uint64_takes, uint64_again, flag_takes, flag_again, counted_takes, counted_again}

IsBytes-text : (x text y z : List ℕ) → IsBytes ((x ++ (text ++ y)) ++ z) → IsBytes text
IsBytes-text x text y z fits =
    let regrouped : (x ++ (text ++ y)) ++ z ≡ x ++ (text ++ (y ++ z)) = simp append_assoc in
    let whole : IsBytes (x ++ (text ++ (y ++ z))) = subst IsBytes regrouped fits in
    let behind : IsBytes (text ++ (y ++ z)) = subst IsBytes (drop_at x (text ++ (y ++ z)) (length x) refl) (IsBytes-drop (length x) (x ++ (text ++ (y ++ z))) whole) in
    subst IsBytes (take_at text (y ++ z) (length text) refl) (IsBytes-take (length text) (text ++ (y ++ z)) behind)

-- ---- lengths

pub length-int : (z : ℤ) → length (int z) ≡ 4
unfolding int
length-int z = refl

pub length-int64 : (z : ℤ) → length (int64 z) ≡ 8
unfolding int64
length-int64 z = refl

pub length-uint32 : (n : ℕ) → length (uint32 n) ≡ 4
unfolding uint32
length-uint32 n = refl

pub length-uint64 : (n : ℕ) → length (uint64 n) ≡ 8
unfolding uint64
length-uint64 n = refl

pub length-flag : (b : Bool) → length (flag b) ≡ 4
unfolding flag
length-flag b = length-uint32 (from_bool b)

pub length-counted : (count : ℕ) (text : List ℕ) → length (counted count text) ≡ 4 + length text + padding (length text)
unfolding counted
length-counted count text = omega (arith, length-int (pos count), length-append (int (pos count)) (text ++ replicate (padding (length text)) 0), length-append text (replicate (padding (length text)) 0), length-replicate {A = ℕ} (padding (length text)) 0)

pub length-pickle : (body : List ℕ) → length (pickle body) ≡ 4 + length body
unfolding pickle
length-pickle body = omega (arith, length-uint32 (length body), length-append (uint32 (length body)) body)

pub counted_whole : (count : ℕ) (text : List ℕ) → length (counted count text) % 4 ≡ 0
counted_whole count text = omega (arith, length-counted count text, padded (length text))

-- what std's tactics want to know of written cells
pub ruleset lengths = (counted_whole, length-int, length-int64, length-uint32, length-uint64, length-flag, length-counted, length-pickle, length-unit_bytes)

-- ---- one item

taken : (old : Unread) (cell other : List ℕ) (new : Unread) → cell ≡ other → old.bytes ≡ cell ++ new.bytes → new.place ≡ old.place + length cell → Taken old other new
taken old cell other new same parts moved = subst (λ (p : List ℕ). Taken old p new) same (record { parts = parts; moved = moved })

pub int_found : (old : Unread) (z : ℤ) (new : Unread) → IsBytes old.bytes → int_at old ≡ Ok (z, new) → Takes old (Int z) new
int_found old z new fits e = let t = int_takes old z new fits e in (int z, (t.1, refl), t.0.parts, t.0.moved)

pub int_only : (old : Unread) (z : ℤ) (new : Unread) → Takes old (Int z) new → int_at old ≡ Ok (z, new)
int_only old z new t = int_again old z new t.1.0 (taken old t.0 (int z) new t.1.1 t.2 t.3)

pub int64_found : (old : Unread) (z : ℤ) (new : Unread) → IsBytes old.bytes → int64_at old ≡ Ok (z, new) → Takes old (Int64 z) new
int64_found old z new fits e = let t = int64_takes old z new fits e in (int64 z, (t.1, refl), t.0.parts, t.0.moved)

pub int64_only : (old : Unread) (z : ℤ) (new : Unread) → Takes old (Int64 z) new → int64_at old ≡ Ok (z, new)
int64_only old z new t = int64_again old z new t.1.0 (taken old t.0 (int64 z) new t.1.1 t.2 t.3)

pub uint32_found : (old : Unread) (n : ℕ) (new : Unread) → IsBytes old.bytes → uint32_at old ≡ Ok (n, new) → Takes old (Uint32 n) new
uint32_found old n new fits e = let t = uint32_takes old n new fits e in (uint32 n, (t.1, refl), t.0.parts, t.0.moved)

pub uint32_only : (old : Unread) (n : ℕ) (new : Unread) → Takes old (Uint32 n) new → uint32_at old ≡ Ok (n, new)
uint32_only old n new t = uint32_again old n new t.1.0 (taken old t.0 (uint32 n) new t.1.1 t.2 t.3)

pub uint64_found : (old : Unread) (n : ℕ) (new : Unread) → IsBytes old.bytes → uint64_at old ≡ Ok (n, new) → Takes old (Uint64 n) new
uint64_found old n new fits e = let t = uint64_takes old n new fits e in (uint64 n, (t.1, refl), t.0.parts, t.0.moved)

pub uint64_only : (old : Unread) (n : ℕ) (new : Unread) → Takes old (Uint64 n) new → uint64_at old ≡ Ok (n, new)
uint64_only old n new t = uint64_again old n new t.1.0 (taken old t.0 (uint64 n) new t.1.1 t.2 t.3)

pub flag_found : (old : Unread) (b : Bool) (new : Unread) → IsBytes old.bytes → flag_at old ≡ Ok (b, new) → Takes old (Flag b) new
flag_found old b new fits e = let t = flag_takes old b new fits e in (t.0, t.1, t.2.parts, t.2.moved)

pub flag_only : (old : Unread) (b : Bool) (new : Unread) → Takes old (Flag b) new → flag_at old ≡ Ok (b, new)
flag_only old b new t = flag_again old b t.0 new t.1 (taken old t.0 t.0 new refl t.2 t.3)

pub string_found : (old : Unread) (text : List ℕ) (new : Unread) → IsBytes old.bytes → string_at old ≡ Ok (text, new) → Takes old (Text text) new
string_found old text new fits e =
    let t = counted_takes 1 old text new fits e in
    let count : t.1 ≡ length text = omega (arith, t.2) in
    (t.0, subst (λ (n : ℕ). IsCounted n text t.0) count t.3, t.4.parts, t.4.moved)

pub string_only : (old : Unread) (text : List ℕ) (new : Unread) → Takes old (Text text) new → string_at old ≡ Ok (text, new)
string_only old text new t = counted_again 1 (length text) old text t.0 new (omega arith) t.1 (taken old t.0 t.0 new refl t.2 t.3)

-- The bytes of a string of units are whole units.
pub string16_whole : (old : Unread) (text : List ℕ) (new : Unread) → IsBytes old.bytes → string16_at old ≡ Ok (text, new) → (length text % 2 ≡ 0) × IsBytes text
string16_whole old text new fits e =
    let t = counted_takes 2 old text new fits e in
    let parts : old.bytes ≡ (int (pos t.1) ++ (text ++ t.3.0)) ++ new.bytes = t.4.parts ∙ ap (λ (p : List ℕ). p ++ new.bytes) t.3.3 in
    (omega (arith, t.2), IsBytes-text (int (pos t.1)) text t.3.0 new.bytes (subst IsBytes parts fits))

pub string16_found : (old : Unread) (text : List ℕ) (new : Unread) → IsBytes old.bytes → string16_at old ≡ Ok (text, new) → Takes old (Units (units_of text)) new
string16_found old text new fits e =
    let w = string16_whole old text new fits e in
    let t = counted_takes 2 old text new fits e in
    let back : text ≡ unit_bytes (units_of text) = sym (unit_bytes-units_of text w.1 w.0) in
    let count : t.1 ≡ length (units_of text) = omega (arith, t.2, length-units_of text) in
    let cell : IsCounted t.1 (unit_bytes (units_of text)) t.0 = subst (λ (p : List ℕ). IsCounted t.1 p t.0) back t.3 in
    (t.0, (units_of-fits text w.1, subst (λ (n : ℕ). IsCounted n (unit_bytes (units_of text)) t.0) count cell), t.4.parts, t.4.moved)

pub string16_only : (old : Unread) (units : List ℕ) (new : Unread) → Takes old (Units units) new → string16_at old ≡ Ok (unit_bytes units, new)
string16_only old units new t = counted_again 2 (length units) old (unit_bytes units) t.0 new (length-unit_bytes units) t.1.1 (taken old t.0 t.0 new refl t.2 t.3)

made_found : {A : Type 0} (read : Result (A × Unread) PickleFault) (make : A → Item) (kind : ItemKind) (old : Unread) → ((a : A) → kind_of (make a) ≡ kind) → ((a : A) (new : Unread) → read ≡ Ok (a, new) → Takes old (make a) new)
    → (x : Item × Unread) → (read >>= λ y. Ok (make y.0, y.1)) ≡ Ok x → Takes old x.0 x.1 × (kind_of x.0 ≡ kind)
made_found {A} read make kind old kinds takes x e =
    let b = bind_ok read (λ y. Ok (make y.0, y.1)) x e in
    subst (λ (y : Item × Unread). Takes old y.0 y.1 × (kind_of y.0 ≡ kind)) (ok_is (make b.0.0, b.0.1) x b.2) (takes b.0.0 b.0.1 b.1, kinds b.0.0)

-- an item that is read stands there
pub item_found : (kind : ItemKind) (old : Unread) (x : Item × Unread) → IsBytes old.bytes → item_at kind old ≡ Ok x → Takes old x.0 x.1 × (kind_of x.0 ≡ kind)
unfolding item_at
item_found IntKind old x fits e = made_found (int_at old) (λ z. Int z) IntKind old (λ z. refl) (λ z new e. int_found old z new fits e) x e
item_found Int64Kind old x fits e = made_found (int64_at old) (λ z. Int64 z) Int64Kind old (λ z. refl) (λ z new e. int64_found old z new fits e) x e
item_found Uint32Kind old x fits e = made_found (uint32_at old) (λ n. Uint32 n) Uint32Kind old (λ n. refl) (λ n new e. uint32_found old n new fits e) x e
item_found Uint64Kind old x fits e = made_found (uint64_at old) (λ n. Uint64 n) Uint64Kind old (λ n. refl) (λ n new e. uint64_found old n new fits e) x e
item_found FlagKind old x fits e = made_found (flag_at old) (λ b. Flag b) FlagKind old (λ b. refl) (λ b new e. flag_found old b new fits e) x e
item_found TextKind old x fits e = made_found (string_at old) (λ text. Text text) TextKind old (λ text. refl) (λ text new e. string_found old text new fits e) x e
item_found UnitsKind old x fits e = made_found (string16_at old) (λ text. Units (units_of text)) UnitsKind old (λ text. refl) (λ text new e. string16_found old text new fits e) x e

-- an item that stands there is read
pub item_only : (item : Item) (old new : Unread) → Takes old item new → item_at (kind_of item) old ≡ Ok (item, new)
unfolding item_at
item_only (Int z) old new t = rw (int_only old z new t) refl
item_only (Int64 z) old new t = rw (int64_only old z new t) refl
item_only (Uint32 n) old new t = rw (uint32_only old n new t) refl
item_only (Uint64 n) old new t = rw (uint64_only old n new t) refl
item_only (Flag b) old new t = rw (flag_only old b new t) refl
item_only (Text text) old new t = rw (string_only old text new t) refl
item_only (Units units) old new t = rw (string16_only old units new t, units_of-unit_bytes units t.1.0) refl

-- what is written for an item is a cell of it
pub item_bytes-is : (item : Item) → FitsItem item → IsItem item (item_bytes item)
unfolding item_bytes flag counted
item_bytes-is (Int z) fits = (fits, refl)
item_bytes-is (Int64 z) fits = (fits, refl)
item_bytes-is (Uint32 n) fits = (fits, refl)
item_bytes-is (Uint64 n) fits = (fits, refl)
item_bytes-is (Flag false) fits = (0, omega arith, refl, refl)
item_bytes-is (Flag true) fits = (1, omega arith, refl, refl)
item_bytes-is (Text text) fits = (replicate (padding (length text)) 0, fits, length-replicate {A = ℕ} (padding (length text)) 0, refl)
item_bytes-is (Units units) fits = (fits.0, (replicate (padding (length (unit_bytes units))) 0, fits.1, length-replicate {A = ℕ} (padding (length (unit_bytes units))) 0, refl))

length-IsCounted : (count : ℕ) (text cell : List ℕ) → IsCounted count text cell → length cell ≡ 4 + length text + padding (length text)
length-IsCounted count text cell is =
    omega (arith, ap length is.3, length-int (pos count), length-append (int (pos count)) (text ++ is.0), length-append text is.0, is.2)

-- the length of a cell
pub length-cell : (item : Item) (cell : List ℕ) → IsItem item cell → length cell ≡ item_size item
length-cell (Int z) cell is = ap length is.1 ∙ length-int z
length-cell (Int64 z) cell is = ap length is.1 ∙ length-int64 z
length-cell (Uint32 n) cell is = ap length is.1 ∙ length-uint32 n
length-cell (Uint64 n) cell is = ap length is.1 ∙ length-uint64 n
length-cell (Flag b) cell is = ap length is.2 ∙ length-uint32 is.0
length-cell (Text text) cell is = length-IsCounted (length text) text cell is
length-cell (Units units) cell is = length-IsCounted (length units) (unit_bytes units) cell is.1 ∙ ap (λ (n : ℕ). 4 + n + padding n) (length-unit_bytes units)

-- a cell has a multiple of 4 bytes
pub item_size-whole : (item : Item) → item_size item % 4 ≡ 0
item_size-whole (Int z) = refl
item_size-whole (Int64 z) = refl
item_size-whole (Uint32 n) = refl
item_size-whole (Uint64 n) = refl
item_size-whole (Flag b) = refl
item_size-whole (Text text) = omega (arith, padded (length text))
item_size-whole (Units units) = omega (arith, padded (2 * length units))
