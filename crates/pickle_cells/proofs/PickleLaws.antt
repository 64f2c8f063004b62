-- Payloads that are a pickle: what is read stands there, what stands there is read, and what is written is one of
-- the payload's spellings.
use Rattle.std.proofs.Common.{◌≡◌, ℕ, ◌+◌, ◌-◌, ◌%◌, ◌^◌, ◌<◌, ◌≤◌, Bool, true, false, cond, eqb, ltb, ◌&&◌, List, [], ◌∷◌, ◌++◌, length, map, take, drop, Result, Ok, Err, refl, sym, ap, subst, ◌∙◌, arith}
use Rattle.std.specs.Prelude.{IfOk}
use Rattle.std.specs.Int.{w32, from_le_bytes, to_le_bytes}
use Rattle.std.specs.List.{AllByRecursion}
use Rattle.std.proofs.lemmas.List.{length-append, length-take, length-drop, take-append-drop, take_at, drop_at}
use Rattle.pickle_cells.specs.declared.fault.PickleFault.{PickleFault}
use Rattle.pickle_cells.specs.declared.fault.PickleFault.TheVariants.{Short, SizeField}
use Rattle.pickle_cells.specs.Cell.{IsBytes, uint32, IsPickle, pickle}
use Rattle.pickle_cells.specs.CellReading.{Unread, ◌>>=◌, body_at}
use Rattle.pickle_cells.specs.declared.kind.ItemKind.{ItemKind}
use Rattle.pickle_cells.specs.PickleLayout.{Item, AreItems, IsPickled, FitsItem, items_size, pickled_size, item_bytes, items_bytes, pickled_bytes, kind_of, item_at, items_at, pickled_at}
use Rattle.pickle_cells.proofs.ItemLaws.{length-uint32, item_found, item_only, item_bytes-is, length-cell, item_size-whole}
use Rattle.std.proofs.lemmas.Bool.{eqb-true, ltb-false, le-ltb}
use Rattle.std.proofs.lemmas.Bool.Decides.{nat_tests}
use Rattle.pickle_cells.proofs.CellLaws.{wide32}
use Rattle.pickle_cells.proofs.CellLaws.{IsBytes-take, IsBytes-drop, bind_ok, ok_is, Taken, Taken-fits}

-- ---- items one after another

pub items_found : (kinds : List ItemKind) (old : Unread) (x : List Item × Unread) → IsBytes old.bytes → items_at kinds old ≡ Ok x → AreItems x.0 x.1.bytes old.bytes × (map kind_of x.0 ≡ kinds) × IsBytes x.1.bytes
unfolding items_at
items_found [] old x fits e = subst (λ (y : List Item × Unread). AreItems y.0 y.1.bytes old.bytes × (map kind_of y.0 ≡ []) × IsBytes y.1.bytes) (ok_is ([], old) x e) (refl, refl, fits)
items_found (kind ∷ kinds) old x fits e =
    let a = bind_ok (item_at kind old) (λ first. items_at kinds first.1 >>= λ others. Ok (first.0 ∷ others.0, others.1)) x e in
    let b = bind_ok (items_at kinds a.0.1) (λ others. Ok (a.0.0 ∷ others.0, others.1)) x a.2 in
    let t = item_found kind old a.0 fits a.1 in
    let front : Taken old t.0.0 a.0.1 = record { parts = t.0.2; moved = t.0.3 } in
    let r = items_found kinds a.0.1 b.0 (Taken-fits old t.0.0 a.0.1 front fits) b.1 in
    let same : a.0.0 ∷ b.0.0 ≡ x.0 = ap (λ (y : List Item × Unread). y.0) (ok_is (a.0.0 ∷ b.0.0, b.0.1) x b.2) in
    subst (λ (y : List Item × Unread). AreItems y.0 y.1.bytes old.bytes × (map kind_of y.0 ≡ kind ∷ kinds) × IsBytes y.1.bytes) (ok_is (a.0.0 ∷ b.0.0, b.0.1) x b.2)
    ((t.0.0, a.0.1.bytes, t.0.2, t.0.1, r.0), rw (t.1, r.1) refl, r.2)

pub items_only : (items : List Item) (tail : List ℕ) (old : Unread) → AreItems items tail old.bytes → (new : Unread) × (items_at (map kind_of items) old ≡ Ok (items, new)) × (new.bytes ≡ tail)
unfolding items_at
items_only [] tail old are = (old, refl, are)
items_only (item ∷ items) tail old are =
    let middle : Unread = record { place = old.place + length are.0; bytes = are.1 } in
    let first = item_only item old middle (are.0, are.3, are.2, refl) in
    let r = items_only items tail middle are.4 in
    (r.0, rw (first, r.1) refl, r.2)

-- ---- the body

chosen : {A : Type 0} (b : Bool) (fault : PickleFault) (r : Result A PickleFault) (y : A) → cond b (Err fault) r ≡ Ok y → (b ≡ false) × (r ≡ Ok y)
chosen true fault r y e = absurd cc
chosen false fault r y e = (refl, e)

picked : {A : Type 0} (b : Bool) (fault : PickleFault) (x y : A) → cond b (Ok x) (Err fault) ≡ Ok y → (b ≡ true) × (x ≡ y)
picked true fault x y e = (refl, cc)
picked false fault x y e = absurd cc

both : (a b : Bool) → (a && b) ≡ true → (a ≡ true) × (b ≡ true)
both true b e = (refl, e)
both false b e = absurd cc

pub body_found : (payload : List ℕ) (body : Unread) → IsBytes payload → body_at payload ≡ Ok body → IsPickle body.bytes payload × (body.place ≡ 4)
unfolding body_at uint32
body_found payload body fits e =
    let said = from_le_bytes w32 (take 4 payload) in
    let inner : Unread = record { place = 4; bytes = drop 4 payload } in
    let test = eqb said (length payload - 4) && eqb (said % 4) 0 in
    let a = chosen (ltb (length payload) 4) (Short 0) (cond test (Ok inner) (Err (SizeField said (length payload - 4)))) body e in
    let b = picked test (SizeField said (length payload - 4)) inner body a.1 in
    let sizes = both (eqb said (length payload - 4)) (eqb (said % 4) 0) b.0 in
    let long : 4 ≤ length payload = ltb-false _ _ a.0 in
    let is-said : said ≡ length payload - 4 = eqb-true _ _ sizes.0 in
    let fours : said % 4 ≡ 0 = eqb-true _ _ sizes.1 in
    let size : said ≡ length (drop 4 payload) = omega (arith, length-drop 4 payload) in
    let front : take 4 payload ≡ to_le_bytes w32 (length (drop 4 payload)) = sym (wide32.back (take 4 payload) (omega (arith, length-take 4 payload)) (IsBytes-take 4 payload fits)) ∙ ap (to_le_bytes w32) size in
    let parts : payload ≡ to_le_bytes w32 (length (drop 4 payload)) ++ drop 4 payload = sym (take-append-drop 4 payload) ∙ ap (λ (p : List ℕ). p ++ drop 4 payload) front in
    subst (λ (u : Unread). IsPickle u.bytes payload × (u.place ≡ 4)) b.1 ((omega (arith, ap (λ (n : ℕ). n % 4) size), parts), refl)

pub body_only : (body payload : List ℕ) → length body < 2 ^ 32 → IsPickle body payload → body_at payload ≡ Ok (record { place = 4; bytes = body })
unfolding body_at uint32
body_only body payload lt is =
    let head = to_le_bytes w32 (length body) in
    let size : length payload ≡ 4 + length body = omega (arith, ap length is.1, length-append head body, wide32.len (length body)) in
    let long : ltb (length payload) 4 ≡ false = le-ltb _ _ (omega arith) in
    let front : take 4 payload ≡ head = ap (take 4) is.1 ∙ take_at head body 4 (wide32.len (length body)) in
    let behind : drop 4 payload ≡ body = ap (drop 4) is.1 ∙ drop_at head body 4 (wide32.len (length body)) in
    let said : from_le_bytes w32 (take 4 payload) ≡ length body = ap (from_le_bytes w32) front ∙ wide32.again (length body) lt in
    let inner : length payload - 4 ≡ length body = omega arith in
    let same : eqb (length body) (length body) ≡ true = grind (arith, nat_tests) in
    rw (long, said, inner, same, is.0, behind) refl

pub body_found_by : (payload : List ℕ) (result : Result Unread PickleFault) → IsBytes payload → result ≡ body_at payload → IfOk result (λ body. (body.place ≡ 4) × IsPickle body.bytes payload)
body_found_by payload (Ok body) fits e = let found = body_found payload body fits (sym e) in (found.1, found.0)
body_found_by payload (Err fault) fits e = tt

pub body_only_by : (body payload : List ℕ) → length payload ≤ 65534 → IsPickle body payload → body_at payload ≡ Ok (record { place = 4; bytes = body })
body_only_by body payload short is = body_only body payload (omega (arith, ap length is.1, length-uint32 (length body), length-append (uint32 (length body)) body)) is

IsBytes-body : (body payload : List ℕ) → IsPickle body payload → IsBytes payload → IsBytes body
IsBytes-body body payload is fits = subst IsBytes (ap (drop 4) is.1 ∙ drop_at (uint32 (length body)) body 4 (length-uint32 (length body))) (IsBytes-drop 4 payload fits)

-- ---- whole payloads

-- What is read of a payload stands there.
pub pickled_found : (kinds : List ItemKind) (payload : List ℕ) (x : List Item × List ℕ) → IsBytes payload → pickled_at kinds payload ≡ Ok x → IsPickled x.0 x.1 payload × (map kind_of x.0 ≡ kinds)
unfolding pickled_at
pickled_found kinds payload x fits e =
    let a = bind_ok (body_at payload) (λ body. items_at kinds body >>= λ y. Ok (y.0, y.1.bytes)) x e in
    let b = bind_ok (items_at kinds a.0) (λ y. Ok (y.0, y.1.bytes)) x a.2 in
    let body = body_found payload a.0 fits a.1 in
    let r = items_found kinds a.0 b.0 (IsBytes-body a.0.bytes payload body.0 fits) b.1 in
    subst (λ (y : List Item × List ℕ). IsPickled y.0 y.1 payload × (map kind_of y.0 ≡ kinds)) (ok_is (b.0.0, b.0.1.bytes) x b.2) ((a.0.bytes, body.0, r.0), r.1)

-- What stands in a payload is read.
pub pickled_only : (items : List Item) (tail payload : List ℕ) → length payload < 2 ^ 32 → IsPickled items tail payload → pickled_at (map kind_of items) payload ≡ Ok (items, tail)
unfolding pickled_at
pickled_only items tail payload lt is =
    let body = is.0 in
    let opened : Unread = record { place = 4; bytes = body } in
    let short : length body < 2 ^ 32 = omega (arith, ap length is.1.1, length-uint32 (length body), length-append (uint32 (length body)) body) in
    let r = items_only items tail opened is.2 in
    rw (body_only body payload short is.1, r.1, r.2) refl

-- the tail is a multiple of 4 bytes
pub length-tail : (items : List Item) (tail bytes : List ℕ) → AreItems items tail bytes → length bytes % 4 ≡ 0 → length tail % 4 ≡ 0
length-tail [] tail bytes are whole = omega (arith, ap length are)
length-tail (item ∷ items) tail bytes are whole =
    length-tail items tail are.1 are.4 (omega (arith, ap length are.2, length-append are.0 are.1, length-cell item are.0 are.3, item_size-whole item))

length-items : (items : List Item) (tail bytes : List ℕ) → AreItems items tail bytes → length bytes ≡ items_size items tail
length-items [] tail bytes are = ap length are
length-items (item ∷ items) tail bytes are =
    omega (arith, ap length are.2, length-append are.0 are.1, length-cell item are.0 are.3, length-items items tail are.1 are.4)

-- the length of a payload, and that its tail is a multiple of 4 bytes
pub length-pickled : (items : List Item) (tail payload : List ℕ) → IsPickled items tail payload → (length payload ≡ pickled_size items tail) × (length tail % 4 ≡ 0)
length-pickled items tail payload is =
    (omega (arith, ap length is.1.1, length-uint32 (length is.0), length-append (uint32 (length is.0)) is.0, length-items items tail is.0 is.2), length-tail items tail is.0 is.2 is.1.0)

-- what is written stands there
pub items_bytes-are : (items : List Item) (tail : List ℕ) → AllByRecursion FitsItem items → AreItems items tail (items_bytes items tail)
unfolding items_bytes
items_bytes-are [] tail fit = refl
items_bytes-are (item ∷ items) tail fit = (item_bytes item, items_bytes items tail, refl, item_bytes-is item fit.0, items_bytes-are items tail fit.1)

pub length-items_bytes : (items : List Item) (tail : List ℕ) → AllByRecursion FitsItem items → length tail % 4 ≡ 0 → length (items_bytes items tail) % 4 ≡ 0
unfolding items_bytes
length-items_bytes [] tail fit whole = whole
length-items_bytes (item ∷ items) tail fit whole =
    omega (arith, length-append (item_bytes item) (items_bytes items tail), length-cell item (item_bytes item) (item_bytes-is item fit.0), item_size-whole item, length-items_bytes items tail fit.1 whole)

-- What is written for a payload is one of its spellings, and so it is read back.
pub pickled_bytes-is : (items : List Item) (tail : List ℕ) → AllByRecursion FitsItem items → length tail % 4 ≡ 0 → IsPickled items tail (pickled_bytes items tail)
unfolding pickled_bytes pickle
pickled_bytes-is items tail fit whole = (items_bytes items tail, (length-items_bytes items tail fit whole, refl), items_bytes-are items tail fit)

-- there is one reading of a payload of a shape
pub one_reading : (items others : List Item) (tail rest payload : List ℕ) → length payload < 2 ^ 32 → map kind_of items ≡ map kind_of others → IsPickled items tail payload → IsPickled others rest payload → (items ≡ others) × (tail ≡ rest)
one_reading items others tail rest payload lt kinds is are =
    let same : ◌≡◌ {A = List Item × List ℕ} (items, tail) (others, rest) = ok_is (items, tail) (others, rest) (sym (pickled_only items tail payload lt is) ∙ ap (λ (k : List ItemKind). pickled_at k payload) kinds ∙ pickled_only others rest payload lt are) in
    (ap (λ (y : List Item × List ℕ). y.0) same, ap (λ (y : List Item × List ℕ). y.1) same)
