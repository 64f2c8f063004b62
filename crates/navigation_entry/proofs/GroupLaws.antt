-- The payload of a group, both ways, and its length.
use Rattle.std.proofs.Common.{◌≡◌, ℕ, ◌*◌, ◌%◌, ◌^◌, ◌<◌, ◌≤◌, List, [], ◌++◌, append_assoc, length, get_or, Result, Ok, Err, refl, sym, ap, subst, ◌∙◌, arith}
use Rattle.std.specs.Prelude.{IfOk, IsOkAnd}
use Rattle.pickle_cells.specs.declared.fault.PickleFault.{PickleFault}
use Rattle.pickle_cells.specs.Cell.{IsBytes, padding, uint32, uint64, string16, pickle}
use Rattle.pickle_cells.specs.CellReading.{units_of}
use Rattle.pickle_cells.specs.PickleLayout.{IsPickled, IsReadAs, pickled_at, pickled_bytes, items_bytes, item_bytes}
use Rattle.pickle_cells.proofs.CellLaws.{ok_is}
use Rattle.pickle_cells.proofs.UnitLaws.{length-units_of, units_below}
use Rattle.pickle_cells.proofs.PickleLaws.{pickled_found, pickled_only, pickled_bytes-is, length-pickled}
use Rattle.navigation_entry.specs.declared.group.GroupInfo.{GroupInfo}
use Rattle.navigation_entry.specs.declared.group.GroupRef.{GroupRef}
use Rattle.navigation_entry.specs.GroupViews.{IsGroup, group_ref_items, group_ref_parts, ShowsGroup}
use Rattle.navigation_entry.specs.Layouts.{group_items, group_kinds, group_size}
use Rattle.navigation_entry.proofs.NavigationLaws.{Parts, done}

-- what is read of a payload that is short enough keeps the invariant
pub group_fits : (payload : List ℕ) (high low : ℕ) (title : List ℕ) (colour : ℕ) (rest : List ℕ) → IsBytes payload → length payload ≤ 65534 → length title % 2 ≡ 0
    → pickled_at group_kinds payload ≡ done (group_items high low (units_of title) colour, rest)
    → (length rest % 4 ≡ 0) × (group_size (length title) (length rest) ≤ 65534)
group_fits payload high low title colour rest fits short even read =
    let found = pickled_found group_kinds payload (group_items high low (units_of title) colour, rest) fits read in
    let size = length-pickled (group_items high low (units_of title) colour) rest payload found.0 in
    let units : 2 * length (units_of title) ≡ length title = omega (arith, length-units_of title) in
    let pad : padding (2 * length (units_of title)) ≡ padding (length title) = ap padding units in
    (size.1, omega (arith, size.0))

-- what owns the texts of a group that fits, fits
pub own_group_fits : (title rest t r : List ℕ) → t ≡ units_of title → r ≡ rest → length title % 2 ≡ 0 → length rest % 4 ≡ 0 → group_size (length title) (length rest) ≤ 65534
    → (length r % 4 ≡ 0) × (group_size (2 * length t) (length r) ≤ 65534)
own_group_fits title rest t r is-t is-r even whole short =
    let units : 2 * length t ≡ length title = omega (arith, ap length is-t, length-units_of title) in
    (rw is-r whole, rw (is-r, units) short)

-- equal items are equal field by field
same_group_items : (high low high' low' : ℕ) (title title' : List ℕ) (colour colour' : ℕ) → group_items high low title colour ≡ group_items high' low' title' colour' → (high ≡ high') × (low ≡ low') × (title ≡ title') × (colour ≡ colour')
same_group_items high low high' low' title title' colour colour' e = (cc, cc, cc, cc)

pub group_found : (payload : List ℕ) (result : Result GroupRef PickleFault) → IsBytes payload → IsReadAs group_ref_parts result (pickled_at group_kinds payload) → IfOk result (λ r. IsPickled (group_ref_items r) r.rest.now payload)
group_found payload (Ok r) fits read = (pickled_found group_kinds payload (group_ref_parts r) fits read).0
group_found payload (Err fault) fits read = tt

pub group_only : (payload : List ℕ) (result : Result GroupRef PickleFault) → length payload ≤ 65534 → IsReadAs group_ref_parts result (pickled_at group_kinds payload)
    → (g : GroupInfo) → IsGroup g payload → IsOkAnd result (λ r. ShowsGroup r g)
group_only payload (Ok r) short read g is =
    let again = pickled_only (group_items g.high g.low g.title g.colour) g.rest payload (omega arith) is in
    let parts : ◌≡◌ {A = Parts} (group_ref_parts r) (group_items g.high g.low g.title g.colour, g.rest) = ok_is (group_ref_parts r) (group_items g.high g.low g.title g.colour, g.rest) (sym read ∙ again) in
    let same = same_group_items r.high r.low g.high g.low (units_of r.title.now) g.title r.colour g.colour (ap (λ (p : Parts). p.0) parts) in
    record { high = sym same.0; low = sym same.1; title = sym same.2; colour = sym same.3; rest = sym (ap (λ (p : Parts). p.1) parts) }
group_only payload (Err fault) short read g is =
    let again = pickled_only (group_items g.high g.low g.title g.colour) g.rest payload (omega arith) is in
    absurd cc

-- the items put one after another, each under a name of its own, are the written payload
pub put_group_as : (high low : ℕ) (title : List ℕ) (colour : ℕ) (rest t r : List ℕ) (a b c d e f out : List ℕ) → t ≡ title → r ≡ rest
    → a ≡ [] → b ≡ a ++ uint64 high → c ≡ b ++ uint64 low → d ≡ c ++ string16 t → e ≡ d ++ uint32 colour → f ≡ e ++ r → out ≡ pickle f
    → out ≡ pickled_bytes (group_items high low title colour) rest
unfolding pickled_bytes items_bytes item_bytes
put_group_as high low title colour rest t r a b c d e f out is-t is-r is-a is-b is-c is-d is-e is-f is-out =
    let put : f ≡ [] ++ uint64 high ++ uint64 low ++ string16 title ++ uint32 colour ++ rest = rw (is-f, is-e, is-d, is-c, is-b, is-a, is-t, is-r) refl in
    is-out ∙ ap pickle (put ∙ simp append_assoc)

-- what is written for a group that fits says that group, and is short enough
pub group_is : (high low : ℕ) (title : List ℕ) (colour : ℕ) (rest out : List ℕ) → high < 2 ^ 64 → low < 2 ^ 64 → colour < 2 ^ 32 → ((i : ℕ) → get_or title i 0 < 2 ^ 16)
    → length rest % 4 ≡ 0 → group_size (2 * length title) (length rest) ≤ 65534 → out ≡ pickled_bytes (group_items high low title colour) rest
    → IsPickled (group_items high low title colour) rest out × (length out ≤ 65534)
group_is high low title colour rest out fits-high fits-low fits-colour units whole short is =
    let items = group_items high low title colour in
    let written = pickled_bytes-is items rest (fits-high, (fits-low, ((units_below title units, omega arith), (fits-colour, tt)))) whole in
    let says : IsPickled items rest out = subst (IsPickled items rest) (sym is) written in
    (says, omega (arith, (length-pickled items rest out says).0))
