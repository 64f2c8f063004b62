-- The payload of a navigation, both ways, and its length.
use Rattle.std.proofs.Common.{◌≡◌, ℕ, ◌*◌, ◌%◌, ◌^◌, ◌<◌, ◌≤◌, ℤ, List, [], ◌++◌, append_assoc, length, get_or, Result, Ok, Err, refl, sym, ap, subst, ◌∙◌, arith}
use Rattle.std.specs.Prelude.{FitsSigned, IfOk, IsOkAnd}
use Rattle.std.specs.Int.{w32}
use Rattle.pickle_cells.specs.declared.fault.PickleFault.{PickleFault}
use Rattle.pickle_cells.specs.Cell.{IsBytes, padding, int, string, string16, pickle}
use Rattle.pickle_cells.specs.CellReading.{units_of}
use Rattle.pickle_cells.specs.PickleLayout.{Item, IsPickled, IsReadAs, pickled_at, pickled_bytes, items_bytes, item_bytes}
use Rattle.pickle_cells.proofs.CellLaws.{ok_is}
use Rattle.pickle_cells.proofs.UnitLaws.{length-units_of, units_below}
use Rattle.pickle_cells.proofs.PickleLaws.{pickled_found, pickled_only, pickled_bytes-is, length-pickled}
use Rattle.navigation_entry.specs.declared.navigation.Navigation.{Navigation}
use Rattle.navigation_entry.specs.declared.reference.NavigationRef.{NavigationRef}
use Rattle.navigation_entry.specs.Views.{IsNavigation, reference_items, reference_parts, Shows}
use Rattle.navigation_entry.specs.Layouts.{navigation_items, navigation_kinds, navigation_size}

abbrev pub Parts : Type 0
Parts = List Item × List ℕ

abbrev pub done : Parts → Result Parts PickleFault
done parts = Ok parts

-- what is read of a payload that is short enough keeps the invariant
pub read_fits : (payload : List ℕ) (tab index : ℤ) (url title page_state : List ℕ) (transition : ℤ) (rest : List ℕ) → IsBytes payload → length payload ≤ 65534 → length title % 2 ≡ 0
    → pickled_at navigation_kinds payload ≡ done (navigation_items tab index url (units_of title) page_state transition, rest)
    → (length rest % 4 ≡ 0) × (navigation_size (length url) (length title) (length page_state) (length rest) ≤ 65534)
read_fits payload tab index url title page_state transition rest fits short even read =
    let found = pickled_found navigation_kinds payload (navigation_items tab index url (units_of title) page_state transition, rest) fits read in
    let size = length-pickled (navigation_items tab index url (units_of title) page_state transition) rest payload found.0 in
    let units : 2 * length (units_of title) ≡ length title = omega (arith, length-units_of title) in
    let pad : padding (2 * length (units_of title)) ≡ padding (length title) = ap padding units in
    (size.1, omega (arith, size.0))

-- what owns the texts of a navigation that fits, fits
pub own_fits : (url title page_state rest u t p r : List ℕ) → u ≡ url → t ≡ units_of title → p ≡ page_state → r ≡ rest → length title % 2 ≡ 0 → length rest % 4 ≡ 0 → navigation_size (length url) (length title) (length page_state) (length rest) ≤ 65534
    → (length r % 4 ≡ 0) × (navigation_size (length u) (2 * length t) (length p) (length r) ≤ 65534)
own_fits url title page_state rest u t p r is-u is-t is-p is-r even whole short =
    let units : 2 * length t ≡ length title = omega (arith, ap length is-t, length-units_of title) in
    (rw is-r whole, rw (is-u, is-p, is-r, units) short)

-- equal items are equal field by field
same_items : (tab index tab' index' : ℤ) (url title page_state url' title' page_state' : List ℕ) (transition transition' : ℤ)
    → navigation_items tab index url title page_state transition ≡ navigation_items tab' index' url' title' page_state' transition'
    → (tab ≡ tab') × (index ≡ index') × (url ≡ url') × (title ≡ title') × (page_state ≡ page_state') × (transition ≡ transition')
same_items tab index tab' index' url title page_state url' title' page_state' transition transition' e = (cc, cc, cc, cc, cc, cc)

pub reads_found : (payload : List ℕ) (result : Result NavigationRef PickleFault) → IsBytes payload → IsReadAs reference_parts result (pickled_at navigation_kinds payload) → IfOk result (λ r. IsPickled (reference_items r) r.rest.now payload)
reads_found payload (Ok r) fits read = (pickled_found navigation_kinds payload (reference_parts r) fits read).0
reads_found payload (Err fault) fits read = tt

pub reads_only : (payload : List ℕ) (result : Result NavigationRef PickleFault) → length payload ≤ 65534 → IsReadAs reference_parts result (pickled_at navigation_kinds payload)
    → (tab : ℤ) (index : ℤ) (n : Navigation) → IsNavigation tab index n payload → IsOkAnd result (λ r. (r.tab ≡ tab) × (r.index ≡ index) × Shows r n)
reads_only payload (Ok r) short read tab index n is =
    let again = pickled_only (navigation_items tab index n.url n.title n.page_state n.transition) n.rest payload (omega arith) is in
    let parts : ◌≡◌ {A = Parts} (reference_parts r) (navigation_items tab index n.url n.title n.page_state n.transition, n.rest) = ok_is (reference_parts r) (navigation_items tab index n.url n.title n.page_state n.transition, n.rest) (sym read ∙ again) in
    let same = same_items r.tab r.index tab index r.url.now (units_of r.title.now) r.page_state.now n.url n.title n.page_state r.transition n.transition (ap (λ (p : Parts). p.0) parts) in
    (same.0, same.1, record { url = sym same.2; title = sym same.3; page_state = sym same.4; transition = sym same.5; rest = sym (ap (λ (p : Parts). p.1) parts) })
reads_only payload (Err fault) short read tab index n is =
    let again = pickled_only (navigation_items tab index n.url n.title n.page_state n.transition) n.rest payload (omega arith) is in
    absurd cc

-- the items put one after another are the written payload
pub put_together : (tab index : ℤ) (url title page_state : List ℕ) (transition : ℤ) (rest : List ℕ)
    → pickle ([] ++ int tab ++ int index ++ string url ++ string16 title ++ string page_state ++ int transition ++ rest) ≡ pickled_bytes (navigation_items tab index url title page_state transition) rest
unfolding pickled_bytes items_bytes item_bytes
put_together tab index url title page_state transition rest = ap pickle (simp append_assoc)

-- the same where each value and each body stands under a name of its own
pub put_as : (tab index : ℤ) (url title page_state : List ℕ) (transition : ℤ) (rest : List ℕ) (i j k : ℤ) (u t p r a b c d e f g h out : List ℕ)
    → i ≡ tab → j ≡ index → k ≡ transition → u ≡ url → t ≡ title → p ≡ page_state → r ≡ rest
    → a ≡ [] → b ≡ a ++ int i → c ≡ b ++ int j → d ≡ c ++ string u → e ≡ d ++ string16 t → f ≡ e ++ string p → g ≡ f ++ int k → h ≡ g ++ r → out ≡ pickle h
    → out ≡ pickled_bytes (navigation_items tab index url title page_state transition) rest
put_as tab index url title page_state transition rest i j k u t p r a b c d e f g h out is-i is-j is-k is-u is-t is-p is-r is-a is-b is-c is-d is-e is-f is-g is-h is-out =
    is-out ∙ ap pickle (rw (is-h, is-g, is-f, is-e, is-d, is-c, is-b, is-a, is-i, is-j, is-k, is-u, is-t, is-p, is-r) refl) ∙ put_together tab index url title page_state transition rest

-- what is written for a navigation that fits says that navigation, and is short enough
pub written_is : (tab index : ℤ) (url title page_state : List ℕ) (transition : ℤ) (rest out : List ℕ) → FitsSigned w32 tab → FitsSigned w32 index → FitsSigned w32 transition → ((i : ℕ) → get_or title i 0 < 2 ^ 16)
    → length rest % 4 ≡ 0 → navigation_size (length url) (2 * length title) (length page_state) (length rest) ≤ 65534 → out ≡ pickled_bytes (navigation_items tab index url title page_state transition) rest
    → IsPickled (navigation_items tab index url title page_state transition) rest out × (length out ≤ 65534)
written_is tab index url title page_state transition rest out fits-tab fits-index fits-transition units whole short is =
    let items = navigation_items tab index url title page_state transition in
    let written = pickled_bytes-is items rest (fits-tab, (fits-index, (omega arith, ((units_below title units, omega arith), (omega arith, (fits-transition, tt)))))) whole in
    let says : IsPickled items rest out = subst (IsPickled items rest) (sym is) written in
    (says, omega (arith, (length-pickled items rest out says).0))
