-- Shown tabs put into an ordered map one after another: the part of a window is its shown tabs, sorted.
use Rattle.std.proofs.Common.{◌≡◌, ◌+◌, ◌≤◌, suc, ℤ, Bool, true, false, cond, ◌&&◌, if◌then◌else◌, List, [], ◌∷◌, map, filter, fold, length, Option, Some, None, refl, sym, ap, ◌∙◌, arith}
use Rattle.std.specs.declared.cmp.Ordering.{Ordering}
use Rattle.std.specs.declared.cmp.Ordering.TheVariants.{Less, Equal, Greater}
use Rattle.std.specs.Ordering.{int_cmp, int_eq, is_eq, ordering_then}
use Rattle.std.specs.List.{AllByRecursion}
use Rattle.std.specs.List.Sorted.{IsStrictlySortedBy}
use Rattle.std.specs.Cmp.{IsTotalOrder, int_cmp_total}
use Rattle.std.specs.Map.{keys_of, values_of}
use Rattle.std.specs.BTreeMap.{insert_entry}
use Rattle.std.proofs.lemmas.List.{length-map}
use Rattle.std.proofs.lemmas.Cmp.{tied_itself, on_total, then_total}
use Rattle.std.proofs.lemmas.Map.Keys.{sorted_head, sorted_tail}
use Rattle.std.proofs.lemmas.Map.Lookups.{exact_signed}
use Rattle.window_state.specs.declared.shown.Place.{Place}
use Rattle.window_state.specs.declared.shown.Shown.{Shown}
use Rattle.window_state.specs.declared.tab.Tab.{Tab}
use Rattle.window_state.specs.Keys.{tab_key}
use Rattle.window_state.specs.States.{is_in}
use Rattle.tab_pages.specs.PageLists.{has_page}
use Rattle.window_state.specs.Views.{is_shown_in, place_cmp, insert_by_place, shown_tabs}
use Rattle.window_state.specs.Shown.{place_order, place_in, put_in, put_shown, entries_in, entries_of, tabs_in}

pub place_order_total : IsTotalOrder place_order
place_order_total = then_total (on_total (λ (p : Place). p.window) int_cmp_total) (then_total (on_total (λ (p : Place). p.index) int_cmp_total) (on_total (λ (p : Place). p.id) int_cmp_total))

below_all : {K : Type 0} (cmp : K → K → Ordering) → IsTotalOrder cmp → (k j : K) (ks : List K) → cmp k j ≡ Less → AllByRecursion (λ i. cmp j i ≡ Less) ks → AllByRecursion (λ i. cmp k i ≡ Less) ks
below_all cmp total k j [] less all = tt
below_all cmp total k j (i ∷ is) less all = (total.trans k j i less all.0, below_all cmp total k j is less all.1)

module _ {K X : Type 0} (cmp : K → K → Ordering) where
  pub all-keys : (P : K → Type 0) (k : K) (v : X) (es : List (K × X)) → P k → AllByRecursion P (keys_of es) → AllByRecursion P (keys_of (insert_entry cmp es k v))
  all-keys P k v [] new all = (new, tt)
  all-keys P k v (e ∷ es) new all = by (all-keys P k v es new all.1) (cmp k e.0) refl
    where
      by : AllByRecursion P (keys_of (insert_entry cmp es k v)) → (o : Ordering) → cmp k e.0 ≡ o → AllByRecursion P (keys_of (insert_entry cmp (e ∷ es) k v))
      by rest Less is = rw is (new, all)
      by rest Equal is = rw is all
      by rest Greater is = rw is (all.0, rest)

  pub all-values : (P : X → Type 0) (k : K) (v : X) (es : List (K × X)) → P v → AllByRecursion (λ e. P e.1) es → AllByRecursion (λ e. P e.1) (insert_entry cmp es k v)
  all-values P k v [] new all = (new, tt)
  all-values P k v (e ∷ es) new all = by (all-values P k v es new all.1) (cmp k e.0) refl
    where
      by : AllByRecursion (λ e. P e.1) (insert_entry cmp es k v) → (o : Ordering) → cmp k e.0 ≡ o → AllByRecursion (λ e. P e.1) (insert_entry cmp (e ∷ es) k v)
      by rest Less is = rw is (new, all)
      by rest Equal is = rw is (new, all.1)
      by rest Greater is = rw is (all.0, rest)

  pub sorted-insert : IsTotalOrder cmp → (k : K) (v : X) (es : List (K × X)) → IsStrictlySortedBy cmp (keys_of es) → IsStrictlySortedBy cmp (keys_of (insert_entry cmp es k v))
  unfolding IsStrictlySortedBy
  sorted-insert total k v [] sorted = (tt, tt)
  sorted-insert total k v (e ∷ es) sorted = by (sorted-insert total k v es sorted.1) (cmp k e.0) refl
    where
      by : IsStrictlySortedBy cmp (keys_of (insert_entry cmp es k v)) → (o : Ordering) → cmp k e.0 ≡ o → IsStrictlySortedBy cmp (keys_of (insert_entry cmp (e ∷ es) k v))
      by rest Less is = rw is ((is, below_all cmp total k e.0 (keys_of es) is sorted.0), sorted)
      by rest Equal is = rw is sorted
      by rest Greater is =
          let above : cmp e.0 k ≡ Less = total.antisymm e.0 k ∙ rw is refl in
          rw is (all-keys (λ i. cmp e.0 i ≡ Less) k v es above sorted.0, rest)

  pub length-insert : (k : K) (v : X) (es : List (K × X)) → length (insert_entry cmp es k v) ≤ suc (length es)
  length-insert k v [] = omega arith
  length-insert k v (e ∷ es) = by (length-insert k v es) (cmp k e.0) refl
    where
      by : length (insert_entry cmp es k v) ≤ suc (length es) → (o : Ordering) → cmp k e.0 ≡ o → length (insert_entry cmp (e ∷ es) k v) ≤ suc (length (e ∷ es))
      by rest Less is = rw is (omega arith)
      by rest Equal is = rw is (omega arith)
      by rest Greater is = rw is (omega (arith, rest))

  -- what is made of each value
  pub map-insert : {Y : Type 0} (f : X → Y) (k : K) (v : X) (es : List (K × X)) → map (λ e. (e.0, f e.1)) (insert_entry cmp es k v) ≡ insert_entry cmp (map (λ e. (e.0, f e.1)) es) k (f v)
  map-insert f k v [] = refl
  map-insert f k v (e ∷ es) = by (map-insert f k v es) (cmp k e.0) refl
    where
      by : map (λ e. (e.0, f e.1)) (insert_entry cmp es k v) ≡ insert_entry cmp (map (λ e. (e.0, f e.1)) es) k (f v) → (o : Ordering) → cmp k e.0 ≡ o
          → map (λ e. (e.0, f e.1)) (insert_entry cmp (e ∷ es) k v) ≡ insert_entry cmp (map (λ e. (e.0, f e.1)) (e ∷ es)) k (f v)
      by rest Less is = rw is refl
      by rest Equal is = rw is refl
      by rest Greater is = rw is (ap (λ es'. (e.0, f e.1) ∷ es') rest)

-- an entry stands at the place of its tab
abbrev pub IsPlaced : Place × Tab → Type 0
IsPlaced e = e.0 ≡ place_in e.0.window e.1

-- a tab's id is below another's
abbrev pub IsBefore : Tab → Tab → Type 0
IsBefore t u = int_cmp u.info.id t.info.id ≡ Less

same_window : (v : ℤ) (t : Tab) (e : Place × Tab) → v ≡ e.0.window → IsPlaced e → place_order (place_in v t) e.0 ≡ place_cmp t e.1
same_window v t e same placed = ap (place_order (place_in v t)) placed ∙ ap (λ o. ordering_then o (place_cmp t e.1)) (ap (int_cmp v) (sym same) ∙ tied_itself int_cmp_total v)

both_equal : (a b : Ordering) → ordering_then a b ≡ Equal → (a ≡ Equal) × (b ≡ Equal)
both_equal Less b e = absurd cc
both_equal Equal b e = (refl, e)
both_equal Greater b e = absurd cc

-- no other tab stands at a tab's place
alone : (v : ℤ) (t : Tab) (e : Place × Tab) → IsPlaced e → IsBefore t e.1 → place_order (place_in v t) e.0 ≡ Equal → ⊥
alone v t e placed before equal =
    let ids = both_equal (int_cmp t.index e.0.index) (int_cmp t.info.id e.0.id) (both_equal (int_cmp v e.0.window) _ equal).1 in
    let same : t.info.id ≡ e.1.info.id = exact_signed t.info.id e.0.id ids.1 ∙ ap (λ p. p.id) placed in
    let less : int_cmp e.1.info.id e.1.info.id ≡ Less = ap (int_cmp e.1.info.id) (sym same) ∙ before in
    let tied = tied_itself int_cmp_total e.1.info.id in
    absurd cc

same_if : (x y : ℤ) → int_eq x y ≡ true → x ≡ y
same_if x y e = by (int_cmp x y) refl e
  where
    by : (o : Ordering) → int_cmp x y ≡ o → is_eq o ≡ true → x ≡ y
    by Less is e = absurd cc
    by Equal is e = exact_signed x y is
    by Greater is e = absurd cc

-- a tab whose place is below all others of its window goes to the front
front : (w v : ℤ) (t : Tab) → int_eq v w ≡ true → (es : List (Place × Tab)) → AllByRecursion (λ p. place_order (place_in v t) p ≡ Less) (keys_of es) → AllByRecursion IsPlaced es
    → t ∷ values_of (entries_in w es) ≡ insert_by_place (values_of (entries_in w es)) t
front w v t own [] below placed = refl
front w v t own (e ∷ es) below placed = by (front w v t own es below.1 placed.1) (int_eq e.0.window w) refl
  where
    by : t ∷ values_of (entries_in w es) ≡ insert_by_place (values_of (entries_in w es)) t → (b : Bool) → int_eq e.0.window w ≡ b → t ∷ values_of (entries_in w (e ∷ es)) ≡ insert_by_place (values_of (entries_in w (e ∷ es))) t
    by rest true is =
        let less : place_cmp t e.1 ≡ Less = sym (same_window v t e (same_if v w own ∙ sym (same_if e.0.window w is)) placed.0) ∙ below.0 in
        rw (is, less) refl
    by rest false is = rw is rest

-- one more tab: it goes into its window's part, by its place there
pub put-entry : (w v : ℤ) (t : Tab) (es : List (Place × Tab)) → IsStrictlySortedBy place_order (keys_of es) → AllByRecursion IsPlaced es → AllByRecursion (λ e. IsBefore t e.1) es
    → values_of (entries_in w (insert_entry place_order es (place_in v t) t)) ≡ (if int_eq v w then insert_by_place (values_of (entries_in w es)) t else values_of (entries_in w es))
put-entry w v t [] sorted placed before = elim (int_eq v w) as (λ b. values_of (cond b ((place_in v t, t) ∷ []) []) ≡ cond b (t ∷ []) []) [ true ↦ refl | false ↦ refl ]
put-entry w v t (e ∷ es) sorted placed before =
    by (put-entry w v t es (sorted_tail place_order e.0 (keys_of es) sorted) placed.1 before.1) (place_order (place_in v t) e.0) refl (int_eq v w) refl (int_eq e.0.window w) refl
  where
    by : values_of (entries_in w (insert_entry place_order es (place_in v t) t)) ≡ (if int_eq v w then insert_by_place (values_of (entries_in w es)) t else values_of (entries_in w es))
        → (o : Ordering) → place_order (place_in v t) e.0 ≡ o → (own : Bool) → int_eq v w ≡ own → (other : Bool) → int_eq e.0.window w ≡ other
        → values_of (entries_in w (insert_entry place_order (e ∷ es) (place_in v t) t)) ≡ (if int_eq v w then insert_by_place (values_of (entries_in w (e ∷ es))) t else values_of (entries_in w (e ∷ es)))
    by rest Less is true own other at =
        rw (is, own) (front w v t own (e ∷ es) (is, below_all place_order place_order_total (place_in v t) e.0 (keys_of es) is (sorted_head place_order e.0 (keys_of es) sorted)) placed)
    by rest Less is false own other at = rw (is, own) refl
    by rest Equal is own at other at' = absurd (alone v t e placed.0 before.0 is)
    by rest Greater is true own true at =
        let greater : place_cmp t e.1 ≡ Greater = sym (same_window v t e (same_if v w own ∙ sym (same_if e.0.window w at)) placed.0) ∙ is in
        let rest' = rw own at rest in
        rw (is, own, at, greater) (ap (λ us. e.1 ∷ us) rest')
    by rest Greater is false own true at = let rest' = rw own at rest in rw (is, own, at) (ap (λ us. e.1 ∷ us) rest')
    by rest Greater is true own false at = let rest' = rw own at rest in rw (is, own, at) rest'
    by rest Greater is false own false at = let rest' = rw own at rest in rw (is, own, at) rest'

-- what is known of the entries while tabs are put in
pub record IsOrderly (es : List (Place × Tab)) (tabs : List Tab) : Type 0 where
  pub sorted : IsStrictlySortedBy place_order (keys_of es)
  pub placed : AllByRecursion IsPlaced es
  pub before : AllByRecursion (λ t. AllByRecursion (λ e. IsBefore t e.1) es) tabs

placed-insert : (v : ℤ) (t : Tab) (es : List (Place × Tab)) → AllByRecursion IsPlaced es → AllByRecursion (λ e. IsBefore t e.1) es → AllByRecursion IsPlaced (insert_entry place_order es (place_in v t) t)
placed-insert v t [] placed before = (refl, tt)
placed-insert v t (e ∷ es) placed before = by (placed-insert v t es placed.1 before.1) (place_order (place_in v t) e.0) refl
  where
    by : AllByRecursion IsPlaced (insert_entry place_order es (place_in v t) t) → (o : Ordering) → place_order (place_in v t) e.0 ≡ o → AllByRecursion IsPlaced (insert_entry place_order (e ∷ es) (place_in v t) t)
    by rest Less is = rw is (refl, placed)
    by rest Equal is = absurd (alone v t e placed.0 before.0 is)
    by rest Greater is = rw is (placed.0, rest)

before-insert : (v : ℤ) (t : Tab) (es : List (Place × Tab)) (us : List Tab) → AllByRecursion (λ id. int_cmp t.info.id id ≡ Less) (map tab_key us) → AllByRecursion (λ u. AllByRecursion (λ e. IsBefore u e.1) es) us
    → AllByRecursion (λ u. AllByRecursion (λ e. IsBefore u e.1) (insert_entry place_order es (place_in v t) t)) us
before-insert v t es [] first before = tt
before-insert v t es (u ∷ us) first before = (all-values place_order (IsBefore u) (place_in v t) t es first.0 before.0, before-insert v t es us first.1 before.1)

orderly-insert : (v : ℤ) (t : Tab) (es : List (Place × Tab)) (us : List Tab) → IsStrictlySortedBy int_cmp (map tab_key (t ∷ us)) → IsOrderly es (t ∷ us) → IsOrderly (insert_entry place_order es (place_in v t) t) us
orderly-insert v t es us rising o = record {
  sorted = sorted-insert place_order place_order_total (place_in v t) t es o.sorted;
  placed = placed-insert v t es o.placed o.before.0;
  before = before-insert v t es us (sorted_head int_cmp t.info.id (map tab_key us) rising) o.before.1;
}

-- the tabs of a window after some more were put in
entries-fold : (w : ℤ) (es : List (Place × Tab)) (tabs : List Tab) → IsStrictlySortedBy int_cmp (map tab_key tabs) → IsOrderly es tabs
    → values_of (entries_in w (fold put_shown es tabs)) ≡ fold insert_by_place (values_of (entries_in w es)) (filter (is_shown_in w) tabs)
entries-fold w es [] rising o = refl
entries-fold w es (t ∷ ts) rising o =
    let later = sorted_tail int_cmp t.info.id (map tab_key ts) rising in
    by (entries-fold w es ts later (record { sorted = o.sorted; placed = o.placed; before = o.before.1 }))
    (λ v. entries-fold w (insert_entry place_order es (place_in v t) t) ts later (orderly-insert v t es ts rising o)
    ∙ ap (λ us. fold insert_by_place us (filter (is_shown_in w) ts)) (put-entry w v t es o.sorted o.placed o.before.0)) t.window (has_page t.pages)
  where
    by : values_of (entries_in w (fold put_shown es ts)) ≡ fold insert_by_place (values_of (entries_in w es)) (filter (is_shown_in w) ts)
        → ((v : ℤ) → values_of (entries_in w (fold put_shown (insert_entry place_order es (place_in v t) t) ts))
        ≡ fold insert_by_place (if int_eq v w then insert_by_place (values_of (entries_in w es)) t else values_of (entries_in w es)) (filter (is_shown_in w) ts))
        → (own : Option ℤ) (page : Bool) → values_of (entries_in w (fold put_shown (put_in own page es t) ts))
        ≡ fold insert_by_place (values_of (entries_in w es)) (cond (is_in w own && page) (t ∷ filter (is_shown_in w) ts) (filter (is_shown_in w) ts))
    by rest put None page = rest
    by rest put (Some v) false = elim (int_eq v w) as (λ b. values_of (entries_in w (fold put_shown es ts)) ≡ fold insert_by_place (values_of (entries_in w es)) (cond (b && false) (t ∷ filter (is_shown_in w) ts) (filter (is_shown_in w) ts))) [ true ↦ rest | false ↦ rest ]
    by rest put (Some v) true =
        let step = put v in
        elim (int_eq v w) as (λ b. values_of (entries_in w (fold put_shown (insert_entry place_order es (place_in v t) t) ts)) ≡ fold insert_by_place (if b then insert_by_place (values_of (entries_in w es)) t else values_of (entries_in w es)) (filter (is_shown_in w) ts)
        → values_of (entries_in w (fold put_shown (insert_entry place_order es (place_in v t) t) ts)) ≡ fold insert_by_place (values_of (entries_in w es)) (cond (b && true) (t ∷ filter (is_shown_in w) ts) (filter (is_shown_in w) ts))) [ true ↦ λ h. h | false ↦ λ h. h ] step

before-none : (tabs : List Tab) → AllByRecursion (λ t. AllByRecursion (λ (e : Place × Tab). IsBefore t e.1) []) tabs
before-none [] = tt
before-none (t ∷ ts) = (tt, before-none ts)

none-orderly : (tabs : List Tab) → IsOrderly [] tabs
unfolding IsStrictlySortedBy
none-orderly tabs = record { sorted = tt; placed = tt; before = before-none tabs }

-- where ids rise, the tabs of a window are its shown ones, sorted
pub entries-shown : (w : ℤ) (tabs : List Tab) → IsStrictlySortedBy int_cmp (map tab_key tabs) → values_of (entries_in w (fold put_shown [] tabs)) ≡ shown_tabs w tabs
entries-shown w tabs rising = entries-fold w [] tabs rising (none-orderly tabs)

-- no more entries than tabs
length-put : (own : Option ℤ) (page : Bool) (es : List (Place × Tab)) (t : Tab) → length (put_in own page es t) ≤ suc (length es)
length-put None page es t = omega arith
length-put (Some v) true es t = length-insert place_order (place_in v t) t es
length-put (Some v) false es t = omega arith

pub length-fold : (es : List (Place × Tab)) (tabs : List Tab) → length (fold put_shown es tabs) ≤ length es + length tabs
length-fold es [] = omega arith
length-fold es (t ∷ ts) =
    let one = length-put t.window (has_page t.pages) es t in
    let rest = length-fold (put_shown es t) ts in
    omega arith

length-entries_in : (w : ℤ) (es : List (Place × Tab)) → length (values_of (entries_in w es)) ≤ length es
length-entries_in w [] = omega arith
length-entries_in w (e ∷ es) =
    let rest = length-entries_in w es in
    elim (int_eq e.0.window w) as (λ b. length (values_of (cond b (e ∷ entries_in w es) (entries_in w es))) ≤ length (e ∷ es)) [ true ↦ omega (arith, rest) | false ↦ omega (arith, rest) ]

-- no more tabs in a window than in all
pub few_in : {X : Type 0} (f : X → Tab) (xs : List X) (w : ℤ) (shown : Shown) → map f xs ≡ tabs_in w shown → length xs ≤ length shown.tabs.entries
few_in f xs w shown same =
    let all : length (entries_of shown.tabs.entries) ≡ length shown.tabs.entries = length-map shown.tabs.entries _ in
    let fewer = length-entries_in w (entries_of shown.tabs.entries) in
    let mapped = length-map xs f in
    omega (arith, ap length same)
