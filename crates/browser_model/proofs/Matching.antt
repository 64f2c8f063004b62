-- What follows from a match: one stand at most under an id, and what a change of a match needs.
use Rattle.std.proofs.Common.{◌≡◌, nat_le, ◌&&◌, Bool, true, false, cond, is_some, ℤ, List, [], ◌∷◌, ◌++◌, map, length}
use Rattle.std.proofs.Common.{Some, refl, sym, ap, subst, ◌∙◌, arith}
use Rattle.std.specs.Ordering.{int_cmp, is_eq}
use Rattle.std.specs.Cmp.{int_cmp_total}
use Rattle.std.specs.List.Sorted.{IsStrictlySortedBy}
use Rattle.std.proofs.lemmas.Map.Lookups.{exact_signed}
use Rattle.std.proofs.lemmas.List.Elements.{filter-append}
use Rattle.std.proofs.lemmas.Bool.Decides.{nat_tests}
use Rattle.window_state.specs.declared.tab.Tab.{Tab}
use Rattle.window_state.specs.Keys.{tab_key, window_key}
use Rattle.window_state.specs.Limits.{limit}
use Rattle.window_state.specs.RowLists.{find_row, without_row, only}
use Rattle.window_state.specs.States.{State, tab_closed}
use Rattle.window_state.specs.TabLists.{Same, under, AtMostOne}
use Rattle.window_state.proofs.RowLaws.{length-without}
use Rattle.window_state.proofs.OnlyLaws.{only-seen, find-only, only-some, only-none, alone, only-gone, only-kept}
use Rattle.window_state.proofs.IdLaws.{equals_itself, same_key}
use Rattle.window_state.proofs.OrderLaws.{sorted-without}
use Rattle.browser_model.specs.Browsers.{Browser, BrowserWindow, BrowserTab, Stand, own_id, open_key, stand_key, row_of}
use Rattle.browser_model.specs.Browsers.{all_stands, rows, window_row, Matches}
use Rattle.browser_model.specs.Tabs.{stand_of, with_tabs}
use Rattle.browser_model.specs.Running.{IsRunning}
use Rattle.browser_model.proofs.Turns.{map-map, map-agree}
use Rattle.browser_model.proofs.Renumber.{AllHave}
use Rattle.browser_model.proofs.Splits.{InOrder}

-- one row at most under an id
pub at-most-one : (s : State) (b : Browser) → IsRunning s → Matches s b → (id : ℤ)
    → AtMostOne (under id (rows b.windows))
at-most-one s b r m id = subst AtMostOne (m.tabs id) (by (under id s.tabs) refl)
  where
    by : (xs : List Tab) → under id s.tabs ≡ xs → AtMostOne (under id s.tabs)
    by [] is = rw is tt
    by (x ∷ xs) is = rw is (alone int_cmp tab_key int_cmp_total exact_signed id x xs s.tabs r.tabs is)

pub one-stand : (s : State) (b : Browser) (id : ℤ) (st : Stand) → IsRunning s → Matches s b → stand_of id b ≡ Some st
    → only int_cmp stand_key id (all_stands b.windows) ≡ st ∷ []
one-stand s b id st r m found =
    let some = only-some int_cmp stand_key id (all_stands b.windows) (rw found refl) in
    let again = find-only int_cmp stand_key id some.0 some.1 (all_stands b.windows) some.2 in
    let found' : Some some.0 ≡ Some st = sym again ∙ found in
    let first : some.0 ≡ st = cc in
    let seen : under id (rows b.windows) ≡ map row_of (some.0 ∷ some.1) =
    only-seen int_cmp stand_key tab_key row_of (λ x. refl) id (all_stands b.windows) ∙ ap (map row_of) some.2 in
    let single : AtMostOne (map row_of (some.0 ∷ some.1)) = subst AtMostOne seen (at-most-one s b r m id) in
    some.2 ∙ ap (λ x. x ∷ some.1) first ∙ ap (λ xs. st ∷ xs) (none some.1 single)
  where
    none : (xs : List Stand) → map row_of xs ≡ [] → xs ≡ []
    none [] e = refl
    none (x ∷ xs) e = absurd cc

pub in-order : (s : State) (b : Browser) → IsRunning s → Matches s b → InOrder b.windows
in-order s b r m = subst (IsStrictlySortedBy int_cmp)
    (ap (map window_key) m.windows ∙ map-map window_row window_key b.windows
    ∙ map-agree (λ w. window_key (window_row w)) open_key (λ w. refl) b.windows) r.windows

pub same-windows : (change : List BrowserTab → List BrowserTab) (ws : List BrowserWindow)
    → map window_row (map (with_tabs change) ws) ≡ map window_row ws
same-windows change ws = map-map (with_tabs change) window_row ws
    ∙ map-agree (λ w. window_row (with_tabs change w)) window_row (λ w. refl) ws

-- what stands is found
pub stands-under : (id : ℤ) (xs : List Tab) → (under id xs ≡ [] → ⊥) → is_some (find_row int_cmp tab_key id xs) ≡ true
stands-under id xs some = by (is_some (find_row int_cmp tab_key id xs)) refl
  where
    by : (b : Bool) → is_some (find_row int_cmp tab_key id xs) ≡ b → is_some (find_row int_cmp tab_key id xs) ≡ true
    by true e = e
    by false e = absurd (some (only-none int_cmp tab_key id xs e))

pub all-have : (has : ℤ → Type 0) (us : List BrowserTab) → ((id : ℤ) → (only int_cmp own_id id us ≡ [] → ⊥) → has id)
    → AllHave has us
all-have has [] h = tt
all-have has (u ∷ us) h = (
  h u.info.id (λ none. let none' : u ∷ only int_cmp own_id u.info.id us ≡ [] = rw (equals_itself u.info.id) at none in
      absurd cc),
  all-have has us (λ id some. h id (λ none. some (rest id (is_eq (int_cmp id u.info.id)) refl none))),
)
  where
    rest : (id : ℤ) (b : Bool) → is_eq (int_cmp id u.info.id) ≡ b → only int_cmp own_id id (u ∷ us) ≡ []
        → only int_cmp own_id id us ≡ []
    rest id true e none = let none' : u ∷ only int_cmp own_id id us ≡ [] = rw e at none in absurd cc
    rest id false e none = rw e at none

pub under-append : (id : ℤ) (xs ys : List Tab) → under id (xs ++ ys) ≡ under id xs ++ under id ys
under-append id xs ys = filter-append (λ t. is_eq (int_cmp id (tab_key t))) xs ys

pub empty-both : {X : Type 0} (xs ys : List X) → xs ++ ys ≡ [] → (xs ≡ []) × (ys ≡ [])
empty-both [] ys h = (refl, h)
empty-both (z ∷ xs) ys h = absurd cc

-- without one of them there is still one at most
pub fewer : (id : ℤ) (a : List Tab) (r : Tab) (c : List Tab) → AtMostOne (under id (a ++ r ∷ c))
    → AtMostOne (under id (a ++ c))
fewer id a r c one = by (is_eq (int_cmp id (tab_key r))) refl
  where
    cut : (p q : List Tab) → AtMostOne (p ++ r ∷ q) → AtMostOne (p ++ q)
    cut [] q h = subst AtMostOne (sym h) tt
    cut (x ∷ p) q h = absurd (no p h)
      where
        no : (p : List Tab) → p ++ r ∷ q ≡ [] → ⊥
        no [] h = absurd cc
        no (y ∷ p) h = absurd cc

    by : (b : Bool) → is_eq (int_cmp id (tab_key r)) ≡ b → AtMostOne (under id (a ++ c))
    by true e =
        let one' : AtMostOne (under id a ++ r ∷ under id c) = rw (under-append id a (r ∷ c), e) at one in
        subst AtMostOne (sym (under-append id a c)) (cut (under id a) (under id c) one')
    by false e =
        let one' : AtMostOne (under id a ++ under id c) = rw (under-append id a (r ∷ c), e) at one in
        subst AtMostOne (sym (under-append id a c)) one'

-- a row that goes from a list in order, and from one with the same rows
pub without-same : (id : ℤ) (xs a : List Tab) (r : Tab) (c : List Tab) → IsStrictlySortedBy int_cmp (map tab_key xs)
    → Same xs (a ++ r ∷ c) → id ≡ tab_key r → under id (a ++ c) ≡ [] → Same (without_row int_cmp tab_key id xs) (a ++ c)
without-same id xs a r c sorted same own none q = by (is_eq (int_cmp q id)) refl
  where
    by : (b : Bool) → is_eq (int_cmp q id) ≡ b → under q (without_row int_cmp tab_key id xs) ≡ under q (a ++ c)
    by true e =
        let is = same_key q id e in
        subst (λ j. under j (without_row int_cmp tab_key id xs) ≡ under j (a ++ c)) (sym is)
        (only-gone int_cmp tab_key int_cmp_total exact_signed id xs sorted ∙ sym none)
    by false e =
        let other : is_eq (int_cmp q (tab_key r)) ≡ false = rw (sym own) e in
        let out : under q (a ++ r ∷ c) ≡ under q (a ++ c) = under-append q a (r ∷ c)
        ∙ ap (λ b. under q a ++ cond b (r ∷ under q c) (under q c)) other ∙ sym (under-append q a c) in
        only-kept int_cmp tab_key int_cmp_total exact_signed q id xs e ∙ same q ∙ out

pub running-closed : (id : ℤ) (s : State) → IsRunning s → IsRunning (tab_closed id s)
running-closed id s r = record {
  tabs = sorted-without int_cmp tab_key id s.tabs r.tabs;
  windows = r.windows;
  within =
      let fewer = length-without int_cmp tab_key id s.tabs in
      let e = r.within in
      let few : nat_le (length s.tabs) limit ≡ true =
      first (nat_le (length s.tabs) limit) (nat_le (length s.windows) limit) e in
      let small : nat_le (length (without_row int_cmp tab_key id s.tabs)) limit ≡ true = grind (arith, nat_tests) in
      let wide : nat_le (length s.windows) limit ≡ true =
      second (nat_le (length s.tabs) limit) (nat_le (length s.windows) limit) e in
      rw (small, wide) refl;
}
  where
    first : (a b : Bool) → (a && b) ≡ true → a ≡ true
    first true b e = refl
    first false b e = absurd cc

    second : (a b : Bool) → (a && b) ≡ true → b ≡ true
    second true b e = e
    second false b e = absurd cc
