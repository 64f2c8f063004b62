-- What holds of each row holds of one that is found.
use Rattle.std.proofs.Common.{◌≡◌, ℤ, Bool, true, false, List, [], ◌∷◌, Option, Some, sym, ap, subst, refl, ◌∙◌}
use Rattle.std.specs.Prelude.{Result, Ok, Err, IfOk}
use Rattle.std.specs.List.{AllByRecursion}
use Rattle.std.specs.Ordering.{int_cmp, is_eq}
use lib.IntN.{nat_abs}
use Rattle.std.specs.declared.cmp.Ordering.{Ordering}
use Rattle.window_state.specs.declared.tab.Tab.{Tab}
use Rattle.window_state.specs.Keys.{tab_key}
use Rattle.window_state.specs.RowLists.{find_row}
use Rattle.browser_driver.specs.Seats.{IsSeat, AreInSeats, HasSeat}

pub of-row : {K R : Type 0} (P : R → Type 0) (cmp : K → K → Ordering) (key : R → K) (k : K) (r : R) (rows : List R)
    → find_row cmp key k rows ≡ Some r → AllByRecursion P rows → P r
of-row P cmp key k r [] found all = absurd cc
of-row P cmp key k r (x ∷ rows) found all = by (of-row P cmp key k r rows) (is_eq (cmp k (key x))) refl
  where
    by : (find_row cmp key k rows ≡ Some r → AllByRecursion P rows → P r) → (b : Bool) → is_eq (cmp k (key x)) ≡ b → P r
    by rest true e =
        let found' : Some x ≡ Some r = rw e at found in
        let same : x ≡ r = cc in
        subst P same all.0
    by rest false e = rest (rw e at found) all.1

-- the seat of a tab that is found
pub seat-here : (tabs : List Tab) (orders : List (ℤ × List ℤ)) (id : ℤ) (t : Tab) (window : ℤ) → AreInSeats tabs orders
    → find_row int_cmp tab_key id tabs ≡ Some t → t.window ≡ Some window
    → HasSeat id tabs orders window (nat_abs t.index)
seat-here tabs orders id t window seats found window_is =
    let seat = seats id t found in
    let both : Some seat.0 ≡ Some window = sym seat.2.window_is ∙ window_is in
    let same : seat.0 ≡ window = cc in
    let place : seat.1 ≡ nat_abs t.index = sym (ap nat_abs seat.2.index_is) in
    (t, found, subst (λ n. IsSeat orders t window n) place (subst (λ w. IsSeat orders t w seat.1) same seat.2))

-- what a call answers where it succeeds has what its value has
pub ok-along : {A E : Type 0} (P : A → Type 0) (r : Result A E) (x : A) → IfOk r (λ y. y ≡ x) → P x → IfOk r P
ok-along P (Ok y) x is h = subst P (sym is) h
ok-along P (Err e) x is h = tt

-- the row that a look-up shows, where it shows one
pub shown-row : (tabs rows : List Tab) (id : ℤ) (t : Tab) (o : Option Tab) → o ≡ Some t
    → o ≡ find_row int_cmp tab_key id rows → rows ≡ tabs → find_row int_cmp tab_key id tabs ≡ Some t
shown-row tabs rows id t o is here same =
    sym (sym is ∙ here ∙ ap (λ ts. find_row int_cmp tab_key id ts) same)
