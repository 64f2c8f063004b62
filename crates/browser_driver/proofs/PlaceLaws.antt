-- One more tab is told its place.
use Rattle.std.proofs.Common.{◌≡◌, ℕ, suc, ◌+◌, ℤ, pos, List, [], ◌∷◌, drop, refl, ap, arith}
use Rattle.std.specs.Ordering.{int_cmp}
use Rattle.window_state.specs.declared.change.TabEdit.TheVariants.{Index}
use Rattle.window_state.specs.declared.tab.Tab.{Tab}
use Rattle.window_state.specs.Changes.{edited_tab}
use Rattle.window_state.specs.Keys.{tab_key}
use Rattle.window_state.specs.RowLists.{on_key}
use Rattle.window_state.specs.States.{State}
use Rattle.browser_model.proofs.Turns.{map-map, map-same}
use Rattle.browser_driver.specs.Places.{placed_from, with_places}
use Rattle.browser_driver.specs.Plans.{with_edit}

pub placed-more : (p i : ℕ) (ids : List ℤ) (e : ℤ) (old new : State) → drop i ids ≡ e ∷ drop (i + 1) ids
    → new ≡ with_edit e (Index (pos p)) old
    → with_places (p + 1) (drop (i + 1) ids) new ≡ with_places p (drop i ids) old
placed-more p i ids e old new first edited =
    let next : p + 1 ≡ suc p = omega arith in
    rw (edited, next, first) (ap (λ tabs. record old { tabs = tabs })
    (map-map (on_key int_cmp tab_key e (edited_tab (Index (pos p)))) (placed_from (suc p) (drop (i + 1) ids)) old.tabs))

pub placed-all : (p : ℕ) (ids : List ℤ) (s : State) → ids ≡ [] → with_places p ids s ≡ s
placed-all p ids s none =
    rw none (ap (λ tabs. record s { tabs = tabs }) (map-same (λ (t : Tab). t) (λ t. refl) s.tabs))
