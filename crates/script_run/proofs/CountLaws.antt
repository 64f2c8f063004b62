-- A state's view shows fewer tabs than 64 bits count.
use Rattle.std.proofs.Common.{◌≡◌, ◌≤◌, ◌<◌, ◌+◌, ◌*◌, ◌^◌, suc, ℤ, Bool, true, false, cond, List, [], ◌∷◌, filter}
use Rattle.std.proofs.Common.{fold, length, refl, ap, arith}
use Rattle.std.proofs.lemmas.List.{length-map}
use Rattle.std.specs.declared.cmp.Ordering.{Ordering}
use Rattle.std.specs.declared.cmp.Ordering.TheVariants.{Less, Equal, Greater}
use Rattle.std.specs.Ordering.{match_ordering}
use Rattle.window_state.specs.declared.tab.Tab.{Tab}
use Rattle.window_state.specs.declared.window.Window.{Window}
use Rattle.window_state.specs.declared.view_parts.ViewWindow.{ViewWindow}
use Rattle.window_state.specs.Limits.{limit}
use Rattle.window_state.specs.States.{State, IsState}
use Rattle.window_state.specs.Views.{place_cmp, insert_by_place, is_shown_in, shown_tabs, view_tab, with_shown}
use Rattle.window_state.specs.Views.{view_windows, view}
use Rattle.script_run.specs.Counts.{tab_count}

length_filter : {X : Type 0} (p : X → Bool) (xs : List X) → length (filter p xs) ≤ length xs
length_filter p [] = omega arith
length_filter p (x ∷ xs) = let rest = length_filter p xs in elim (p x) as (λ b. length (cond b (x ∷ filter p xs)
    (filter p xs)) ≤ length (x ∷ xs)) [ true ↦ omega (arith, rest) | false ↦ omega (arith, rest) ]

length_placed : (o : Ordering) (us more : List Tab) (t u : Tab) → length more ≡ suc (length us)
    → length (match_ordering o (t ∷ u ∷ us) (t ∷ u ∷ us) (u ∷ more)) ≡ suc (suc (length us))
length_placed Less us more t u h = refl
length_placed Equal us more t u h = refl
length_placed Greater us more t u h = ap suc h

length_insert : (us : List Tab) (t : Tab) → length (insert_by_place us t) ≡ suc (length us)
length_insert [] t = refl
length_insert (u ∷ us) t = length_placed (place_cmp t u) us (insert_by_place us t) t u (length_insert us t)

length_sorted : (us ts : List Tab) → length (fold insert_by_place us ts) ≡ length us + length ts
length_sorted us [] = omega arith
length_sorted us (t ∷ ts) = omega (arith, length_sorted (insert_by_place us t) ts, length_insert us t)

-- no more tabs are shown in a window than there are
few_shown : (window : ℤ) (tabs : List Tab) → length (shown_tabs window tabs) ≤ length tabs
few_shown window tabs = omega (
  arith,
  length_sorted [] (filter (is_shown_in window) tabs),
  length_filter (is_shown_in
      window) tabs,
)

count_with : (w : Window) (ts : List Tab) (others : List ViewWindow) → tab_count (with_shown w ts others)
    ≤ length ts + tab_count others
count_with w [] others = omega arith
count_with w (t ∷ ts) others = omega (arith, length-map (t ∷ ts) view_tab)

count_windows : (tabs_of : ℤ → List Tab) → ((id : ℤ) → length (tabs_of id) ≤ limit) → (ws : List Window)
    → tab_count (view_windows tabs_of ws) ≤ length ws * 1048576
count_windows tabs_of few [] = omega arith
count_windows tabs_of few (w ∷ ws) =
    omega (
      arith,
      count_with w (tabs_of w.info.id) (view_windows tabs_of ws),
      few w.info.id,
      count_windows tabs_of few
          ws,
    )

pub few_tabs : (s : State) (ws : List ViewWindow) → IsState s → ws ≡ (view s).windows → tab_count ws < 2 ^ 64
few_tabs s ws is e =
    let most = count_windows (λ id. shown_tabs id s.tabs) (λ id. omega (arith, few_shown id s.tabs, is.kept.tabs))
    s.windows in
    omega (arith, ap tab_count e, most, is.kept.windows)
