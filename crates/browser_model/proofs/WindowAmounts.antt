-- What the tabs of all windows come to when a window is opened, closed or changed, and when a tab comes into one.
use Rattle.std.proofs.Common.{◌≡◌, ℕ, suc, ◌+◌, ◌≤◌, Bool, true, false, cond, ℤ, List, [], ◌∷◌, ◌++◌, map, length}
use Rattle.std.proofs.Common.{sum_by, Some, refl, sym, ap, subst, ◌∙◌, arith}
use Rattle.std.specs.declared.cmp.Ordering.{Ordering}
use Rattle.std.specs.declared.cmp.Ordering.TheVariants.{Less, Equal, Greater}
use Rattle.std.specs.Ordering.{int_cmp, is_eq, match_ordering}
use Rattle.std.specs.List.Sorted.{IsStrictlySortedBy}
use Rattle.std.proofs.lemmas.List.{length-append}
use Rattle.std.proofs.lemmas.List.Sums.{sum_by-cons, sum_by-append}
use Rattle.std.proofs.lemmas.Map.Keys.{sorted_tail}
use Rattle.window_state.specs.RowLists.{find_row, step_row, without_row, on_key}
use Rattle.window_state.proofs.IdLaws.{same_key}
use Rattle.browser_model.specs.Browsers.{BrowserWindow, BrowserTab, open_key}
use Rattle.browser_model.specs.Opening.{fresh_window}
use Rattle.browser_model.specs.Tabs.{tabs_of, with_tabs, put_at, put_in}
use Rattle.browser_model.proofs.AmountLaws.{all_tabs, sum-put_at}
use Rattle.browser_model.proofs.Splits.{InOrder, change-own}
use Rattle.browser_model.proofs.Turns.{map-map, map-agree}

-- windows under the same ids are in order as before
pub in-order-map : (change : BrowserWindow → BrowserWindow) → ((w : BrowserWindow) → open_key (change w) ≡ open_key w)
    → (ws : List BrowserWindow) → InOrder ws → InOrder (map change ws)
in-order-map change same ws sorted = subst (IsStrictlySortedBy int_cmp)
    (sym (map-map change open_key ws ∙ map-agree (λ w. open_key (change w)) open_key same ws)) sorted

pub on-window-key : (id : ℤ) (change : BrowserWindow → BrowserWindow)
    → ((w : BrowserWindow) → open_key (change w) ≡ open_key w) → (w : BrowserWindow)
    → open_key (on_key int_cmp open_key id change w) ≡ open_key w
on-window-key id change same w =
    elim (is_eq (int_cmp id (open_key w))) as (λ b. open_key (cond b (change w) w) ≡ open_key w)
    [ true ↦ same w | false ↦ refl ]

pub all-on_window : (id : ℤ) (change : BrowserWindow → BrowserWindow) → ((w : BrowserWindow) → (change w).tabs ≡ w.tabs)
    → (ws : List BrowserWindow) → all_tabs (map (on_key int_cmp open_key id change) ws) ≡ all_tabs ws
all-on_window id change same [] = refl
all-on_window id change same (w ∷ ws) =
    ap (λ ts. ts ++ all_tabs (map (on_key int_cmp open_key id change) ws))
    (elim (is_eq (int_cmp id (open_key w))) as (λ b. (cond b (change w) w).tabs ≡ w.tabs)
    [ true ↦ same w | false ↦ refl ])
    ∙ ap (λ ts. w.tabs ++ ts) (all-on_window id change same ws)

-- the tabs of one window are among those of all
pub few-tabs_of : (id : ℤ) (ws : List BrowserWindow) → length (tabs_of id ws) ≤ length (all_tabs ws)
few-tabs_of id [] = omega arith
few-tabs_of id (w ∷ ws) = by (few-tabs_of id ws) (is_eq (int_cmp id w.info.id)) refl
  where
    by : length (tabs_of id ws) ≤ length (all_tabs ws) → (b : Bool) → is_eq (int_cmp id w.info.id) ≡ b
        → length (tabs_of id (w ∷ ws)) ≤ length (all_tabs (w ∷ ws))
    by rest true e = rw e (let all = length-append w.tabs (all_tabs ws) in omega arith)
    by rest false e = rw e (let all = length-append w.tabs (all_tabs ws) in omega arith)

-- at most one window more
pub length-step : (id : ℤ) (fresh : BrowserWindow) (change : BrowserWindow → BrowserWindow) (ws : List BrowserWindow)
    → length (step_row int_cmp open_key id fresh change ws) ≤ suc (length ws)
length-step id fresh change [] = omega arith
length-step id fresh change (w ∷ ws) =
    let rest = length-step id fresh change ws in
    elim (int_cmp id (open_key w)) as (λ o. length (match_ordering o (change fresh ∷ w ∷ ws) (change w ∷ ws)
    (w ∷ step_row int_cmp open_key id fresh change ws)) ≤ suc (suc (length ws)))
    [ Less ↦ omega arith | Equal ↦ omega arith | Greater ↦ omega arith ]

-- a window that is opened has no tabs
pub all-opened : (id : ℤ) (ws : List BrowserWindow)
    → all_tabs (step_row int_cmp open_key id (fresh_window id) (λ w. w) ws) ≡ all_tabs ws
all-opened id [] = refl
all-opened id (w ∷ ws) =
    let rest = all-opened id ws in
    elim (int_cmp id (open_key w)) as (λ o. all_tabs (match_ordering o (fresh_window id ∷ w ∷ ws) (w ∷ ws)
    (w ∷ step_row int_cmp open_key id (fresh_window id) (λ v. v) ws)) ≡ w.tabs ++ all_tabs ws)
    [ Less ↦ refl | Equal ↦ refl | Greater ↦ ap (λ ts. w.tabs ++ ts) rest ]

-- a tab comes last into a window, or into a fresh one
abbrev with_last : ℤ → BrowserTab → List BrowserWindow → List BrowserWindow
with_last id t ws = step_row int_cmp open_key id (fresh_window id) (with_tabs (λ ts. ts ++ t ∷ [])) ws

module _ (f : BrowserTab → ℕ) where
  sum-windows : (w : BrowserWindow) (ws : List BrowserWindow)
      → sum_by f (all_tabs (w ∷ ws)) ≡ sum_by f w.tabs + sum_by f (all_tabs ws)
  sum-windows w ws = sum_by-append f w.tabs (all_tabs ws)

  pub sum-opened : (id : ℤ) (t : BrowserTab) (ws : List BrowserWindow)
      → sum_by f (all_tabs (with_last id t ws)) ≡ sum_by f (all_tabs ws) + f t
  sum-opened id t [] = let one = sum_by-cons f t [] in omega arith
  sum-opened id t (w ∷ ws) = by (sum-opened id t ws) (int_cmp id (open_key w)) refl
    where
      by : sum_by f (all_tabs (with_last id t ws)) ≡ sum_by f (all_tabs ws) + f t → (o : Ordering)
          → int_cmp id (open_key w) ≡ o → sum_by f (all_tabs (with_last id t (w ∷ ws)))
          ≡ sum_by f (all_tabs (w ∷ ws)) + f t
      by rest Less e = rw e (let first = sum_by-cons f t (all_tabs (w ∷ ws)) in omega arith)
      by rest Equal e =
          let own = sum_by-append f w.tabs (t ∷ []) in
          let one = sum_by-cons f t [] in
          let new = sum_by-append f (w.tabs ++ t ∷ []) (all_tabs ws) in
          let old = sum-windows w ws in
          rw e (omega arith)
      by rest Greater e =
          let new = sum-windows w (with_last id t ws) in
          let old = sum-windows w ws in
          rw e (omega arith)

  -- the tabs of a window go with it
  pub sum-without : (id : ℤ) (ws : List BrowserWindow) (w : BrowserWindow) → find_row int_cmp open_key id ws ≡ Some w
      → sum_by f (all_tabs (without_row int_cmp open_key id ws)) + sum_by f w.tabs ≡ sum_by f (all_tabs ws)
  sum-without id [] w found = absurd cc
  sum-without id (v ∷ vs) w found = by (sum-without id vs w) (is_eq (int_cmp id v.info.id)) refl
    where
      by : (find_row int_cmp open_key id vs ≡ Some w
          → sum_by f (all_tabs (without_row int_cmp open_key id vs)) + sum_by f w.tabs ≡ sum_by f (all_tabs vs))
          → (b : Bool) → is_eq (int_cmp id v.info.id) ≡ b
          → sum_by f (all_tabs (without_row int_cmp open_key id (v ∷ vs))) + sum_by f w.tabs
          ≡ sum_by f (all_tabs (v ∷ vs))
      by rest true e =
          let here : Some v ≡ Some w = rw e at found in
          let is : v ≡ w = cc in
          let same : sum_by f v.tabs ≡ sum_by f w.tabs = ap (λ (x : BrowserWindow). sum_by f x.tabs) is in
          let all = sum-windows v vs in
          rw e (omega arith)
      by rest false e =
          let later = rest (rw e at found) in
          let new = sum-windows v (without_row int_cmp open_key id vs) in
          let old = sum-windows v vs in
          rw e (omega arith)

  -- a tab comes to a place of a window
  pub sum-put_in : (window : ℤ) (place : ℕ) (t : BrowserTab) (ws : List BrowserWindow) → InOrder ws
      → sum_by f (all_tabs (put_in window place t ws)) ≤ sum_by f (all_tabs ws) + f t
  sum-put_in window place t [] sorted = omega arith
  sum-put_in window place t (w ∷ ws) sorted =
      by (sum-put_in window place t ws (sorted_tail int_cmp w.info.id (map open_key ws) sorted))
      (is_eq (int_cmp window w.info.id)) refl
    where
      by : sum_by f (all_tabs (put_in window place t ws)) ≤ sum_by f (all_tabs ws) + f t → (b : Bool)
          → is_eq (int_cmp window w.info.id) ≡ b
          → sum_by f (all_tabs (put_in window place t (w ∷ ws))) ≤ sum_by f (all_tabs (w ∷ ws)) + f t
      by rest true e =
          let is = same_key window w.info.id e in
          let put : put_in window place t (w ∷ ws) ≡ with_tabs (put_at place t) w ∷ ws =
          ap (λ id. put_in id place t (w ∷ ws)) is ∙ change-own (with_tabs (put_at place t)) [] w ws sorted in
          let own = sum-put_at f place t w.tabs in
          let new = sum-windows (with_tabs (put_at place t) w) ws in
          let old = sum-windows w ws in
          subst (λ vs. sum_by f (all_tabs vs) ≤ sum_by f (all_tabs (w ∷ ws)) + f t) (sym put) (omega arith)
      by rest false e =
          let new = sum-windows w (put_in window place t ws) in
          let old = sum-windows w ws in
          rw e (omega arith)
