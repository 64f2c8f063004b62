-- What the shown tabs of all windows come to by a measure of one tab: no more than all tabs do.
use Rattle.std.proofs.Common.{◌≡◌, ℕ, ◌+◌, ◌≤◌, ◌^◌, Bool, true, false, cond, ◌&&◌, ℤ, pos, ◌+ℤ◌, ◌≤ℤ◌}
use Rattle.std.proofs.Common.{List, [], ◌∷◌, map, filter, fold, flat_map, length, sum_by, Option, Some, None, refl, ap}
use Rattle.std.proofs.Common.{◌∙◌, arith}
use Rattle.std.specs.declared.cmp.Ordering.TheVariants.{Less, Equal, Greater}
use Rattle.std.specs.Ordering.{int_cmp, match_ordering}
use Rattle.std.specs.List.{AllByRecursion}
use Rattle.std.specs.List.Sorted.{IsStrictlySortedBy}
use Rattle.std.proofs.lemmas.Int.{ints}
use Rattle.std.proofs.lemmas.List.Sums.{sum_by-cons, sum_by-append}
use Rattle.std.proofs.lemmas.Map.Keys.{sorted_head, sorted_tail}
use Rattle.navigation_entry.specs.declared.navigation.Navigation.{Navigation}
use Rattle.tab_pages.specs.PageLists.{IsRising, has_page}
use Rattle.tab_pages.specs.Ranges.{IsPageInRange}
use Rattle.window_state.specs.declared.tab.Tab.{Tab}
use Rattle.window_state.specs.declared.window.Window.{Window}
use Rattle.window_state.specs.Keys.{window_key}
use Rattle.window_state.specs.States.{is_in}
use Rattle.window_state.specs.Views.{is_shown_in, place_cmp, insert_by_place, shown_tabs}
use Rattle.window_state.proofs.IdLaws.{same_key}
use Rattle.browser_model.proofs.TidyAll.{each_of}

module _ (f : Tab → ℕ) where
  -- tabs in another order come to the same
  sum-insert : (us : List Tab) (t : Tab) → sum_by f (insert_by_place us t) ≡ sum_by f us + f t
  sum-insert [] t = let one = sum_by-cons f t [] in omega arith
  sum-insert (u ∷ us) t =
      let rest = sum-insert us t in
      let both = sum_by-cons f t (u ∷ us) in
      let old = sum_by-cons f u us in
      let new = sum_by-cons f u (insert_by_place us t) in
      elim (place_cmp t u) as (λ o. sum_by f (match_ordering o (t ∷ u ∷ us) (t ∷ u ∷ us) (u ∷ insert_by_place us t))
      ≡ sum_by f (u ∷ us) + f t) [ Less ↦ omega arith | Equal ↦ omega arith | Greater ↦ omega arith ]

  sum-sorted : (done xs : List Tab) → sum_by f (fold insert_by_place done xs) ≡ sum_by f done + sum_by f xs
  sum-sorted done [] = omega arith
  sum-sorted done (x ∷ xs) =
      let rest = sum-sorted (insert_by_place done x) xs in
      let here = sum-insert done x in
      let all = sum_by-cons f x xs in
      omega arith

  -- one tab, by the windows in which it is shown: by one at most
  abbrev shown_once : Tab → List Window → ℕ
  shown_once t [] = 0
  shown_once t (w ∷ ws) = cond (is_shown_in w.info.id t) (f t) 0 + shown_once t ws

  none-later : (own : ℤ) (t : Tab) → t.window ≡ Some own → (ws : List Window)
      → AllByRecursion (λ y. int_cmp own y ≡ Less) (map window_key ws) → shown_once t ws ≡ 0
  none-later own t is [] all = refl
  none-later own t is (w ∷ ws) all =
      let rest = none-later own t is ws all.1 in
      let apart : is_in w.info.id (Some own) ≡ false = rw all.0 refl in
      let unseen : is_shown_in w.info.id t ≡ false =
      ap (λ o. is_in w.info.id o && has_page t.pages) is ∙ ap (λ b. b && has_page t.pages) apart in
      rw (unseen, rest) refl

  one-shown : (t : Tab) (ws : List Window) → IsStrictlySortedBy int_cmp (map window_key ws) → shown_once t ws ≤ f t
  one-shown t [] sorted = omega arith
  one-shown t (w ∷ ws) sorted =
      by (one-shown t ws (sorted_tail int_cmp w.info.id (map window_key ws) sorted)) (is_shown_in w.info.id t) refl
    where
      own : (o : Option ℤ) → (is_in w.info.id o && has_page t.pages) ≡ true → o ≡ Some w.info.id
      own None e = absurd cc
      own (Some v) e = ap Some (same_key v w.info.id (both (is_in w.info.id (Some v)) e))
        where
          both : (a : Bool) → (a && has_page t.pages) ≡ true → a ≡ true
          both true e = refl
          both false e = absurd cc

      by : shown_once t ws ≤ f t → (b : Bool) → is_shown_in w.info.id t ≡ b → shown_once t (w ∷ ws) ≤ f t
      by rest true e =
          let none = none-later w.info.id t (own t.window e) ws
          (sorted_head int_cmp w.info.id (map window_key ws) sorted) in
          rw e (omega arith)
      by rest false e = rw e (omega arith)

  -- the shown tabs of all windows, as they come
  abbrev unsorted : List Tab → List Window → List Tab
  unsorted tabs ws = flat_map (λ w. filter (is_shown_in w.info.id) tabs) ws

  sum-each : (tabs : List Tab) (ws : List Window)
      → sum_by f (each_of (λ id. shown_tabs id tabs) ws) ≡ sum_by f (unsorted tabs ws)
  sum-each tabs [] = refl
  sum-each tabs (w ∷ ws) =
      let here = sum-sorted [] (filter (is_shown_in w.info.id) tabs) in
      let rest = sum-each tabs ws in
      let sorted = sum_by-append f (shown_tabs w.info.id tabs) (each_of (λ id. shown_tabs id tabs) ws) in
      let plain = sum_by-append f (filter (is_shown_in w.info.id) tabs) (unsorted tabs ws) in
      omega arith

  none-shown : (ws : List Window) → sum_by f (unsorted [] ws) ≡ 0
  none-shown [] = refl
  none-shown (w ∷ ws) = none-shown ws

  sum-more : (t : Tab) (ts : List Tab) (ws : List Window)
      → sum_by f (unsorted (t ∷ ts) ws) ≡ shown_once t ws + sum_by f (unsorted ts ws)
  sum-more t ts [] = omega arith
  sum-more t ts (w ∷ ws) =
      let rest = sum-more t ts ws in
      let new = sum_by-append f (filter (is_shown_in w.info.id) (t ∷ ts)) (unsorted (t ∷ ts) ws) in
      let old = sum_by-append f (filter (is_shown_in w.info.id) ts) (unsorted ts ws) in
      let one = kept (is_shown_in w.info.id t) in
      omega arith
    where
      kept : (b : Bool) → sum_by f (cond b (t ∷ filter (is_shown_in w.info.id) ts) (filter (is_shown_in w.info.id) ts))
          ≡ cond b (f t) 0 + sum_by f (filter (is_shown_in w.info.id) ts)
      kept true = sum_by-cons f t (filter (is_shown_in w.info.id) ts)
      kept false = omega arith

  sum-unsorted : (tabs : List Tab) (ws : List Window) → IsStrictlySortedBy int_cmp (map window_key ws)
      → sum_by f (unsorted tabs ws) ≤ sum_by f tabs
  sum-unsorted [] ws sorted = let none = none-shown ws in omega arith
  sum-unsorted (t ∷ ts) ws sorted =
      let rest = sum-unsorted ts ws sorted in
      let more = sum-more t ts ws in
      let one = one-shown t ws sorted in
      let all = sum_by-cons f t ts in
      omega arith

  pub sum-shown : (tabs : List Tab) (ws : List Window) → IsStrictlySortedBy int_cmp (map window_key ws)
      → sum_by f (each_of (λ id. shown_tabs id tabs) ws) ≤ sum_by f tabs
  sum-shown tabs ws sorted =
      let same = sum-each tabs ws in
      let few = sum-unsorted tabs ws sorted in
      omega arith

-- a tab's pages are few, since their indices rise and are numbers of 32 bits
few-from : (least : ℤ) (pages : List (ℤ × Navigation)) → IsRising least pages → AllByRecursion IsPageInRange pages
    → least ≤ℤ pos 2147483648 → (least +ℤ pos (length pages)) ≤ℤ pos 2147483648
few-from least [] rising ranged low = omega (arith, ints)
few-from least (page ∷ pages) rising ranged low =
    let here = rising.0 in
    let fits = ranged.0.0 in
    let rest = few-from (page.0 +ℤ pos 1) pages rising.1 ranged.1 (omega (arith, ints)) in
    omega (arith, ints)

pub few-pages : (pages : List (ℤ × Navigation)) → IsRising (pos 0) pages → AllByRecursion IsPageInRange pages
    → length pages ≤ 2 ^ 31
few-pages pages rising ranged =
    let all = few-from (pos 0) pages rising ranged (omega (arith, ints)) in
    omega (arith, ints)
