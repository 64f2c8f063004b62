-- Every change of a browser leaves it with no more windows and tabs than there may be, and with distinct ids; and how
-- many pages go and come.
use Rattle.std.proofs.Common.{◌≡◌, ℕ, ◌+◌, ◌<◌, ◌≤◌, Bool, true, false, cond, is_some, ℤ, List, [], ◌∷◌, ◌++◌, map}
use Rattle.std.proofs.Common.{filter, length, sum_by, Some, None, refl, sym, ap, subst, ◌∙◌, arith}
use Rattle.std.specs.Ordering.{int_cmp, is_eq}
use Rattle.std.specs.Cmp.{int_cmp_total}
use Rattle.std.proofs.lemmas.List.{length-map}
use Rattle.std.proofs.lemmas.List.Sums.{sum_by-cons}
use Rattle.std.proofs.lemmas.Map.Lookups.{exact_signed}
use Rattle.window_state.specs.Limits.{limit}
use Rattle.window_state.specs.RowLists.{find_row, step_row, without_row, only, on_key}
use Rattle.window_state.proofs.IdLaws.{same_key}
use Rattle.window_state.proofs.OnlyLaws.{only-none, step-map}
use Rattle.window_state.proofs.OrderLaws.{sorted-step, sorted-without}
use Rattle.window_state.proofs.RowLaws.{length-without}
use Rattle.browser_model.specs.Amounts.{pages_in, HasFew, HasDistinctIds}
use Rattle.browser_model.specs.Browsers.{Browser, BrowserWindow, BrowserTab, Stand, own_id, open_key, stand_key}
use Rattle.browser_model.specs.Browsers.{all_stands}
use Rattle.browser_model.specs.Opening.{fresh_tab, fresh_window, opened_tab, opened_window}
use Rattle.browser_model.specs.Moving.{moved_tab}
use Rattle.browser_model.specs.OneWindow.{on_window}
use Rattle.browser_model.specs.Tabs.{stand_of, put_tab, put_in, put_at, taken_out, is_other, with_tabs}
use Rattle.browser_model.proofs.AmountLaws.{all_tabs, page_count, one-each, sum-stands, length-stands, count_under}
use Rattle.browser_model.proofs.AmountLaws.{count-stands}
use Rattle.browser_model.proofs.AmountLaws.{found-tab, found-key, sum-others, sum-put, all-map, all-filter}
use Rattle.browser_model.proofs.WindowAmounts.{in-order-map, on-window-key, all-on_window, length-step, all-opened}
use Rattle.browser_model.proofs.WindowAmounts.{sum-opened, sum-without, sum-put_in}
use Rattle.browser_model.proofs.Splits.{InOrder}

-- after a change of a browser so many pages went, and so many came
pub record KeepsFew (b c : Browser) (gone come : ℕ) : Type 0 where
  pub few : HasFew c
  pub distinct : HasDistinctIds c
  pub pages : pages_in c + gone ≤ pages_in b + come

-- the same by measures of the tabs of all windows
record IsWithin (ws : List BrowserWindow) : Type 0 where
  windows : length ws ≤ limit
  ordered : InOrder ws
  tabs : sum_by (λ (t : BrowserTab). 1) (all_tabs ws) ≤ limit
  ids : (id : ℤ) → sum_by (count_under id) (all_tabs ws) ≤ 1

within : (b : Browser) → HasFew b → HasDistinctIds b → IsWithin b.windows
within b few distinct = record {
  windows = few.windows;
  ordered = distinct.windows;
  tabs = subst (λ n. n ≤ limit) (length-stands b.windows ∙ sym (one-each (all_tabs b.windows))) few.tabs;
  ids = λ id. subst (λ n. n ≤ 1) (count-stands id b.windows) (distinct.tabs id);
}

keeps : (b c : Browser) (gone come : ℕ) → IsWithin c.windows
    → sum_by page_count (all_tabs c.windows) + gone ≤ sum_by page_count (all_tabs b.windows) + come
    → KeepsFew b c gone come
keeps b c gone come w pages = record {
  few = record {
    windows = w.windows;
    tabs = subst (λ n. n ≤ limit) (one-each (all_tabs c.windows) ∙ sym (length-stands c.windows)) w.tabs;
  };
  distinct = record {
    windows = w.ordered;
    tabs = λ id. subst (λ n. n ≤ 1) (sym (count-stands id c.windows)) (w.ids id);
  };
  pages =
      let before = sum-stands page_count b.windows in
      let after = sum-stands page_count c.windows in
      omega arith;
}

-- tabs go and come, and what comes counts no more than what goes but for its pages
keeps-tabs : (b c : Browser) (ws : List BrowserWindow) (gone come : List BrowserTab) → IsWithin b.windows
    → c.windows ≡ ws → length ws ≤ limit → InOrder ws
    → ((f : BrowserTab → ℕ) → sum_by f (all_tabs ws) + sum_by f gone ≤ sum_by f (all_tabs b.windows) + sum_by f come)
    → length come ≤ length gone → ((id : ℤ) → sum_by (count_under id) come ≤ sum_by (count_under id) gone)
    → KeepsFew b c (sum_by page_count gone) (sum_by page_count come)
keeps-tabs b c ws gone come w is windows ordered moved fewer same =
    let new : IsWithin ws = record {
      windows = windows;
      ordered = ordered;
      tabs =
          let all = moved (λ t. 1) in
          let old = w.tabs in
          let went = one-each gone in
          let came = one-each come in
          omega arith;
      ids = λ id. let all = moved (count_under id) in let old = w.ids id in let less = same id in omega arith;
    } in
    keeps b c (sum_by page_count gone) (sum_by page_count come) (subst IsWithin (sym is) new)
    (subst (λ vs. sum_by page_count (all_tabs vs) + sum_by page_count gone
    ≤ sum_by page_count (all_tabs b.windows) + sum_by page_count come) (sym is) (moved page_count))

module _ (b : Browser) (few : HasFew b) (distinct : HasDistinctIds b) where
  -- the tabs stay as they are
  unmoved : (c : Browser) (ws : List BrowserWindow) → c.windows ≡ ws → length ws ≤ limit → InOrder ws
      → all_tabs ws ≡ all_tabs b.windows → KeepsFew b c 0 0
  unmoved c ws is windows ordered same = keeps-tabs b c ws [] [] (within b few distinct) is windows ordered
      (λ f. let all = ap (sum_by f) same in omega arith) (omega arith) (λ id. omega arith)

  pub keeps-windows : (c : Browser) → c.windows ≡ b.windows → KeepsFew b c 0 0
  keeps-windows c same = unmoved c b.windows same few.windows distinct.windows refl

  pub keeps-on_window : (id : ℤ) (change : BrowserWindow → BrowserWindow)
      → ((w : BrowserWindow) → open_key (change w) ≡ open_key w) → ((w : BrowserWindow) → (change w).tabs ≡ w.tabs)
      → KeepsFew b (on_window id change b) 0 0
  keeps-on_window id change keys tabs =
      let long = length-map b.windows (on_key int_cmp open_key id change) in
      let old = few.windows in
      unmoved (on_window id change b) (on_window id change b).windows refl (omega arith)
      (in-order-map (on_key int_cmp open_key id change) (on-window-key id change keys) b.windows distinct.windows)
      (all-on_window id change tabs b.windows)

  pub keeps-opened_window : (id : ℤ) → length b.windows < limit → KeepsFew b (opened_window id b) 0 0
  keeps-opened_window id room =
      let long = length-step id (fresh_window id) (λ w. w) b.windows in
      unmoved (opened_window id b) (opened_window id b).windows refl (omega arith)
      (sorted-step int_cmp open_key int_cmp_total id (fresh_window id) (λ w. w) b.windows refl (λ w. refl)
      distinct.windows) (all-opened id b.windows)

  -- a tab becomes another with its id
  pub keeps-tab : (id : ℤ) (s : Stand) (new : BrowserTab) (c : Browser) → stand_of id b ≡ Some s
      → own_id new ≡ own_id s.tab → c.windows ≡ put_tab (stand_key s) new b.windows
      → KeepsFew b c (sum_by page_count (s.tab ∷ [])) (sum_by page_count (new ∷ []))
  keeps-tab id s new c found same is =
      let w = within b few distinct in
      let there = found-tab id b.windows s found in
      let own = found-key id (all_tabs b.windows) s.tab there in
      let there' = subst (λ k. find_row int_cmp own_id k (all_tabs b.windows) ≡ Some s.tab) own there in
      let change : BrowserTab → BrowserTab = on_key int_cmp own_id (stand_key s) (λ t. new) in
      let ws = map (with_tabs (map change)) b.windows in
      let moved : (f : BrowserTab → ℕ) → sum_by f (all_tabs ws) + f s.tab ≡ sum_by f (all_tabs b.windows) + f new =
      λ f. subst (λ ts. sum_by f ts + f s.tab ≡ sum_by f (all_tabs b.windows) + f new)
      (sym (all-map change b.windows)) (sum-put f (stand_key s) new (all_tabs b.windows) s.tab there'
      (w.ids (stand_key s))) in
      let long = length-map b.windows (with_tabs (map change)) in
      let old = few.windows in
      keeps-tabs b c ws (s.tab ∷ []) (new ∷ []) w is (omega arith)
      (in-order-map (with_tabs (map change)) (λ v. refl) b.windows distinct.windows)
      (λ f. let all = moved f in let went = sum_by-cons f s.tab [] in let came = sum_by-cons f new [] in omega arith)
      (omega arith)
      (λ q.
      let all : count_under q new ≡ count_under q s.tab = ap (λ k. cond (is_eq (int_cmp q k)) 1 0) same in
      let went = sum_by-cons (count_under q) s.tab [] in
      let came = sum_by-cons (count_under q) new [] in
      omega arith)

  -- a tab goes
  others : (id : ℤ) (s : Stand) → stand_of id b ≡ Some s → (f : BrowserTab → ℕ)
      → sum_by f (all_tabs (taken_out (stand_key s) b.windows)) + f s.tab ≤ sum_by f (all_tabs b.windows)
  others id s found f =
      let there = found-tab id b.windows s found in
      let own = found-key id (all_tabs b.windows) s.tab there in
      let there' = subst (λ k. find_row int_cmp own_id k (all_tabs b.windows) ≡ Some s.tab) own there in
      subst (λ ts. sum_by f ts + f s.tab ≤ sum_by f (all_tabs b.windows))
      (sym (all-filter (is_other (stand_key s)) b.windows))
      (sum-others f (stand_key s) (all_tabs b.windows) s.tab there')

  in-order-others : (id : ℤ) → InOrder (taken_out id b.windows)
  in-order-others id = in-order-map (with_tabs (filter (is_other id))) (λ v. refl) b.windows distinct.windows

  pub keeps-closed_tab : (id : ℤ) (s : Stand) (c : Browser) → stand_of id b ≡ Some s
      → c.windows ≡ taken_out (stand_key s) b.windows → KeepsFew b c (sum_by page_count (s.tab ∷ [])) 0
  keeps-closed_tab id s c found is =
      let long = length-map b.windows (with_tabs (filter (is_other (stand_key s)))) in
      let old = few.windows in
      keeps-tabs b c (taken_out (stand_key s) b.windows) (s.tab ∷ []) [] (within b few distinct) is (omega arith)
      (in-order-others (stand_key s))
      (λ f. let all = others id s found f in let went = sum_by-cons f s.tab [] in omega arith)
      (omega arith) (λ id. omega arith)

  -- the tabs of a window go with it
  pub keeps-closed_window : (id : ℤ) (w : BrowserWindow) (c : Browser) → find_row int_cmp open_key id b.windows ≡ Some w
      → c.windows ≡ without_row int_cmp open_key id b.windows → KeepsFew b c (sum_by page_count w.tabs) 0
  keeps-closed_window id w c found is =
      let less = length-without int_cmp open_key id b.windows in
      let old = few.windows in
      keeps-tabs b c (without_row int_cmp open_key id b.windows) w.tabs [] (within b few distinct) is (omega arith)
      (sorted-without int_cmp open_key id b.windows distinct.windows)
      (λ f. let all = sum-without f id b.windows w found in omega arith) (omega arith) (λ id. omega arith)

  pub keeps-moved_tab : (id : ℤ) (s : Stand) (window : ℤ) (place : ℕ) → stand_of id b ≡ Some s
      → KeepsFew b (moved_tab s window place b) 0 0
  keeps-moved_tab id s window place found =
      let ws = taken_out (stand_key s) b.windows in
      let change : BrowserWindow → BrowserWindow = on_key int_cmp open_key window (with_tabs (put_at place s.tab)) in
      let out = length-map b.windows (with_tabs (filter (is_other (stand_key s)))) in
      let long = length-map ws change in
      let old = few.windows in
      keeps-tabs b (moved_tab s window place b) (put_in window place s.tab ws) [] [] (within b few distinct) refl
      (omega arith)
      (in-order-map change (on-window-key window (with_tabs (put_at place s.tab)) (λ w. refl)) ws
      (in-order-others (stand_key s)))
      (λ f.
      let came = sum-put_in f window place s.tab ws (in-order-others (stand_key s)) in
      let went = others id s found f in
      omega arith)
      (omega arith) (λ id. omega arith)

  -- a tab that isn't there, in a window that is there or for which there is room
  pub keeps-opened_tab : (window id : ℤ) → stand_of id b ≡ None → length (all_stands b.windows) < limit
      → (is_some (find_row int_cmp open_key window b.windows) ≡ false → length b.windows < limit)
      → KeepsFew b (opened_tab window id b) 0 0
  keeps-opened_tab window id none room open_room =
      let c = opened_tab window id b in
      let w = within b few distinct in
      let all : (f : BrowserTab → ℕ)
      → sum_by f (all_tabs c.windows) ≡ sum_by f (all_tabs b.windows) + f (fresh_tab id) =
      λ f. sum-opened f window (fresh_tab id) b.windows in
      keeps b c 0 0 (record {
        windows = by (is_some (find_row int_cmp open_key window b.windows)) refl;
        ordered = sorted-step int_cmp open_key int_cmp_total window (fresh_window window) add b.windows refl (λ v. refl)
            distinct.windows;
        tabs =
            let is = all (λ t. 1) in
            let long = length-stands b.windows in
            let one = one-each (all_tabs b.windows) in
            omega arith;
        ids = λ q. let is = all (count_under q) in let one = fresh-once w q (is_eq (int_cmp q id)) refl in omega arith;
      }) (let is = all page_count in omega arith)
    where
      add : BrowserWindow → BrowserWindow
      add = with_tabs (λ tabs. tabs ++ fresh_tab id ∷ [])

      by : (is_open : Bool) → is_some (find_row int_cmp open_key window b.windows) ≡ is_open
          → length (step_row int_cmp open_key window (fresh_window window) add b.windows) ≤ limit
      by true e =
          let same = step-map int_cmp open_key int_cmp_total exact_signed window (fresh_window window) add b.windows
          distinct.windows e in
          let long = length-map b.windows (on_key int_cmp open_key window add) in
          let old = few.windows in
          rw same (omega arith)
      by false e =
          let less = open_room e in
          let more = length-step window (fresh_window window) add b.windows in
          omega arith

      fresh-once : IsWithin b.windows → (q : ℤ) (same : Bool) → is_eq (int_cmp q id) ≡ same
          → sum_by (count_under q) (all_tabs b.windows) + count_under q (fresh_tab id) ≤ 1
      fresh-once w q true e =
          let nobody : length (only int_cmp stand_key id (all_stands b.windows)) ≡ 0 =
          ap length (only-none int_cmp stand_key id (all_stands b.windows) (ap is_some none)) in
          let none_under : sum_by (count_under q) (all_tabs b.windows) ≡ 0 =
          ap (λ k. sum_by (count_under k) (all_tabs b.windows)) (same_key q id e)
          ∙ sym (count-stands id b.windows) ∙ nobody in
          let one : count_under q (fresh_tab id) ≡ 1 = ap (λ x. cond x 1 0) e in
          omega arith
      fresh-once w q false e =
          let zero_more : count_under q (fresh_tab id) ≡ 0 = ap (λ x. cond x 1 0) e in
          let old = w.ids q in
          omega arith
