-- A state has few commands of tidying, and the browser of its view holds few pages.
use Rattle.std.proofs.Common.{◌≡◌, ℕ, zero, suc, ◌+◌, ◌*◌, ◌≤◌, ◌^◌, Bool, true, false, not, cond, ℤ, pos}
use Rattle.std.proofs.Common.{◌+ℤ◌, ◌-ℤ◌, int_lt, int_eq}
use Rattle.std.proofs.Common.{List, [], ◌∷◌, ◌++◌, map, filter, length, sum_by, Option, Some, None, refl, ap}
use Rattle.std.proofs.Common.{◌∙◌, arith, if◌then◌else◌}
use Rattle.std.specs.Ordering.{int_cmp, is_eq}
use Rattle.std.specs.declared.cmp.Ordering.TheVariants.{Less}
use Rattle.std.specs.List.{AllByRecursion}
use Rattle.std.specs.List.Sorted.{IsStrictlySortedBy}
use Rattle.std.proofs.lemmas.List.{length-append, length-map}
use Rattle.std.proofs.lemmas.List.Elements.{All-from_recursion}
use Rattle.std.proofs.lemmas.List.Sums.{sum_by-cons, sum_by-append, sum_by-le}
use Rattle.std.proofs.lemmas.Map.Keys.{sorted_head, sorted_tail}
use Rattle.closed_entries.specs.declared.entry.Entry.{Entry}
use Rattle.navigation_entry.specs.declared.navigation.Navigation.{Navigation}
use Rattle.session_commands.specs.declared.command.SessionCommand.{SessionCommand}
use Rattle.session_commands.specs.declared.command.SessionCommand.TheVariants.{ActiveWindow, SelectNavigation}
use Rattle.session_commands.specs.declared.command.SessionCommand.TheVariants.{SelectTab, TabIndex}
use Rattle.window_state.specs.declared.tab.Tab.{Tab}
use Rattle.window_state.specs.declared.window.Window.{Window}
use Rattle.window_state.specs.declared.view_parts.ViewTab.{ViewTab}
use Rattle.window_state.specs.Fits.{IsKeptTab}
use Rattle.window_state.specs.Keys.{tab_key, window_key}
use Rattle.window_state.specs.Ranges.{IsTabInRange}
use Rattle.window_state.specs.States.{State, IsState, is_in}
use Rattle.window_state.specs.Views.{shown_tabs, view_tab, view_windows, with_shown, view}
use Rattle.window_state.proofs.IdLaws.{same_key}
use Rattle.window_state.proofs.StateLaws.{length-filter}
use Rattle.browser_model.specs.Amounts.{pages_in, HasFew, HasDistinctIds}
use Rattle.browser_model.specs.Beginnings.{begun, begun_tab, begun_window}
use Rattle.browser_model.specs.Browsers.{BrowserWindow, BrowserTab, open_key}
use Rattle.browser_model.specs.Tidying.{activate, current_index, gaps, is_open, is_tab_shown}
use Rattle.browser_model.specs.Tidying.{seen_active, seen_place, tidy_tab, tidy_tabs, tidy_window, tidy_windows}
use Rattle.browser_model.specs.Tidying.{tidying, unless}
use Rattle.browser_model.proofs.AmountLaws.{all_tabs, one-each, sum-map, sum-stands, length-stands, count_under}
use Rattle.browser_model.proofs.AmountLaws.{count-stands}
use Rattle.browser_model.proofs.ShownAmounts.{sum-shown, few-pages}
use Rattle.browser_model.proofs.TidyAll.{each_of}

few-unless : (b : Bool) (command : SessionCommand) → length (unless b command) ≤ 1
few-unless true command = omega arith
few-unless false command = omega arith

few-gaps : (k : ℕ) (next : ℤ) (pages : List (ℤ × Navigation)) → length (gaps k next pages) ≤ length pages
few-gaps k next [] = omega arith
few-gaps k next (page ∷ pages) =
    let rest = few-gaps (suc k) (page.0 +ℤ pos 1) pages in
    one (int_lt next page.0) rest
  where
    one : (b : Bool) → length (gaps (suc k) (page.0 +ℤ pos 1) pages) ≤ length pages
        → length ((if b then (k, page.0 -ℤ next) ∷ [] else []) ++ gaps (suc k) (page.0 +ℤ pos 1) pages)
        ≤ suc (length pages)
    one true rest = omega arith
    one false rest = omega arith

-- the most commands that tidy a tab
abbrev tab_work : Tab → ℕ
tab_work t = length t.pages + 2

few-tidy_tab : (n : ℕ) (t : Tab) → length (tidy_tab n t) ≤ tab_work t
few-tidy_tab n t =
    let selected = few-unless (int_eq (current_index t) t.current) (SelectNavigation t.info.id (current_index t)) in
    let placed = few-unless (int_eq t.index (pos n)) (TabIndex t.info.id (pos n)) in
    let closed = few-gaps zero (pos 0) t.pages in
    simp (length-append, length-map) (omega arith)

few-tidy_tabs : (n : ℕ) (ts : List Tab) → length (tidy_tabs n ts) ≤ sum_by tab_work ts
few-tidy_tabs n [] = omega arith
few-tidy_tabs n (t ∷ ts) =
    let here = few-tidy_tab n t in
    let rest = few-tidy_tabs (suc n) ts in
    let both = length-append (tidy_tab n t) (tidy_tabs (suc n) ts) in
    let all = sum_by-cons tab_work t ts in
    omega arith

few-tidy_window : (w : Window) (ts : List Tab) → length (tidy_window w ts) ≤ sum_by tab_work ts + 1
few-tidy_window w [] = omega arith
few-tidy_window w (t ∷ ts) =
    let place = seen_place w (t ∷ ts) in
    let tabs = few-tidy_tabs zero (t ∷ ts) in
    let selected = few-unless (int_eq w.selected (pos place)) (SelectTab w.info.id (pos place)) in
    let both = length-append (tidy_tabs zero (t ∷ ts))
    (unless (int_eq w.selected (pos place)) (SelectTab w.info.id (pos place))) in
    omega arith

few-tidy_windows : (tabs_of : ℤ → List Tab) (ws : List Window)
    → length (tidy_windows tabs_of ws) ≤ sum_by tab_work (each_of tabs_of ws) + length ws
few-tidy_windows tabs_of [] = omega arith
few-tidy_windows tabs_of (w ∷ ws) =
    let here = few-tidy_window w (tabs_of w.info.id) in
    let rest = few-tidy_windows tabs_of ws in
    let both = length-append (tidy_window w (tabs_of w.info.id)) (tidy_windows tabs_of ws) in
    let all = sum_by-append tab_work (tabs_of w.info.id) (each_of tabs_of ws) in
    omega arith

few-activate : (shown now : Option ℤ) → length (activate shown now) ≤ 1
few-activate None now = omega arith
few-activate (Some id) now = one (is_in id now)
  where
    one : (b : Bool) → length (if b then [] else ActiveWindow id ∷ []) ≤ 1
    one true = omega arith
    one false = omega arith

-- the pages of a state's tabs
each-few : (ts : List Tab) → AllByRecursion IsKeptTab ts → AllByRecursion IsTabInRange ts
    → AllByRecursion (λ t. length t.pages ≤ 2 ^ 31) ts
each-few [] kept ranged = tt
each-few (t ∷ ts) kept ranged =
    (few-pages t.pages kept.0.rising ranged.0.pages, each-few ts kept.1 ranged.1)

few-state_pages : (s : State) → IsState s → sum_by (λ t. length t.pages) s.tabs ≤ 2 ^ 51
few-state_pages s is =
    let each = All-from_recursion (λ (t : Tab). length t.pages ≤ 2 ^ 31) s.tabs
    (each-few s.tabs is.kept.each_tab is.ranged.tabs) in
    let all = sum_by-le (λ (t : Tab). length t.pages) (2 ^ 31) s.tabs each in
    let tabs = is.kept.tabs in
    omega arith

sum-work : (ts : List Tab) → sum_by tab_work ts ≡ sum_by (λ t. length t.pages) ts + 2 * length ts
sum-work [] = omega arith
sum-work (t ∷ ts) =
    let rest = sum-work ts in
    let work = sum_by-cons tab_work t ts in
    let pages = sum_by-cons (λ (u : Tab). length u.pages) t ts in
    omega arith

pub few-tidying : (s : State) → IsState s → length (tidying s) ≤ 2 ^ 56
few-tidying s is =
    let f : ℤ → List Tab = λ id. shown_tabs id s.tabs in
    let unseen = filter (λ t. not (is_tab_shown t)) s.tabs in
    let shut = filter (λ w. not (is_open s w)) s.windows in
    let tabs = length-filter (λ (t : Tab). not (is_tab_shown t)) s.tabs in
    let windows = length-filter (λ (w : Window). not (is_open s w)) s.windows in
    let told = few-tidy_windows f s.windows in
    let shown = sum-shown tab_work s.tabs s.windows is.ordered.windows in
    let work = sum-work s.tabs in
    let pages = few-state_pages s is in
    let active = few-activate (seen_active s) s.active in
    let few_tabs = is.kept.tabs in
    let few_windows = is.kept.windows in
    simp (length-append, length-map) (omega arith)

-- the browser that a view begins has its windows and its shown tabs
abbrev begun_windows : (ℤ → List Tab) → List Window → List BrowserWindow
begun_windows tabs_of ws = map begun_window (view_windows tabs_of ws)

few-begun_windows : (tabs_of : ℤ → List Tab) (ws : List Window) → length (begun_windows tabs_of ws) ≤ length ws
few-begun_windows tabs_of [] = omega arith
few-begun_windows tabs_of (w ∷ ws) = by (few-begun_windows tabs_of ws) (tabs_of w.info.id)
  where
    by : length (begun_windows tabs_of ws) ≤ length ws → (ts : List Tab)
        → length (map begun_window (with_shown w ts (view_windows tabs_of ws))) ≤ suc (length ws)
    by rest [] = omega arith
    by rest (t ∷ ts) = omega arith

all-above : (id : ℤ) (tabs_of : ℤ → List Tab) (ws : List Window)
    → AllByRecursion (λ y. int_cmp id y ≡ Less) (map window_key ws)
    → AllByRecursion (λ y. int_cmp id y ≡ Less) (map open_key (begun_windows tabs_of ws))
all-above id tabs_of [] all = tt
all-above id tabs_of (w ∷ ws) all = by (all-above id tabs_of ws all.1) (tabs_of w.info.id)
  where
    by : AllByRecursion (λ y. int_cmp id y ≡ Less) (map open_key (begun_windows tabs_of ws)) → (ts : List Tab)
        → AllByRecursion (λ y. int_cmp id y ≡ Less)
        (map open_key (map begun_window (with_shown w ts (view_windows tabs_of ws))))
    by rest [] = rest
    by rest (t ∷ ts) = (all.0, rest)

in-order-begun : (tabs_of : ℤ → List Tab) (ws : List Window) → IsStrictlySortedBy int_cmp (map window_key ws)
    → IsStrictlySortedBy int_cmp (map open_key (begun_windows tabs_of ws))
unfolding IsStrictlySortedBy
in-order-begun tabs_of [] sorted = tt
in-order-begun tabs_of (w ∷ ws) sorted =
    let rest = in-order-begun tabs_of ws sorted.1 in
    let above = all-above w.info.id tabs_of ws sorted.0 in
    elim (tabs_of w.info.id) as
    (λ ts. IsStrictlySortedBy int_cmp (map open_key (map begun_window (with_shown w ts (view_windows tabs_of ws)))))
    [ [] ↦ rest | t ∷ ts ↦ (above, rest) ]

sum-begun : (f : BrowserTab → ℕ) (tabs_of : ℤ → List Tab) (ws : List Window)
    → sum_by f (all_tabs (begun_windows tabs_of ws)) ≡ sum_by (λ t. f (begun_tab (view_tab t))) (each_of tabs_of ws)
sum-begun f tabs_of [] = refl
sum-begun f tabs_of (w ∷ ws) = by (sum-begun f tabs_of ws) (tabs_of w.info.id)
  where
    g : Tab → ℕ
    g t = f (begun_tab (view_tab t))

    by : sum_by f (all_tabs (begun_windows tabs_of ws)) ≡ sum_by g (each_of tabs_of ws) → (ts : List Tab)
        → sum_by f (all_tabs (map begun_window (with_shown w ts (view_windows tabs_of ws))))
        ≡ sum_by g (ts ++ each_of tabs_of ws)
    by rest [] = rest
    by rest (t ∷ ts) =
        let own = map begun_tab (map view_tab (t ∷ ts)) in
        let new = sum_by-append f own (all_tabs (begun_windows tabs_of ws)) in
        let old = sum_by-append g (t ∷ ts) (each_of tabs_of ws) in
        let begin = sum-map begun_tab f (map view_tab (t ∷ ts)) in
        let shown = sum-map view_tab (λ (u : ViewTab). f (begun_tab u)) (t ∷ ts) in
        omega arith

-- under an id there is one tab at most, where tabs stand by rising id
none-later : (own id : ℤ) (ts : List Tab) → is_eq (int_cmp id own) ≡ true
    → AllByRecursion (λ y. int_cmp own y ≡ Less) (map tab_key ts)
    → sum_by (λ t. count_under id (begun_tab (view_tab t))) ts ≡ 0
none-later own id [] e all = refl
none-later own id (t ∷ ts) e all =
    let rest = none-later own id ts e all.1 in
    let less : int_cmp id t.info.id ≡ Less = ap (λ k. int_cmp k t.info.id) (same_key id own e) ∙ all.0 in
    let none : count_under id (begun_tab (view_tab t)) ≡ 0 = rw less refl in
    let both = sum_by-cons (λ (u : Tab). count_under id (begun_tab (view_tab u))) t ts in
    omega arith

one-under : (id : ℤ) (ts : List Tab) → IsStrictlySortedBy int_cmp (map tab_key ts)
    → sum_by (λ t. count_under id (begun_tab (view_tab t))) ts ≤ 1
one-under id [] sorted = omega arith
one-under id (t ∷ ts) sorted =
    by (one-under id ts (sorted_tail int_cmp t.info.id (map tab_key ts) sorted)) (is_eq (int_cmp id t.info.id)) refl
  where
    by : sum_by (λ t. count_under id (begun_tab (view_tab t))) ts ≤ 1 → (b : Bool) → is_eq (int_cmp id t.info.id) ≡ b
        → sum_by (λ t. count_under id (begun_tab (view_tab t))) (t ∷ ts) ≤ 1
    by rest true e =
        let none = none-later t.info.id id ts e (sorted_head int_cmp t.info.id (map tab_key ts) sorted) in
        let one : count_under id (begun_tab (view_tab t)) ≡ 1 = ap (λ b. cond b 1 0) e in
        let both = sum_by-cons (λ (u : Tab). count_under id (begun_tab (view_tab u))) t ts in
        omega arith
    by rest false e =
        let none : count_under id (begun_tab (view_tab t)) ≡ 0 = ap (λ b. cond b 1 0) e in
        let both = sum_by-cons (λ (u : Tab). count_under id (begun_tab (view_tab u))) t ts in
        omega arith

each-page : (ts : List Tab) → sum_by (λ t. length (begun_tab (view_tab t)).pages) ts ≡ sum_by (λ t. length t.pages) ts
each-page [] = refl
each-page (t ∷ ts) =
    let rest = each-page ts in
    let shown = sum_by-cons (λ (u : Tab). length (begun_tab (view_tab u)).pages) t ts in
    let own = sum_by-cons (λ (u : Tab). length u.pages) t ts in
    let same = length-map t.pages (λ (page : ℤ × Navigation). page.1) in
    omega arith

module _ (s : State) (is : IsState s) where
  few-tabs : (f : BrowserTab → ℕ) → sum_by f (all_tabs (begun_windows (λ id. shown_tabs id s.tabs) s.windows))
      ≤ sum_by (λ t. f (begun_tab (view_tab t))) s.tabs
  few-tabs f =
      let begin = sum-begun f (λ id. shown_tabs id s.tabs) s.windows in
      let shown = sum-shown (λ t. f (begun_tab (view_tab t))) s.tabs s.windows is.ordered.windows in
      omega arith

  pub few-begun : (active : Option ℤ) (closed : List Entry) → HasFew (begun (view s) active closed)
  few-begun active closed = record {
    windows =
        let windows = few-begun_windows (λ id. shown_tabs id s.tabs) s.windows in
        let old = is.kept.windows in
        omega arith;
    tabs =
        let b = begun (view s) active closed in
        let tabs = few-tabs (λ t. 1) in
        let all = length-stands b.windows in
        let one = one-each (all_tabs b.windows) in
        let each = one-each s.tabs in
        let old = is.kept.tabs in
        omega arith;
  }

  pub distinct-begun : (active : Option ℤ) (closed : List Entry) → HasDistinctIds (begun (view s) active closed)
  distinct-begun active closed = record {
    windows = in-order-begun (λ id. shown_tabs id s.tabs) s.windows is.ordered.windows;
    tabs = λ id.
        let b = begun (view s) active closed in
        let tabs = few-tabs (count_under id) in
        let all = count-stands id b.windows in
        let one = one-under id s.tabs is.ordered.tabs in
        omega arith;
  }

  pub few-begun_pages : (active : Option ℤ) (closed : List Entry) → pages_in (begun (view s) active closed) ≤ 2 ^ 52
  few-begun_pages active closed =
      let b = begun (view s) active closed in
      let tabs = few-tabs (λ t. length t.pages) in
      let all = sum-stands (λ t. length t.pages) b.windows in
      let same = each-page s.tabs in
      let old = few-state_pages s is in
      omega arith
