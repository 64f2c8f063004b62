-- The state that is made from a view is one, and matches the browser that begins with the view.
use Rattle.std.proofs.Common.{◌≡◌, ℕ, zero, suc, ◌≤◌, nat_le, ◌&&◌, Bool, true, false, ℤ, pos, FitsSigned, w32, List, []}
use Rattle.std.proofs.Common.{◌∷◌, ◌++◌, map, length, Option, Some, None, IfSome, refl, sym, ap, subst, ◌∙◌, append_assoc}
use Rattle.std.proofs.Common.{arith}
use Rattle.std.specs.Option.{option_or}
use Rattle.std.specs.Ordering.{int_cmp, is_eq}
use Rattle.std.specs.Cmp.{IsTotalOrder, int_cmp_total, nat_cmp_total, on_total, then_total}
use Rattle.std.specs.List.{AllByRecursion}
use Rattle.std.specs.List.Sorted.{IsStrictlySortedBy}
use Rattle.std.proofs.lemmas.Bool.Decides.{nat_tests}
use Rattle.std.proofs.lemmas.List.{length-map}
use Rattle.closed_entries.specs.declared.entry.Entry.{Entry}
use Rattle.navigation_entry.specs.declared.group.GroupInfo.{GroupInfo}
use Rattle.tab_pages.specs.Ranges.{IsGroupInRange}
use Rattle.tab_pages.proofs.RangeLaws.{all-filter}
use Rattle.window_state.specs.declared.group_id.GroupId.{GroupId}
use Rattle.window_state.specs.declared.tab.Tab.{Tab}
use Rattle.window_state.specs.declared.view_parts.View.{View}
use Rattle.window_state.specs.declared.view_parts.ViewWindow.{ViewWindow}
use Rattle.window_state.specs.declared.window.Window.{Window}
use Rattle.window_state.specs.Fits.{IsKeptTab, IsKeptWindow}
use Rattle.window_state.specs.Keys.{tab_key, window_key, group_key, group_cmp}
use Rattle.window_state.specs.Limits.{limit}
use Rattle.window_state.specs.Ranges.{IsTabInRange, IsWindowInRange}
use Rattle.window_state.specs.RowLists.{find_row}
use Rattle.window_state.specs.States.{State, IsState, HasWindow, stands}
use Rattle.window_state.specs.Views.{is_used, shown_tabs, view}
use Rattle.window_state.proofs.IdLaws.{equals_itself}
use Rattle.replay_machine.specs.Step.{fold}
use Rattle.browser_model.specs.Beginnings.{begun_window, first_active, begun}
use Rattle.browser_model.specs.Browsers.{BrowserTab, BrowserWindow, row_of, stands_from, all_stands, rows, window_row}
use Rattle.browser_model.specs.Browsers.{Matches, EachTab, HasGroup, open_key}
use Rattle.browser_model.specs.Running.{IsRunning}
use Rattle.browser_model.specs.Tidied.{tidied_windows}
use Rattle.browser_model.specs.Tidying.{tidying}
use Rattle.browser_model.proofs.BegunLaws.{begun-windows, begun-matches, begun-groups}
use Rattle.browser_model.proofs.Matching.{at-most-one, in-order}
use Rattle.browser_model.proofs.RunningLaws.{running-fold}
use Rattle.browser_model.proofs.TidyRows.{tidied-rows}
use Rattle.browser_model.proofs.TidyView.{tidyable}
use Rattle.browser_driver.specs.Begun.{IsViewed, IsSmallWindow, begun_state, with_rows, with_tabs}
use Rattle.browser_driver.specs.Held.{AreSeated}
use Rattle.browser_driver.proofs.BeginLaws.{shown_ids, window-rows}
use Rattle.browser_driver.proofs.CountLaws.{few-tabs, stands-count}
use Rattle.browser_driver.proofs.HeldLaws.{Holds, holds}
use Rattle.browser_driver.proofs.PutLaws.{IsPut, all-rows, in-order-stay, length-rows, tabs-put}
use Rattle.browser_driver.proofs.ShownRows.{IsSoundTab, IsSoundWindow, all-sound, windows-sound, windows-small}

-- each row's window stands among the windows
own-stands : (done : List BrowserWindow) (w : BrowserWindow) (rest : List BrowserWindow)
    → stands w.info.id (map window_row (done ++ w ∷ rest)) ≡ true
own-stands [] w rest = rw (equals_itself w.info.id) refl
own-stands (d ∷ ds) w rest = by (own-stands ds w rest) (is_eq (int_cmp w.info.id d.info.id)) refl
  where
    by : stands w.info.id (map window_row (ds ++ w ∷ rest)) ≡ true → (b : Bool)
        → is_eq (int_cmp w.info.id d.info.id) ≡ b → stands w.info.id (map window_row (d ∷ ds ++ w ∷ rest)) ≡ true
    by more true e = rw e refl
    by more false e = rw e more

in-windows : (done rest : List BrowserWindow)
    → AllByRecursion (HasWindow (map window_row (done ++ rest))) (rows rest)
in-windows done [] = tt
in-windows done (w ∷ rest) =
    let all = map window_row (done ++ w ∷ rest) in
    let moved : (done ++ w ∷ []) ++ rest ≡ done ++ w ∷ rest = append_assoc done (w ∷ []) rest in
    let later = subst (λ ws. AllByRecursion (HasWindow (map window_row ws)) (rows rest)) moved
    (in-windows (done ++ w ∷ []) rest) in
    subst (AllByRecursion (HasWindow all)) (sym (window-rows w rest))
    (both (map row_of (stands_from w.info.id zero w.tabs)) (own zero w.tabs) later)
  where
    own : (n : ℕ) (ts : List BrowserTab)
        → AllByRecursion (HasWindow (map window_row (done ++ w ∷ rest))) (map row_of (stands_from w.info.id n ts))
    own n [] = tt
    own n (t ∷ ts) = (own-stands done w rest, own (suc n) ts)

    both : (xs : List Tab) → AllByRecursion (HasWindow (map window_row (done ++ w ∷ rest))) xs
        → AllByRecursion (HasWindow (map window_row (done ++ w ∷ rest))) (rows rest)
        → AllByRecursion (HasWindow (map window_row (done ++ w ∷ rest))) (xs ++ rows rest)
    both [] a b = b
    both (x ∷ xs) a b = (a.0, both xs a.1 b)

group_total : IsTotalOrder group_cmp
group_total = then_total (on_total (λ (g : GroupId). g.high) nat_cmp_total)
    (on_total (λ (g : GroupId). g.low) nat_cmp_total)

few-windows : (s : State) → IsRunning s → length s.windows ≤ limit
few-windows s r = by (nat_le (length s.tabs) limit) (nat_le (length s.windows) limit) refl r.within
  where
    by : (a b : Bool) → nat_le (length s.windows) limit ≡ b → (a && b) ≡ true → length s.windows ≤ limit
    by true true is e = grind (arith, nat_tests)
    by true false is e = absurd cc
    by false b is e = absurd cc

kept-tabs : (ts : List Tab) → AllByRecursion IsSoundTab ts
    → AllByRecursion IsKeptTab ts × AllByRecursion IsTabInRange ts
kept-tabs [] all = (tt, tt)
kept-tabs (t ∷ ts) all = let rest = kept-tabs ts all.1 in ((all.0.kept, rest.0), (all.0.ranged, rest.1))

kept-windows : (ws : List Window) → AllByRecursion IsSoundWindow ws
    → AllByRecursion IsKeptWindow ws × AllByRecursion IsWindowInRange ws
kept-windows [] all = (tt, tt)
kept-windows (w ∷ ws) all = let rest = kept-windows ws all.1 in ((all.0.kept, rest.0), (all.0.ranged, rest.1))

first-is : (a b : Option ℤ) → option_or a b ≡ first_active a b
first-is None b = refl
first-is (Some x) b = refl

-- the rows of what the view's lists hold, and one of the two windows
pub record IsMade (v : View) (active : Option ℤ) (tabs_of windows_of : List ViewWindow) (groups_of : List GroupInfo)
    (s : State) : Type 0 where
  pub tabs_of_is : tabs_of ≡ v.windows
  pub windows_of_is : windows_of ≡ v.windows
  pub groups_of_is : groups_of ≡ v.groups
  pub tabs : s.tabs ≡ with_tabs [] (rows (map begun_window tabs_of))
  pub windows : s.windows ≡ with_rows int_cmp window_key [] (map window_row (map begun_window windows_of))
  pub groups : s.groups ≡ with_rows group_cmp group_key [] groups_of
  pub active_is : s.active ≡ option_or v.active active

pub made : (v : View) (active : Option ℤ) (tabs_of windows_of : List ViewWindow) (groups_of : List GroupInfo)
    (s : State) → IsMade v active tabs_of windows_of groups_of s → s ≡ begun_state v active
made v active tabs_of windows_of groups_of s m =
    let tabs = m.tabs ∙ ap (λ us. with_tabs [] (rows (map begun_window us))) m.tabs_of_is in
    let windows = m.windows
    ∙ ap (λ us. with_rows int_cmp window_key [] (map window_row (map begun_window us))) m.windows_of_is in
    let groups = m.groups ∙ ap (with_rows group_cmp group_key []) m.groups_of_is in
    let now = m.active_is ∙ first-is v.active active in
    λ i. record { tabs = tabs i; windows = windows i; groups = groups i; active = now i }

-- what a view's state is, whatever window is active
pub record IsBegun (v : View) : Type 0 where
  pub small : AllByRecursion IsSmallWindow v.windows
  pub sorted : IsStrictlySortedBy int_cmp (shown_ids v.windows)
  pub groups : with_rows group_cmp group_key [] v.groups ≡ v.groups
  pub state : (active : Option ℤ) → IfSome (first_active v.active active) (FitsSigned w32)
      → IsState (begun_state v active)
  pub running : (active : Option ℤ) → IsRunning (begun_state v active)
  pub matches : (active : Option ℤ) (closed : List Entry) → Matches (begun_state v active) (begun v active closed)

module _ (s : State) (is : IsState s) where
  abbrev v : View
  v = view s

  abbrev tidy : State
  tidy = fold s (tidying s)

  -- the windows of the browser, which tidying matches
  abbrev ws : List BrowserWindow
  ws = map begun_window v.windows

  matched : Matches tidy (begun v s.active [])
  matched = begun-matches s [] is

  running : IsRunning tidy
  running = running-fold s (tidying s) (tidyable s is).running

  sound-tabs : AllByRecursion IsSoundTab s.tabs
  sound-tabs = both s.tabs is.kept.each_tab is.ranged.tabs
    where
      both : (ts : List Tab) → AllByRecursion IsKeptTab ts → AllByRecursion IsTabInRange ts
          → AllByRecursion IsSoundTab ts
      both [] a b = tt
      both (t ∷ ts) a b = (record { kept = a.0; ranged = b.0 }, both ts a.1 b.1)

  sound-windows : AllByRecursion IsSoundWindow s.windows
  sound-windows = both s.windows is.kept.each_window is.ranged.windows
    where
      both : (us : List Window) → AllByRecursion IsKeptWindow us → AllByRecursion IsWindowInRange us
          → AllByRecursion IsSoundWindow us
      both [] a b = tt
      both (u ∷ us) a b = (record { kept = a.0; ranged = b.0 }, both us a.1 b.1)

  same-windows : ws ≡ tidied_windows (λ id. shown_tabs id s.tabs) s.windows
  same-windows = begun-windows s.tabs s.windows

  sound-ws : AllByRecursion IsSoundWindow (map window_row ws)
  sound-ws = subst (λ us. AllByRecursion IsSoundWindow (map window_row us)) (sym same-windows)
      (windows-sound s.tabs is.kept.tabs sound-tabs s.windows sound-windows)

  sound-rows : AllByRecursion IsSoundTab (rows ws)
  sound-rows = subst (λ us. AllByRecursion IsSoundTab (rows us)) (sym same-windows)
      (subst (AllByRecursion IsSoundTab) (tidied-rows s.tabs s.windows)
      (all-sound s.tabs is.kept.tabs sound-tabs s.windows))

  ids-rise : IsStrictlySortedBy int_cmp (map open_key ws)
  ids-rise = in-order tidy (begun v s.active []) running matched

  rows-rise : IsStrictlySortedBy int_cmp (map window_key (map window_row ws))
  rows-rise = subst (IsStrictlySortedBy int_cmp) (sym (keys ws)) ids-rise
    where
      keys : (us : List BrowserWindow) → map window_key (map window_row us) ≡ map open_key us
      keys [] = refl
      keys (u ∷ us) = ap (λ ks. u.info.id ∷ ks) (keys us)

  windows-are : with_rows int_cmp window_key [] (map window_row ws) ≡ map window_row ws
  windows-are = in-order-stay int_cmp window_key int_cmp_total (map window_row ws) rows-rise

  groups-rise : IsStrictlySortedBy group_cmp (map group_key v.groups)
  groups-rise = begun-groups s [] is

  groups-are : with_rows group_cmp group_key [] v.groups ≡ v.groups
  groups-are = in-order-stay group_cmp group_key group_total v.groups groups-rise

  put : IsPut (rows ws) (with_tabs [] (rows ws))
  put = tabs-put (rows ws) (at-most-one tidy (begun v s.active []) running matched)

  count : length (with_tabs [] (rows ws)) ≤ limit
  count =
      let few = few-tabs tidy running in
      let all = stands-count tidy (begun v s.active []) running matched in
      let put = length-rows int_cmp tab_key [] (rows ws) in
      let each = length-map (all_stands ws) row_of in
      omega (arith, few, all, put, each)

  known-groups : (us : List BrowserWindow) → EachTab (HasGroup v.groups v.groups) us
  known-groups [] = tt
  known-groups (u ∷ us) = (each u.tabs, known-groups us)
    where
      own : (t : BrowserTab) (g : Option GroupId)
          → IfSome g (λ id. find_row group_cmp group_key id v.groups ≡ find_row group_cmp group_key id v.groups)
      own t None = tt
      own t (Some id) = refl

      each : (ts : List BrowserTab) → AllByRecursion (HasGroup v.groups v.groups) ts
      each [] = tt
      each (t ∷ ts) = (own t t.info.group, each ts)

  module _ (active : Option ℤ) where
    begun-running : IsRunning (begun_state v active)
    begun-running =
        let back = sym windows-are in
        let few = few-windows tidy running in
        let same = ap length matched.windows in
        record {
          tabs = put.sorted;
          windows = subst (λ us. IsStrictlySortedBy int_cmp (map window_key us)) back rows-rise;
          within = rw (within (length (with_tabs [] (rows ws))) count)
              (within (length (with_rows int_cmp window_key [] (map window_row ws)))
              (subst (λ us. length us ≤ limit) back (omega (arith, few, same))));
        }
      where
        within : (n : ℕ) → n ≤ limit → nat_le n limit ≡ true
        within n h = grind (arith, nat_tests)

    state-is : IfSome (first_active v.active active) (FitsSigned w32) → IsState (begun_state v active)
    state-is fits =
        let tabs = all-rows int_cmp tab_key IsSoundTab [] (rows ws) tt sound-rows in
        let kept = kept-tabs (with_tabs [] (rows ws)) tabs in
        let windows = kept-windows (map window_row ws) sound-ws in
        let back = sym windows-are in
        let few = few-windows tidy running in
        let same = ap length matched.windows in
        record {
          kept = record {
            tabs = count;
            windows = subst (λ us. length us ≤ limit) back (omega (arith, few, same));
            standing = subst (λ us. AllByRecursion (HasWindow us) (with_tabs [] (rows ws))) back
                (all-rows int_cmp tab_key (HasWindow (map window_row ws)) [] (rows ws) tt (in-windows [] ws));
            each_tab = kept.0;
            each_window = subst (AllByRecursion IsKeptWindow) back windows.0;
          };
          ordered = record {
            tabs = put.sorted;
            windows = subst (λ us. IsStrictlySortedBy int_cmp (map window_key us)) back rows-rise;
            groups = subst (λ gs. IsStrictlySortedBy group_cmp (map group_key gs)) (sym groups-are) groups-rise;
          };
          ranged = record {
            tabs = kept.1;
            windows = subst (AllByRecursion IsWindowInRange) back windows.1;
            groups = subst (AllByRecursion IsGroupInRange) (sym groups-are)
                (all-filter IsGroupInRange (is_used s.tabs) s.groups is.ranged.groups);
            active = fits;
          };
        }

    state-matches : (closed : List Entry) → Matches (begun_state v active) (begun v active closed)
    state-matches closed = record {
      tabs = put.same;
      windows = windows-are;
      active = refl;
      groups = subst (λ gs. EachTab (HasGroup v.groups gs) ws) (sym groups-are) (known-groups ws);
      at_page = matched.at_page;
    }

  is-begun : IsBegun v
  is-begun = record {
    small = windows-small s.tabs is.kept.tabs sound-tabs s.windows;
    sorted = ids-rise;
    groups = groups-are;
    state = state-is;
    running = begun-running;
    matches = state-matches;
  }

pub viewed : (v : View) → IsViewed v → IsBegun v
viewed v (s, is, same) = subst IsBegun (sym same) (is-begun s is)

pub made-state : (v : View) (active : Option ℤ) (tabs_of windows_of : List ViewWindow) (groups_of : List GroupInfo)
    (s : State) → IsViewed v → IfSome s.active (FitsSigned w32) → IsMade v active tabs_of windows_of groups_of s
    → IsState s
made-state v active tabs_of windows_of groups_of s is fits m =
    let now = m.active_is ∙ first-is v.active active in
    subst IsState (sym (made v active tabs_of windows_of groups_of s m))
    ((viewed v is).state active (subst (λ o. IfSome o (FitsSigned w32)) now fits))

-- orders that agree with the view's windows, and entries, make it the browser that begins with them
pub begun-holds : (v : View) (active : Option ℤ) (closed now : List Entry) (shown : List ViewWindow) (s : State)
    (orders : List (ℤ × List ℤ)) → IsViewed v → s ≡ begun_state v active → shown ≡ v.windows
    → AreSeated orders (map begun_window shown) → now ≡ closed → Holds s orders now (pos 0) (begun v active closed)
begun-holds v active closed now shown s orders is made same seated entries =
    let b = viewed v is in
    let back = sym made in
    holds s orders now (pos 0) (begun v active closed) (subst IsRunning back (b.running active))
    (subst (λ x. Matches x (begun v active closed)) back (b.matches active closed))
    (subst (λ us. AreSeated orders (map begun_window us)) same seated) (ap (λ x. x.groups) made ∙ b.groups) entries refl

pub shown-sorted : (v : View) (shown : List ViewWindow) → IsViewed v → shown ≡ v.windows
    → IsStrictlySortedBy int_cmp (shown_ids shown)
shown-sorted v shown is same =
    subst (λ us. IsStrictlySortedBy int_cmp (shown_ids us)) (sym same) (viewed v is).sorted
