-- The commands of tidying lead from a state to one that matches the browser that begins with the state's view.
use Rattle.std.proofs.Common.{◌≡◌, ℕ, ◌==◌, Bool, true, false, ◌&&◌, ◌||◌, ℤ, List, [], ◌∷◌, map, filter, Option}
use Rattle.std.proofs.Common.{Some, None, IfSome, refl, sym, subst, ◌∙◌, arith}
use Rattle.std.specs.List.{AllByRecursion, list_any}
use Rattle.std.specs.List.Sorted.{IsStrictlySortedBy}
use Rattle.std.proofs.lemmas.Bool.Decides.{nat_tests}
use Rattle.closed_entries.specs.declared.entry.Entry.{Entry}
use Rattle.tab_pages.specs.PageLists.{has_page}
use Rattle.window_state.specs.declared.group_id.GroupId.{GroupId}
use Rattle.window_state.specs.declared.tab.Tab.{Tab}
use Rattle.window_state.specs.declared.window.Window.{Window}
use Rattle.window_state.specs.Keys.{group_key, group_cmp}
use Rattle.window_state.specs.RowLists.{find_row}
use Rattle.window_state.specs.States.{State, IsState, is_in}
use Rattle.window_state.specs.Views.{is_shown, is_shown_in, is_group, is_used, shown_tabs, view_tab, with_shown}
use Rattle.window_state.specs.Views.{view_windows, view}
use Rattle.window_state.proofs.OrderLaws.{sorted-filter}
use Rattle.replay_machine.specs.Step.{fold}
use Rattle.browser_model.specs.Browsers.{BrowserTab, Matches, EachTab, HasGroup}
use Rattle.browser_model.specs.Beginnings.{begun_tab, begun_window, first_active, begun}
use Rattle.browser_model.specs.Tidied.{tidied_tab, tidied_with, tidied_windows, or_now, tidied}
use Rattle.browser_model.specs.Tidying.{tidying, seen_active}
use Rattle.browser_model.proofs.Turns.{map-map}
use Rattle.browser_model.proofs.GroupLaws.{find-in}
use Rattle.browser_model.proofs.TidyRows.{all-sorted}
use Rattle.browser_model.proofs.TidyDone.{tidied-matches, tidied-groups}
use Rattle.browser_model.proofs.TidyView.{tidyable}

-- the windows of the view are those to which tidying leads
pub begun-windows : (tabs : List Tab) (ws : List Window)
    → map begun_window (view_windows (λ id. shown_tabs id tabs) ws) ≡ tidied_windows (λ id. shown_tabs id tabs) ws
begun-windows tabs [] = refl
begun-windows tabs (w ∷ ws) = by (shown_tabs w.info.id tabs) (begun-windows tabs ws)
  where
    by : (ts : List Tab)
        → map begun_window (view_windows (λ id. shown_tabs id tabs) ws) ≡ tidied_windows (λ id. shown_tabs id tabs) ws
        → map begun_window (with_shown w ts (view_windows (λ id. shown_tabs id tabs) ws))
        ≡ tidied_with w ts (tidied_windows (λ id. shown_tabs id tabs) ws)
    by [] rest = rest
    by (t ∷ ts) rest =
        rw (map-map view_tab begun_tab ts, rest) refl

begun-active : (seen now : Option ℤ) → first_active seen now ≡ or_now seen now
begun-active None now = refl
begun-active (Some id) now = refl

-- a group of a shown tab is used
abbrev is_kept : List Tab → GroupId → Bool
is_kept tabs k = list_any (λ t. is_shown t.window t && is_group k t.info.group) tabs

-- the group of a tab is among those kept
abbrev HasKept : List Tab → Tab → Type 0
HasKept tabs t = IfSome t.info.group (λ k. is_kept tabs k ≡ true)

some-of : {X : Type 0} (xs : List X) → AllByRecursion (λ x. (p : X → Bool) → p x ≡ true → list_any p xs ≡ true) xs
some-of [] = tt
some-of {X} (x ∷ xs) = (λ p e. rw e refl, later xs (some-of xs))
  where
    or-true : (a b : Bool) → b ≡ true → (a || b) ≡ true
    or-true true b e = refl
    or-true false b e = e

    later : (ys : List X) → AllByRecursion (λ y. (p : X → Bool) → p y ≡ true → list_any p xs ≡ true) ys
        → AllByRecursion (λ y. (p : X → Bool) → p y ≡ true → list_any p (x ∷ xs) ≡ true) ys
    later [] all = tt
    later (y ∷ ys) all = (λ p e. or-true (p x) (list_any p xs) (all.0 p e), later ys all.1)

kept-shown : (tabs : List Tab) (window : ℤ) → AllByRecursion (HasKept tabs) (filter (is_shown_in window) tabs)
kept-shown tabs window = each tabs (some-of tabs)
  where
    itself : (n : ℕ) → (n == n) ≡ true
    itself n = grind (arith, nat_tests)

    own : (k : GroupId) → is_group k (Some k) ≡ true
    own k = rw (itself k.high, itself k.low) refl

    second : (a b : Bool) → (a && b) ≡ true → b ≡ true
    second true b e = e
    second false b e = absurd cc

    shown : (o : Option ℤ) (t : Tab) → (is_in window o && has_page t.pages) ≡ true → is_shown o t ≡ true
    shown None t e = absurd cc
    shown (Some v) t e = second (is_in window (Some v)) (has_page t.pages) e

    kept : (t : Tab) → ((p : Tab → Bool) → p t ≡ true → list_any p tabs ≡ true) → is_shown_in window t ≡ true
        → HasKept tabs t
    kept t some e = by t.info.group refl
      where
        by : (o : Option GroupId) → t.info.group ≡ o → IfSome o (λ k. is_kept tabs k ≡ true)
        by None is = tt
        by (Some k) is = some (λ u. is_shown u.window u && is_group k u.info.group)
            (rw (shown t.window t e, is) (own k))

    each : (ts : List Tab) → AllByRecursion (λ t. (p : Tab → Bool) → p t ≡ true → list_any p tabs ≡ true) ts
        → AllByRecursion (HasKept tabs) (filter (is_shown_in window) ts)
    each [] all = tt
    each (t ∷ ts) all = by (is_shown_in window t) refl (each ts all.1)
      where
        by : (b : Bool) → is_shown_in window t ≡ b → AllByRecursion (HasKept tabs) (filter (is_shown_in window) ts)
            → AllByRecursion (HasKept tabs) (filter (is_shown_in window) (t ∷ ts))
        by true e rest = rw e (kept t all.0 e, rest)
        by false e rest = rw e rest

-- so the view has its data as the state does
module _ (s : State) where
  abbrev HasSame : BrowserTab → Type 0
  HasSame t = HasGroup (filter (is_used s.tabs) s.groups) s.groups t

  same-group : (t : Tab) → HasKept s.tabs t → HasSame (tidied_tab t)
  same-group t kept = by t.info.group kept
    where
      by : (o : Option GroupId) → IfSome o (λ k. is_kept s.tabs k ≡ true)
          → IfSome o (λ k. find_row group_cmp group_key k (filter (is_used s.tabs) s.groups)
          ≡ find_row group_cmp group_key k s.groups)
      by None kept = tt
      by (Some k) kept = find-in (is_kept s.tabs) k kept s.groups

  each-same : (ws : List Window) → EachTab HasSame (tidied_windows (λ id. shown_tabs id s.tabs) ws)
  each-same [] = tt
  each-same (w ∷ ws) = by (shown_tabs w.info.id s.tabs)
      (all-sorted (HasKept s.tabs) [] (filter (is_shown_in w.info.id) s.tabs) tt (kept-shown s.tabs w.info.id))
      (each-same ws)
    where
      tabs : (ts : List Tab) → AllByRecursion (HasKept s.tabs) ts → AllByRecursion HasSame (map tidied_tab ts)
      tabs [] all = tt
      tabs (t ∷ ts) all = (same-group t all.0, tabs ts all.1)

      by : (ts : List Tab) → AllByRecursion (HasKept s.tabs) ts
          → EachTab HasSame (tidied_windows (λ id. shown_tabs id s.tabs) ws)
          → EachTab HasSame (tidied_with w ts (tidied_windows (λ id. shown_tabs id s.tabs) ws))
      by [] all rest = rest
      by (t ∷ ts) all rest = (tabs (t ∷ ts) all, rest)

  pub begun-matches : (closed : List Entry) → IsState s
      → Matches (fold s (tidying s)) (begun (view s) s.active closed)
  begun-matches closed is =
      let kept = tidyable s is in
      let m = tidied-matches s kept in
      let b = begun (view s) s.active closed in
      let windows : b.windows ≡ (tidied s).windows = begun-windows s.tabs s.windows in
      let groups = tidied-groups s kept in
      subst (λ ws. Matches (fold s (tidying s)) (record b { windows = ws })) (sym windows) (record {
        tabs = m.tabs;
        windows = m.windows;
        active = m.active ∙ sym (begun-active (seen_active s) s.active);
        groups = subst (λ gs. EachTab (HasGroup (filter (is_used s.tabs) s.groups) gs) (tidied s).windows) (sym groups)
            (each-same s.windows);
        at_page = m.at_page;
      })

  -- its groups are in order
  pub begun-groups : (closed : List Entry) → IsState s
      → IsStrictlySortedBy group_cmp (map group_key (begun (view s) s.active closed).groups)
  begun-groups closed is = sorted-filter group_cmp group_key (is_used s.tabs) s.groups is.ordered.groups
