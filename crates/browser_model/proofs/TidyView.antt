-- Tidying keeps the view, in every field.
use Rattle.std.proofs.Common.{◌≡◌, ℕ, zero, suc, Bool, true, false, cond, ◌&&◌, ◌||◌, if◌then◌else◌, ℤ, pos, List, []}
use Rattle.std.proofs.Common.{◌∷◌, ◌++◌, map, filter, Option, Some, None, refl, sym, ap, ◌∙◌, arith, length, nat_le}
use Rattle.std.proofs.Common.{◌≤◌}
use Rattle.std.specs.Ordering.{int_eq, int_cmp, is_eq}
use Rattle.std.specs.List.{AllByRecursion, list_any}
use Rattle.std.proofs.lemmas.Bool.Decides.{nat_tests}
use Rattle.navigation_entry.specs.declared.group.GroupInfo.{GroupInfo}
use Rattle.tab_pages.specs.PageLists.{IsRising, has_page}
use Rattle.window_state.specs.declared.tab.Tab.{Tab}
use Rattle.window_state.specs.declared.window.Window.{Window}
use Rattle.window_state.specs.declared.view_parts.ViewWindow.{ViewWindow}
use Rattle.window_state.specs.Keys.{tab_key, group_key}
use Rattle.window_state.specs.Limits.{limit}
use Rattle.window_state.specs.Fits.{IsKeptTab}
use Rattle.window_state.specs.States.{State, IsState}
use Rattle.window_state.specs.Views.{is_shown, is_group, uses, is_used, shown_tabs, active_shown, view}
use Rattle.window_state.proofs.IdLaws.{equals_itself}
use Rattle.replay_machine.specs.Step as machine
use Rattle.browser_model.specs.Browsers.{stands_from, all_stands}
use Rattle.browser_model.specs.Pictures.{is_seen, is_seen_in}
use Rattle.browser_model.specs.Tidied.{tidied_tab, tidied_with, tidied_windows, tidied, or_now, IsTidyable}
use Rattle.browser_model.specs.Tidying.{tidying, seen_active, is_tab_shown}
use Rattle.browser_model.proofs.PictureLaws.{filters}
use Rattle.browser_model.proofs.TidyAll.{each_of}
use Rattle.browser_model.proofs.TidyRows.{IsShownIn, all-shown}
use Rattle.browser_model.proofs.TidyClose.{closed-same}
use Rattle.browser_model.proofs.TidyDone.{one, left, tidied-matches, tidied-view, tidied-active, tidied-groups}
use Rattle.browser_model.proofs.GroupLaws.{any-same, used-is}

any-append : {X : Type 0} (p : X → Bool) (xs ys : List X) → list_any p (xs ++ ys) ≡ (list_any p xs || list_any p ys)
any-append p [] ys = refl
any-append p (x ∷ xs) ys = ap (λ b. p x || b) (any-append p xs ys) ∙ or-assoc (p x) (list_any p xs) (list_any p ys)
  where
    or-assoc : (a b c : Bool) → (a || (b || c)) ≡ ((a || b) || c)
    or-assoc true b c = refl
    or-assoc false b c = refl

-- only shown tabs use a group
any-shown : (g : GroupInfo) (ts : List Tab) → list_any (uses g) (filter is_tab_shown ts) ≡ list_any (uses g) ts
any-shown g [] = refl
any-shown g (t ∷ ts) = by (any-shown g ts) (is_shown t.window t) refl
  where
    by : list_any (uses g) (filter is_tab_shown ts) ≡ list_any (uses g) ts → (b : Bool) → is_shown t.window t ≡ b
        → list_any (uses g) (filter is_tab_shown (t ∷ ts)) ≡ list_any (uses g) (t ∷ ts)
    by rest true e = ap (λ b. list_any (uses g) (cond b (t ∷ filter is_tab_shown ts) (filter is_tab_shown ts))) e
        ∙ ap (λ b. uses g t || b) rest
    by rest false e =
        ap (λ b. list_any (uses g) (cond b (t ∷ filter is_tab_shown ts) (filter is_tab_shown ts))) e ∙ rest
        ∙ sym (ap (λ b. (b && is_group (group_key g) t.info.group) || list_any (uses g) ts) e)

-- the tabs of the tidied windows use the groups that the shown tabs use
seen-tabs : (g : GroupInfo) (window : ℤ) (n : ℕ) (ts : List Tab) → AllByRecursion (IsShownIn window) ts
    → is_seen_in (stands_from window n (map tidied_tab ts)) g ≡ list_any (uses g) ts
seen-tabs g window n [] all = refl
seen-tabs g window n (t ∷ ts) all =
    let here : is_shown t.window t ≡ true = ap (λ o. is_shown o t) all.0.window_is ∙ all.0.page in
    let some : has_page (tidied_tab t).pages ≡ true = page t.pages all.0.page in
    ap (λ b. (b && is_group (group_key g) t.info.group) || is_seen_in (stands_from window (suc n) (map tidied_tab ts))
    g) (some ∙ sym here)
    ∙ ap (λ b. uses g t || b) (seen-tabs g window (suc n) ts all.1)
  where
    page : {X : Type 0} (ps : List (ℤ × X)) → has_page ps ≡ true → has_page (map (λ p. p.1) ps) ≡ true
    page [] e = absurd cc
    page (p ∷ ps) e = refl

seen-windows : (g : GroupInfo) (tabs : List Tab) (ws : List Window)
    → is_seen_in (all_stands (tidied_windows (λ id. shown_tabs id tabs) ws)) g
    ≡ list_any (uses g) (each_of (λ id. shown_tabs id tabs) ws)
seen-windows g tabs [] = refl
seen-windows g tabs (w ∷ ws) = by (seen-windows g tabs ws) (shown_tabs w.info.id tabs) (all-shown w.info.id tabs)
  where
    by : is_seen_in (all_stands (tidied_windows (λ id. shown_tabs id tabs) ws)) g
        ≡ list_any (uses g) (each_of (λ id. shown_tabs id tabs) ws) → (X : List Tab)
        → AllByRecursion (IsShownIn w.info.id) X
        → is_seen_in (all_stands (tidied_with w X (tidied_windows (λ id. shown_tabs id tabs) ws))) g
        ≡ list_any (uses g) (X ++ each_of (λ id. shown_tabs id tabs) ws)
    by rest [] all = rest
    by rest (t ∷ ts) all =
        any-append (λ s. is_seen s && is_group (group_key g) s.tab.info.group)
        (stands_from w.info.id zero (map tidied_tab (t ∷ ts)))
        (all_stands (tidied_windows (λ id. shown_tabs id tabs) ws))
        ∙ ap (λ b. b || is_seen_in (all_stands (tidied_windows (λ id. shown_tabs id tabs) ws)) g)
        (seen-tabs g w.info.id zero (t ∷ ts) all)
        ∙ ap (λ b. list_any (uses g) (t ∷ ts) || b) rest
        ∙ sym (any-append (uses g) (t ∷ ts) (each_of (λ id. shown_tabs id tabs) ws))

-- an active window that is seen is seen again
active-again : (now : Option ℤ) (ws : List ViewWindow)
    → active_shown (or_now (active_shown now ws) now) ws ≡ active_shown now ws
active-again None [] = refl
active-again None (w ∷ ws) = rw (equals_itself w.info.id) refl
active-again (Some v) [] = refl
active-again (Some v) (w ∷ ws) = by (list_any (λ x. int_eq x.info.id v) (w ∷ ws)) refl
  where
    by : (b : Bool) → list_any (λ x. int_eq x.info.id v) (w ∷ ws) ≡ b
        → active_shown (or_now (active_shown (Some v) (w ∷ ws)) (Some v)) (w ∷ ws) ≡ active_shown (Some v) (w ∷ ws)
    by true e = let a : active_shown (Some v) (w ∷ ws) ≡ Some v = ap (λ b. if b then Some v else Some w.info.id) e in
        ap (λ o. active_shown (or_now o (Some v)) (w ∷ ws)) a
    by false e =
        let a : active_shown (Some v) (w ∷ ws) ≡ Some w.info.id = ap (λ b. if b then Some v else Some w.info.id) e in
        let again : active_shown (Some w.info.id) (w ∷ ws) ≡ Some w.info.id = rw (equals_itself w.info.id) refl in
        ap (λ o. active_shown (or_now o (Some v)) (w ∷ ws)) a ∙ again ∙ sym a

pub view-kept : (s : State) → IsTidyable s → view (machine.fold s (tidying s)) ≡ view s
view-kept s k =
    let s' = machine.fold s (tidying s) in
    let f : ℤ → List Tab = λ id. shown_tabs id s.tabs in
    let windows = tidied-view s k in
    let used : (g : GroupInfo) → is_used s'.tabs g ≡ is_used s.tabs g = λ g.
    used-is s' (tidied s) (tidied-matches s k) g ∙ seen-windows g s.tabs s.windows
    ∙ any-same (uses g) (each_of f s.windows) (filter is_tab_shown s.tabs)
    (λ q. sym (left s k q) ∙ closed-same s is_tab_shown k.running (one s k) q
    ∙ sym (filters (λ t. is_eq (int_cmp q (tab_key t))) is_tab_shown s.tabs))
    ∙ any-shown g s.tabs in
    let groups : filter (is_used s'.tabs) s'.groups ≡ filter (is_used s.tabs) s.groups =
    ap (filter (is_used s'.tabs)) (tidied-groups s k) ∙ agree (is_used s'.tabs) (is_used s.tabs) used s.groups in
    let active : active_shown s'.active (view s').windows ≡ active_shown s.active (view s).windows =
    ap (λ o. active_shown o (view s').windows) (tidied-active s k)
    ∙ ap (λ ws. active_shown (or_now (seen_active s) s.active) ws) windows
    ∙ active-again s.active (view s).windows in
    λ i. record { windows = windows i; groups = groups i; active = active i }
  where
    agree : (p q : GroupInfo → Bool) → ((g : GroupInfo) → p g ≡ q g) → (gs : List GroupInfo) → filter p gs ≡ filter q gs
    agree p q same [] = refl
    agree p q same (g ∷ gs) = rw (same g, agree p q same gs) refl

-- every state can be tidied
pub tidyable : (s : State) → IsState s → IsTidyable s
tidyable s is = record {
  running = record {
    tabs = is.ordered.tabs;
    windows = is.ordered.windows;
    within = rw (within (length s.tabs) is.kept.tabs, within (length s.windows) is.kept.windows) refl;
  };
  standing = is.kept.standing;
  rising = each s.tabs is.kept.each_tab;
}
  where
    within : (n : ℕ) → n ≤ limit → nat_le n limit ≡ true
    within n h = grind (arith, nat_tests)

    each : (ts : List Tab) → AllByRecursion IsKeptTab ts → AllByRecursion (λ t. IsRising (pos 0) t.pages) ts
    each [] all = tt
    each (t ∷ ts) all = (all.0.rising, each ts all.1)
