-- The numbers of a state stay in the ranges of their types when it changes.
use Rattle.std.proofs.Common.{◌≡◌, ◌-ℤ◌, ◌≤ℤ◌, ◌<ℤ◌, ℤ, pos, int_lt, FitsSigned, w32, Bool, true, false, not, List, [], ◌∷◌, Some, IfSome, refl, subst, sym, arith}
use Rattle.std.proofs.lemmas.Int.{ints}
use Rattle.std.specs.Ordering.{int_cmp, match_ordering}
use Rattle.std.specs.declared.cmp.Ordering.TheVariants.{Less, Equal, Greater}
use Rattle.std.specs.List.{AllByRecursion}
use Rattle.navigation_entry.specs.declared.group.GroupInfo.{GroupInfo}
use Rattle.window_state.specs.declared.tab.Tab.{Tab}
use Rattle.window_state.specs.declared.window.Window.{Window}
use Rattle.window_state.specs.declared.change.TabChange.{TabChange}
use Rattle.window_state.specs.declared.change.TabChange.TheVariants as tab
use Rattle.window_state.specs.declared.change.WindowChange.{WindowChange}
use Rattle.window_state.specs.declared.change.WindowChange.TheVariants as window
use Rattle.tab_pages.specs.PageLists.{is_natural, is_positive, is_pruned}
use Rattle.tab_pages.specs.Ranges.{IsPageInRange, IsGroupInRange}
use Rattle.tab_pages.proofs.RangeLaws.{all-filter, fallen, put_page-in_range, prune_front-in_range, prune-in_range}
use Rattle.window_state.specs.RowLists.{put_row}
use Rattle.window_state.specs.Keys.{tab_key, window_key, group_key, group_cmp}
use Rattle.window_state.specs.Changes.{new_tab, new_window, changed_tab, changed_window, current_front, current_pruned}
use Rattle.window_state.specs.Ranges.{IsInfoInRange, IsTabInRange, IsWindowInRange, IsTabChangeInRange, IsWindowChangeInRange}
use Rattle.window_state.specs.States.{State, IsStateInRange, is_in, with_tab, with_window, with_both, with_group, tab_closed, without_window}
use Rattle.window_state.proofs.RowLaws.{all-step, all-without}

-- the current index
current_front-in_range : (count current : ℤ) → FitsSigned w32 current → FitsSigned w32 (current_front count current)
current_front-in_range count current fits = by (is_positive count) refl
  where
    by : (b : Bool) → is_positive count ≡ b → FitsSigned w32 (current_front count current)
    by true e = rw e (grind (arith, ints))
    by false e = rw e fits

current_pruned-in_range : (first count current : ℤ) → FitsSigned w32 first → FitsSigned w32 current → FitsSigned w32 (current_pruned first count current)
current_pruned-in_range first count current low fits = by (is_natural first) refl (is_positive count) refl (is_pruned first count current) refl (int_lt first current) refl
  where
    by : (a : Bool) → is_natural first ≡ a → (b : Bool) → is_positive count ≡ b → (c : Bool) → is_pruned first count current ≡ c → (d : Bool) → int_lt first current ≡ d → FitsSigned w32 (current_pruned first count current)
    by false f b c p g d h = rw f fits
    by true f false c p g d h = rw (f, c) fits
    by true f true c true g d h = rw (f, c, g) (grind (arith, ints))
    by true f true c false g true h =
        let behind : pos 0 ≤ℤ (current -ℤ count) = grind (arith, ints) in
        let positive : pos 0 <ℤ count = grind (arith, ints) in
        rw (f, c, g, h) (fallen count current positive behind fits)
    by true f true c false g false h = rw (f, c, g, h) fits

-- tabs and windows
pub new_tab-in_range : (id : ℤ) → FitsSigned w32 id → IsTabInRange (new_tab id)
new_tab-in_range id fits = record {
  info = record { id = fits; group = tt; last_active = omega (arith, ints) };
  window = tt;
  index = omega (arith, ints);
  current = omega (arith, ints);
  pages = tt;
}

pub new_window-in_range : (id : ℤ) → FitsSigned w32 id → IsWindowInRange (new_window id)
new_window-in_range id fits = record { id = fits; kind = omega (arith, ints); bounds = tt; selected = omega (arith, ints) }

-- a text or a flag of a tab is no number
same-info : (t new : Tab) → IsInfoInRange new.info → new.window ≡ t.window → new.index ≡ t.index → new.current ≡ t.current → new.pages ≡ t.pages → IsTabInRange t → IsTabInRange new
same-info t new info window index current pages r = record {
  info = info;
  window = subst (λ w. IfSome w (FitsSigned w32)) (sym window) r.window;
  index = subst (FitsSigned w32) (sym index) r.index;
  current = subst (FitsSigned w32) (sym current) r.current;
  pages = subst (AllByRecursion IsPageInRange) (sym pages) r.pages;
}

pub changed_tab-in_range : (change : TabChange) (t : Tab) → IsTabChangeInRange change → IsTabInRange t → IsTabInRange (changed_tab change t)
changed_tab-in_range (tab.Index index) t c r = record { info = r.info; window = r.window; index = c; current = r.current; pages = r.pages }
changed_tab-in_range (tab.Page index n) t c r = record { info = r.info; window = r.window; index = r.index; current = r.current; pages = put_page-in_range index n t.pages c r.pages }
changed_tab-in_range (tab.Current index) t c r = record { info = r.info; window = r.window; index = r.index; current = c; pages = r.pages }
changed_tab-in_range (tab.PruneBack index) t c r = record { info = r.info; window = r.window; index = r.index; current = r.current; pages = all-filter IsPageInRange (λ page. int_lt page.0 index) t.pages r.pages }
changed_tab-in_range (tab.PruneFront count) t c r = record { info = r.info; window = r.window; index = r.index; current = current_front-in_range count t.current r.current; pages = prune_front-in_range count t.pages r.pages }
changed_tab-in_range (tab.Prune index count) t c r = record { info = r.info; window = r.window; index = r.index; current = current_pruned-in_range index count t.current c.0 r.current; pages = prune-in_range index count t.pages r.pages }
changed_tab-in_range (tab.Pinned pinned) t c r = same-info t (changed_tab (tab.Pinned pinned) t) (record { id = r.info.id; group = r.info.group; last_active = r.info.last_active }) refl refl refl refl r
changed_tab-in_range (tab.Extension text) t c r = same-info t (changed_tab (tab.Extension text) t) (record { id = r.info.id; group = r.info.group; last_active = r.info.last_active }) refl refl refl refl r
changed_tab-in_range (tab.Storage text) t c r = same-info t (changed_tab (tab.Storage text) t) (record { id = r.info.id; group = r.info.group; last_active = r.info.last_active }) refl refl refl refl r
changed_tab-in_range (tab.Guid text) t c r = same-info t (changed_tab (tab.Guid text) t) (record { id = r.info.id; group = r.info.group; last_active = r.info.last_active }) refl refl refl refl r
changed_tab-in_range (tab.Agent rest) t c r = same-info t (changed_tab (tab.Agent rest) t) (record { id = r.info.id; group = r.info.group; last_active = r.info.last_active }) refl refl refl refl r
changed_tab-in_range (tab.Group group) t c r = same-info t (changed_tab (tab.Group group) t) (record { id = r.info.id; group = c; last_active = r.info.last_active }) refl refl refl refl r
changed_tab-in_range (tab.LastActive time) t c r = same-info t (changed_tab (tab.LastActive time) t) (record { id = r.info.id; group = r.info.group; last_active = c }) refl refl refl refl r
changed_tab-in_range (tab.ExtraValue key value) t c r = same-info t (changed_tab (tab.ExtraValue key value) t) (record { id = r.info.id; group = r.info.group; last_active = r.info.last_active }) refl refl refl refl r

pub changed_window-in_range : (change : WindowChange) (w : Window) → IsWindowChangeInRange change → IsWindowInRange w → IsWindowInRange (changed_window change w)
changed_window-in_range (window.Selected index) w c r = record { id = r.id; kind = r.kind; bounds = r.bounds; selected = c }
changed_window-in_range (window.Kind kind) w c r = record { id = r.id; kind = c; bounds = r.bounds; selected = r.selected }
changed_window-in_range (window.Bounded bounds) w c r = record { id = r.id; kind = r.kind; bounds = c; selected = r.selected }
changed_window-in_range (window.App text) w c r = record { id = r.id; kind = r.kind; bounds = r.bounds; selected = r.selected }
changed_window-in_range (window.Workspace text) w c r = record { id = r.id; kind = r.kind; bounds = r.bounds; selected = r.selected }
changed_window-in_range (window.AllWorkspaces all) w c r = record { id = r.id; kind = r.kind; bounds = r.bounds; selected = r.selected }
changed_window-in_range (window.Title text) w c r = record { id = r.id; kind = r.kind; bounds = r.bounds; selected = r.selected }
changed_window-in_range (window.ExtraValue key value) w c r = record { id = r.id; kind = r.kind; bounds = r.bounds; selected = r.selected }

-- a state
pub tab-in_range : (id : ℤ) (change : Tab → Tab) (s : State) → FitsSigned w32 id → ((t : Tab) → IsTabInRange t → IsTabInRange (change t)) → IsStateInRange s → IsStateInRange (with_tab id change s)
tab-in_range id change s fits stays r = record {
  tabs = all-step int_cmp tab_key IsTabInRange id (new_tab id) change s.tabs (stays (new_tab id) (new_tab-in_range id fits)) stays r.tabs;
  windows = r.windows;
  groups = r.groups;
  active = r.active;
}

pub window-in_range : (id : ℤ) (change : Window → Window) (s : State) → FitsSigned w32 id → ((w : Window) → IsWindowInRange w → IsWindowInRange (change w)) → IsStateInRange s → IsStateInRange (with_window id change s)
window-in_range id change s fits stays r = record {
  tabs = r.tabs;
  windows = all-step int_cmp window_key IsWindowInRange id (new_window id) change s.windows (stays (new_window id) (new_window-in_range id fits)) stays r.windows;
  groups = r.groups;
  active = r.active;
}

pub both-in_range : (window tab : ℤ) (s : State) → FitsSigned w32 window → FitsSigned w32 tab → IsStateInRange s → IsStateInRange (with_both window tab s)
both-in_range window tab s first second r = tab-in_range tab (λ t. record t { window = Some window }) (with_window window (λ w. w) s) second
    (λ t stays. record { info = stays.info; window = first; index = stays.index; current = stays.current; pages = stays.pages })
    (window-in_range window (λ w. w) s first (λ w stays. stays) r)

put_group-in_range : (group : GroupInfo) (groups : List GroupInfo) → IsGroupInRange group → AllByRecursion IsGroupInRange groups → AllByRecursion IsGroupInRange (put_row group_cmp group_key group groups)
put_group-in_range group [] new all = (new, tt)
put_group-in_range group (g ∷ gs) new all =
    let rest = put_group-in_range group gs new all.1 in
    elim (group_cmp (group_key group) (group_key g)) as (λ o. AllByRecursion IsGroupInRange (match_ordering o (group ∷ g ∷ gs) (group ∷ gs) (g ∷ put_row group_cmp group_key group gs)))
    [ Less ↦ (new, all) | Equal ↦ (new, all.1) | Greater ↦ (all.0, rest) ]

pub group-in_range : (group : GroupInfo) (s : State) → IsGroupInRange group → IsStateInRange s → IsStateInRange (with_group group s)
group-in_range group s new r = record { tabs = r.tabs; windows = r.windows; groups = put_group-in_range group s.groups new r.groups; active = r.active }

pub closed-in_range : (id : ℤ) (s : State) → IsStateInRange s → IsStateInRange (tab_closed id s)
closed-in_range id s r = record { tabs = all-without int_cmp tab_key IsTabInRange id s.tabs r.tabs; windows = r.windows; groups = r.groups; active = r.active }

pub without_window-in_range : (id : ℤ) (s : State) → IsStateInRange s → IsStateInRange (without_window id s)
without_window-in_range id s r = record {
  tabs = all-filter IsTabInRange (λ t. not (is_in id t.window)) s.tabs r.tabs;
  windows = all-without int_cmp window_key IsWindowInRange id s.windows r.windows;
  groups = r.groups;
  active = r.active;
}
