-- What a user sees of a state: the tabs that have a window and a page, sorted by their places, and the windows that
-- have such a tab.
use Rattle.std.specs.Prelude.{◌==◌, ℤ, Bool, false, ◌&&◌, if◌then◌else◌, List, [], ◌∷◌, map, filter, fold, Option, Some, None}
use Rattle.std.specs.List.{list_any}
use Rattle.std.specs.Ordering.{int_cmp, int_eq, ordering_then, match_ordering}
use Rattle.std.specs.declared.cmp.Ordering.{Ordering}
use Rattle.navigation_entry.specs.declared.group.GroupInfo.{GroupInfo}
use Rattle.window_state.specs.declared.group_id.GroupId.{GroupId}
use Rattle.window_state.specs.declared.tab.Tab.{Tab}
use Rattle.window_state.specs.declared.window.Window.{Window}
use Rattle.window_state.specs.declared.view_parts.ViewTab.{ViewTab}
use Rattle.window_state.specs.declared.view_parts.ViewWindow.{ViewWindow}
use Rattle.window_state.specs.declared.view_parts.View.{View}
use Rattle.window_state.specs.Keys.{group_key}
use Rattle.tab_pages.specs.PageLists.{has_page}
use Rattle.tab_pages.specs.Positions.{first_from}
use Rattle.window_state.specs.States.{State, is_in}

abbrev pub is_shown : Option ℤ → Tab → Bool
is_shown None t = false
is_shown (Some window) t = has_page t.pages

abbrev pub is_shown_in : ℤ → Tab → Bool
is_shown_in window t = is_in window t.window && has_page t.pages

-- by index, then by id
abbrev pub place_cmp : Tab → Tab → Ordering
place_cmp t u = ordering_then (int_cmp t.index u.index) (int_cmp t.info.id u.info.id)

abbrev pub insert_by_place : List Tab → Tab → List Tab
insert_by_place [] t = t ∷ []
insert_by_place (u ∷ us) t = match_ordering (place_cmp t u) (t ∷ u ∷ us) (t ∷ u ∷ us) (u ∷ insert_by_place us t)

-- sorted, one put in after another
abbrev pub by_place : List Tab → List Tab
by_place tabs = fold insert_by_place [] tabs

abbrev pub shown_tabs : ℤ → List Tab → List Tab
shown_tabs window tabs = by_place (filter (is_shown_in window) tabs)

abbrev pub view_tab : Tab → ViewTab
view_tab t = record { info = t.info; pages = map (λ page. page.1) t.pages; current = first_from t.current (map (λ page. page.0) t.pages) }

abbrev pub view_window : Window → List Tab → ViewWindow
view_window w tabs = record { info = w.info; selected = first_from w.selected (map (λ t. t.index) tabs); tabs = map view_tab tabs }

abbrev pub with_shown : Window → List Tab → List ViewWindow → List ViewWindow
with_shown w [] others = others
with_shown w (t ∷ ts) others = view_window w (t ∷ ts) ∷ others

-- the windows in which tabs are shown, by what is shown under each id
abbrev pub view_windows : (ℤ → List Tab) → List Window → List ViewWindow
view_windows tabs_of [] = []
view_windows tabs_of (w ∷ ws) = with_shown w (tabs_of w.info.id) (view_windows tabs_of ws)

abbrev pub is_group : GroupId → Option GroupId → Bool
is_group id None = false
is_group id (Some own) = (own.high == id.high) && (own.low == id.low)

-- the tab is shown and in the group
abbrev pub uses : GroupInfo → Tab → Bool
uses group t = is_shown t.window t && is_group (group_key group) t.info.group

abbrev pub is_used : List Tab → GroupInfo → Bool
is_used tabs group = list_any (uses group) tabs

abbrev pub least_shown : List ViewWindow → Option ℤ
least_shown [] = None
least_shown (w ∷ ws) = Some w.info.id

-- the active window where it is shown, else the least shown
abbrev pub active_shown : Option ℤ → List ViewWindow → Option ℤ
active_shown None windows = least_shown windows
active_shown (Some id) windows = if list_any (λ w. int_eq w.info.id id) windows then Some id else least_shown windows

abbrev pub view : State → View
view s =
    let windows = view_windows (λ id. shown_tabs id s.tabs) s.windows in
    record { windows = windows; groups = filter (is_used s.tabs) s.groups; active = active_shown s.active windows }
