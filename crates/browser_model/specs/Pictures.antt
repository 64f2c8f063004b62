-- What a user sees of a browser: its lists alone.
use Rattle.std.specs.Prelude.{ℕ, zero, ℤ, pos, negsuc, Bool, ◌&&◌, List, [], ◌∷◌, map, filter, reverse}
use Rattle.std.specs.List.{list_any}
use Rattle.closed_entries.specs.declared.entry.Entry.{Entry}
use Rattle.navigation_entry.specs.declared.group.GroupInfo.{GroupInfo}
use Rattle.tab_pages.specs.PageLists.{has_page}
use Rattle.tab_pages.specs.Positions.{first_from}
use Rattle.window_state.specs.declared.view_parts.ViewTab.{ViewTab}
use Rattle.window_state.specs.declared.view_parts.ViewWindow.{ViewWindow}
use Rattle.window_state.specs.declared.view_parts.View.{View}
use Rattle.window_state.specs.Keys.{group_key}
use Rattle.window_state.specs.Views.{is_group, active_shown}
use Rattle.browser_model.specs.Browsers.{Browser, BrowserWindow, BrowserTab, Stand, stands_in, all_stands}

abbrev pub nat_of : ℤ → ℕ
nat_of (pos n) = n
nat_of (negsuc n) = zero

abbrev pub picture_tab : BrowserTab → ViewTab
picture_tab t = record { info = t.info; pages = t.pages; current = nat_of t.current }

-- the stands of tabs with pages
abbrev pub is_seen : Stand → Bool
is_seen s = has_page s.tab.pages

abbrev pub picture_with : BrowserWindow → List Stand → List ViewWindow → List ViewWindow
picture_with w [] others = others
picture_with w (s ∷ ss) others =
    record {
      info = w.info;
      selected = first_from w.selected (map (λ x. pos x.place) (s ∷ ss));
      tabs = map (λ x. picture_tab x.tab) (s ∷ ss);
    } ∷ others

abbrev pub picture_windows : List BrowserWindow → List ViewWindow
picture_windows [] = []
picture_windows (w ∷ ws) = picture_with w (filter is_seen (stands_in w)) (picture_windows ws)

abbrev pub is_seen_in : List Stand → GroupInfo → Bool
is_seen_in stands group = list_any (λ s. is_seen s && is_group (group_key group) s.tab.info.group) stands

abbrev pub picture_view : Browser → View
picture_view b =
    let windows = picture_windows b.windows in
    record {
      windows = windows;
      groups = filter (is_seen_in (all_stands b.windows)) b.groups;
      active = active_shown b.active windows;
    }

-- the view, and what was closed, the newest first
pub record Picture : Type 0 where
  pub view : View
  pub closed : List Entry

abbrev pub picture : Browser → Picture
picture b = record { view = picture_view b; closed = reverse b.closed }
