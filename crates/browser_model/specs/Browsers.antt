-- A browser as plain lists: windows by rising id, each with its tabs in order of place, each tab with its pages; and
-- what a state that matches it says of them.
use Rattle.std.specs.Prelude.{◌≡◌, ℕ, zero, suc, ◌<◌, ℤ, pos, negsuc, List, [], ◌∷◌, map, length, flat_map, Option}
use Rattle.std.specs.Prelude.{Some, IfSome}
use Rattle.std.specs.List.{AllByRecursion}
use Rattle.closed_entries.specs.declared.entry.Entry.{Entry}
use Rattle.navigation_entry.specs.declared.navigation.Navigation.{Navigation}
use Rattle.navigation_entry.specs.declared.group.GroupInfo.{GroupInfo}
use Rattle.window_state.specs.declared.tab.Tab.{Tab}
use Rattle.window_state.specs.declared.tab.TabInfo.{TabInfo}
use Rattle.window_state.specs.declared.window.Window.{Window}
use Rattle.window_state.specs.declared.window.WindowInfo.{WindowInfo}
use Rattle.window_state.specs.Keys.{group_key, group_cmp}
use Rattle.window_state.specs.RowLists.{find_row}
use Rattle.window_state.specs.States.{State}
use Rattle.window_state.specs.TabLists.{Same}

pub record BrowserTab : Type 0 where
  pub info : TabInfo
  pub pages : List Navigation
  -- the place of the page that it shows, -1 without pages
  pub current : ℤ

pub record BrowserWindow : Type 0 where
  pub info : WindowInfo
  pub selected : ℤ
  pub tabs : List BrowserTab

pub record Browser : Type 0 where
  pub windows : List BrowserWindow
  pub groups : List GroupInfo
  pub active : Option ℤ
  -- the newest last
  pub closed : List Entry
  -- the time that its commands carry
  pub moment : ℤ

abbrev pub own_id : BrowserTab → ℤ
own_id t = t.info.id

abbrev pub open_key : BrowserWindow → ℤ
open_key w = w.info.id

-- a tab with the window in which it stands, and its place there
pub record Stand : Type 0 where
  pub window : ℤ
  pub place : ℕ
  pub tab : BrowserTab

abbrev pub stand_key : Stand → ℤ
stand_key s = s.tab.info.id

abbrev pub stands_from : ℤ → ℕ → List BrowserTab → List Stand
stands_from window n [] = []
stands_from window n (t ∷ ts) = record { window = window; place = n; tab = t } ∷ stands_from window (suc n) ts

abbrev pub stands_in : BrowserWindow → List Stand
stands_in w = stands_from w.info.id zero w.tabs

abbrev pub all_stands : List BrowserWindow → List Stand
all_stands windows = flat_map stands_in windows

-- pages with their places
abbrev pub numbered : ℕ → List Navigation → List (ℤ × Navigation)
numbered n [] = []
numbered n (p ∷ ps) = (pos n, p) ∷ numbered (suc n) ps

-- what a state says of a tab
abbrev pub row_of : Stand → Tab
row_of s = record {
  info = s.tab.info;
  window = Some s.window;
  index = pos s.place;
  current = s.tab.current;
  pages = numbered zero s.tab.pages;
}

abbrev pub window_row : BrowserWindow → Window
window_row w = record { info = w.info; selected = w.selected }

-- a place is at a page, or -1 without pages
abbrev pub AtPage : List Navigation → ℤ → Type 0
AtPage [] c = c ≡ negsuc zero
AtPage (p ∷ ps) c = (n : ℕ) × (c ≡ pos n) × (n < suc (length ps))

abbrev pub IsAtPage : BrowserTab → Type 0
IsAtPage t = AtPage t.pages t.current

-- the data of a tab's group is the state's
abbrev pub HasGroup : List GroupInfo → List GroupInfo → BrowserTab → Type 0
HasGroup known groups t =
    IfSome t.info.group (λ id. find_row group_cmp group_key id known ≡ find_row group_cmp group_key id groups)

-- of each tab in each window
abbrev pub EachTab : (BrowserTab → Type 0) → List BrowserWindow → Type 0
EachTab P windows = AllByRecursion (λ w. AllByRecursion P w.tabs) windows

-- what a state says of all tabs
abbrev pub rows : List BrowserWindow → List Tab
rows windows = map row_of (all_stands windows)

-- a state says of its tabs, windows, groups and the active window what the browser's lists say
pub record Matches (s : State) (b : Browser) : Type 0 where
  pub tabs : Same s.tabs (rows b.windows)
  pub windows : s.windows ≡ map window_row b.windows
  pub active : s.active ≡ b.active
  pub groups : EachTab (HasGroup b.groups s.groups) b.windows
  pub at_page : EachTab IsAtPage b.windows
