-- The state of the browser that begins with a view: the rows of its tabs, windows and groups, put one after another.
use Rattle.std.specs.Prelude.{◌≡◌, ℕ, ◌<◌, ◌≤◌, ◌^◌, ℤ, List, [], map, fold, length, Option}
use Rattle.std.specs.declared.cmp.Ordering.{Ordering}
use Rattle.std.specs.List.{AllByRecursion}
use Rattle.std.specs.Ordering.{int_cmp}
use Rattle.window_state.specs.declared.tab.Tab.{Tab}
use Rattle.window_state.specs.declared.view_parts.View.{View}
use Rattle.window_state.specs.declared.view_parts.ViewTab.{ViewTab}
use Rattle.window_state.specs.declared.view_parts.ViewWindow.{ViewWindow}
use Rattle.window_state.specs.Keys.{tab_key, window_key, group_key, group_cmp}
use Rattle.window_state.specs.Limits.{limit}
use Rattle.window_state.specs.RowLists.{put_row}
use Rattle.window_state.specs.States.{State, IsState}
use Rattle.window_state.specs.Views.{view}
use Rattle.browser_model.specs.Browsers.{row_of, stands_from, rows, window_row}
use Rattle.browser_model.specs.Beginnings.{begun_tab, begun_window, first_active}

-- a user sees this of some state
abbrev pub IsViewed : View → Type 0
IsViewed v = (s : State) × IsState s × (v ≡ view s)

-- numbers of a shown tab that fit its row
pub record IsSmallTab (t : ViewTab) : Type 0 where
  pub pages : length t.pages ≤ 2 ^ 31
  pub current : t.current < 2 ^ 31

-- and those of a shown window
pub record IsSmallWindow (w : ViewWindow) : Type 0 where
  pub selected : w.selected < 2 ^ 31
  pub count : length w.tabs ≤ limit
  pub tabs : AllByRecursion IsSmallTab w.tabs

-- rows with more of them, each put in by its key
abbrev pub with_rows : {K R : Type 0} → (K → K → Ordering) → (R → K) → List R → List R → List R
with_rows cmp key known more = fold (λ done row. put_row cmp key row done) known more

abbrev pub with_tabs : List Tab → List Tab → List Tab
with_tabs known more = with_rows int_cmp tab_key known more

-- the rows of shown tabs, from a place of a window on
abbrev pub tab_rows : ℤ → ℕ → List ViewTab → List Tab
tab_rows window place tabs = map row_of (stands_from window place (map begun_tab tabs))

abbrev pub begun_state : View → Option ℤ → State
begun_state v active =
    let windows = map begun_window v.windows in
    record {
      tabs = with_tabs [] (rows windows);
      windows = with_rows int_cmp window_key [] (map window_row windows);
      groups = with_rows group_cmp group_key [] v.groups;
      active = first_active v.active active;
    }
