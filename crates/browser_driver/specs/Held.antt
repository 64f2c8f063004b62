-- The browser that a state, orders of tabs and closed entries hold.
use Rattle.std.specs.Prelude.{◌≡◌, ℤ, pos, List, [], map, Option, Some, None}
use Rattle.std.specs.Ordering.{int_cmp}
use Rattle.closed_entries.specs.declared.entry.Entry.{Entry}
use Rattle.window_state.specs.declared.tab.Tab.{Tab}
use Rattle.window_state.specs.declared.window.Window.{Window}
use Rattle.window_state.specs.Keys.{tab_key}
use Rattle.window_state.specs.RowLists.{find_row}
use Rattle.window_state.specs.States.{State}
use Rattle.browser_model.specs.Browsers.{Browser, BrowserWindow, BrowserTab, Matches, own_id}
use Rattle.browser_model.specs.Opening.{fresh_tab}
use Rattle.browser_model.specs.Tabs.{tabs_of}
use Rattle.browser_model.specs.Running.{IsRunning}
use Rattle.browser_driver.specs.Orders.{order_of}

abbrev pub none : Browser
none = record { windows = []; groups = []; active = None; closed = []; moment = pos 0 }

abbrev pub tab_from : ℤ → Option Tab → BrowserTab
tab_from id None = fresh_tab id
tab_from id (Some t) = record { info = t.info; pages = map (λ page. page.1) t.pages; current = t.current }

abbrev pub tab_in : List Tab → ℤ → BrowserTab
tab_in tabs id = tab_from id (find_row int_cmp tab_key id tabs)

abbrev pub window_in : List Tab → List (ℤ × List ℤ) → Window → BrowserWindow
window_in tabs orders w =
    record { info = w.info; selected = w.selected; tabs = map (tab_in tabs) (order_of w.info.id orders) }

abbrev pub held : State → List (ℤ × List ℤ) → List Entry → ℤ → Browser
held s orders closed moment = record {
  windows = map (window_in s.tabs orders) s.windows;
  groups = s.groups;
  active = s.active;
  closed = closed;
  moment = moment;
}

-- the order of each window has the ids of its tabs, and a window that isn't there has no order
abbrev pub AreSeated : List (ℤ × List ℤ) → List BrowserWindow → Type 0
AreSeated orders windows = (w : ℤ) → order_of w orders ≡ map own_id (tabs_of w windows)

-- the state matches the browser that is held
pub record IsHeld (s : State) (orders : List (ℤ × List ℤ)) (closed : List Entry) (moment : ℤ) : Type 0 where
  pub running : IsRunning s
  pub matches : Matches s (held s orders closed moment)
  pub seated : AreSeated orders (held s orders closed moment).windows
