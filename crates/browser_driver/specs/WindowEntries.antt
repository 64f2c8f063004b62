-- What stays of the rows of a window that is closed, and what a call makes that closes it.
use Rattle.std.specs.Prelude.{ℕ, zero, suc, ℤ, pos, if◌then◌else◌, List, [], ◌∷◌, ◌++◌, map, Option, Some, None, Ok}
use Rattle.std.specs.List.{filter_map}
use Rattle.std.specs.Option.{unwrap_or}
use Rattle.std.specs.Ordering.{int_cmp}
use Rattle.closed_entries.specs.declared.closed_window.ClosedWindow.{ClosedWindow}
use Rattle.closed_entries.specs.declared.entry.Entry.{Entry}
use Rattle.closed_entries.specs.declared.entry.Entry.TheVariants as entry
use Rattle.navigation_entry.specs.declared.group.GroupInfo.{GroupInfo}
use Rattle.session_commands.specs.declared.command.SessionCommand.TheVariants.{WindowClosed}
use Rattle.tab_pages.specs.PageLists.{has_page}
use Rattle.tab_pages.specs.Positions.{first_from}
use Rattle.window_state.specs.declared.tab.Tab.{Tab}
use Rattle.window_state.specs.declared.window.Window.{Window}
use Rattle.window_state.specs.Keys.{tab_key}
use Rattle.window_state.specs.RowLists.{find_row}
use Rattle.window_state.specs.States.{window_closed}
use Rattle.browser_model.specs.Entries.{no_bounds}
use Rattle.browser_driver.specs.Orders.{order_of}
use Rattle.browser_driver.specs.SeatPlans.{Parts, SeatPlan, closed_row, set_order}
use Rattle.browser_driver.specs.WindowPlans.{at_window_row}

abbrev pub with_pages : Option Tab → Option Tab
with_pages None = None
with_pages (Some t) = if has_page t.pages then Some t else None

-- the tab with this id, where it is there and has pages
abbrev pub seen_tab : List Tab → ℤ → Option Tab
seen_tab tabs id = with_pages (find_row int_cmp tab_key id tabs)

abbrev pub seen_rows : List Tab → List ℤ → List Tab
seen_rows tabs ids = filter_map (seen_tab tabs) ids

abbrev pub place_where : ℕ → Option Tab → List ℤ
place_where n None = []
place_where n (Some t) = pos n ∷ []

-- the places of those that have pages, from a first place on
abbrev pub seen_places : List Tab → ℕ → List ℤ → List ℤ
seen_places tabs n [] = []
seen_places tabs n (id ∷ ids) = place_where n (seen_tab tabs id) ++ seen_places tabs (suc n) ids

abbrev pub closed_rows : List GroupInfo → ℤ → Window → List ℤ → List Tab → ClosedWindow
closed_rows groups moment w places seen = record {
  id = w.info.id;
  selected = pos (first_from w.selected places);
  time = moment;
  bounds = unwrap_or w.info.bounds no_bounds;
  app = w.info.app;
  title = w.info.title;
  tabs = map (closed_row groups moment) seen;
}

-- without a tab that has pages nothing stays
abbrev pub entry_of_rows : List GroupInfo → ℤ → Window → List ℤ → List Tab → Option Entry
entry_of_rows groups moment w places [] = None
entry_of_rows groups moment w places (t ∷ ts) = Some (entry.Window (closed_rows groups moment w places (t ∷ ts)))

-- of a window with the tabs of an order
abbrev pub entry_in_order : List Tab → List GroupInfo → ℤ → Window → List ℤ → Option Entry
entry_in_order tabs groups moment w ids =
    entry_of_rows groups moment w (seen_places tabs zero ids) (seen_rows tabs ids)

abbrev pub closes_window_row : ℤ → ℤ → Parts → Window → SeatPlan
closes_window_row id moment old w = Ok (record {
  state = window_closed id old.state;
  orders = set_order id [] old.orders;
  session = WindowClosed id moment ∷ [];
  left = entry_in_order old.state.tabs old.state.groups moment w (order_of id old.orders);
})

abbrev pub closes_window : ℤ → ℤ → Parts → SeatPlan
closes_window id moment old = at_window_row id old.state (closes_window_row id moment old)
