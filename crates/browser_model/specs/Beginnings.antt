-- The browser of a view: the windows and tabs that a user sees, and what was closed.
use Rattle.std.specs.Prelude.{ℤ, pos, List, map, Option, Some, None}
use Rattle.closed_entries.specs.declared.entry.Entry.{Entry}
use Rattle.window_state.specs.declared.view_parts.ViewTab.{ViewTab}
use Rattle.window_state.specs.declared.view_parts.ViewWindow.{ViewWindow}
use Rattle.window_state.specs.declared.view_parts.View.{View}
use Rattle.browser_model.specs.Browsers.{Browser, BrowserTab, BrowserWindow}

abbrev pub begun_tab : ViewTab → BrowserTab
begun_tab t = record { info = t.info; pages = t.pages; current = pos t.current }

abbrev pub begun_window : ViewWindow → BrowserWindow
begun_window w = record { info = w.info; selected = pos w.selected; tabs = map begun_tab w.tabs }

-- the active window of the view where that is set, else this one
abbrev pub first_active : Option ℤ → Option ℤ → Option ℤ
first_active (Some window) other = Some window
first_active None other = other

abbrev pub begun : View → Option ℤ → List Entry → Browser
begun view active closed = record {
  windows = map begun_window view.windows;
  groups = view.groups;
  active = first_active view.active active;
  closed = closed;
  moment = pos 0;
}
