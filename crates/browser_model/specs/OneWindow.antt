-- One window changes where it stands: what becomes of the browser.
use Rattle.std.specs.Prelude.{ℤ, map, Some}
use Rattle.std.specs.Ordering.{int_cmp}
use Rattle.navigation_entry.specs.declared.bounds.Bounds.{Bounds}
use Rattle.window_state.specs.RowLists.{on_key}
use Rattle.browser_model.specs.Browsers.{Browser, BrowserWindow, open_key}

abbrev pub on_window : ℤ → (BrowserWindow → BrowserWindow) → Browser → Browser
on_window id change b = record b { windows = map (on_key int_cmp open_key id change) b.windows }

abbrev pub selected : ℤ → BrowserWindow → BrowserWindow
selected place w = record w { selected = place }

abbrev pub bounded : Bounds → BrowserWindow → BrowserWindow
bounded bounds w = record w { info = record w.info { bounds = Some bounds } }
