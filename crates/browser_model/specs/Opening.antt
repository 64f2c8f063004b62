-- A window or a tab is opened: what becomes of the browser, and the commands.
use Rattle.std.specs.Prelude.{zero, ℤ, pos, negsuc, List, [], ◌∷◌, ◌++◌, length}
use Rattle.std.specs.Ordering.{int_cmp}
use Rattle.session_commands.specs.declared.command.SessionCommand.{SessionCommand}
use Rattle.session_commands.specs.declared.command.SessionCommand.TheVariants.{TabWindow, TabIndex, WindowKind}
use Rattle.window_state.specs.Changes.{new_tab, new_window}
use Rattle.window_state.specs.RowLists.{step_row}
use Rattle.browser_model.specs.Browsers.{Browser, BrowserWindow, BrowserTab, open_key}
use Rattle.browser_model.specs.Tabs.{tabs_of, with_tabs}

abbrev pub fresh_tab : ℤ → BrowserTab
fresh_tab id = record { info = (new_tab id).info; pages = []; current = negsuc zero }

abbrev pub fresh_window : ℤ → BrowserWindow
fresh_window id = record { info = (new_window id).info; selected = negsuc zero; tabs = [] }

-- the tab goes last in its window, which is opened where it isn't open
abbrev pub opened_tab : ℤ → ℤ → Browser → Browser
opened_tab window id b =
    let add = with_tabs (λ tabs. tabs ++ fresh_tab id ∷ []) in
    record b { windows = step_row int_cmp open_key window (fresh_window window) add b.windows }

abbrev pub open_tab : ℤ → ℤ → Browser → List SessionCommand
open_tab window id b = TabWindow window id ∷ TabIndex id (pos (length (tabs_of window b.windows))) ∷ []

-- a window without tabs
abbrev pub opened_window : ℤ → Browser → Browser
opened_window id b = record b { windows = step_row int_cmp open_key id (fresh_window id) (λ w. w) b.windows }

abbrev pub open_window : ℤ → List SessionCommand
open_window id = WindowKind id (pos 0) ∷ []
