-- Where a browser's tabs stand, and how one of them changes, goes or comes.
use Rattle.std.specs.Prelude.{ℕ, suc, ℤ, pos, Bool, not, List, [], ◌∷◌, ◌++◌, map, filter, take, drop, Option, Some}
use Rattle.std.specs.Prelude.{None}
use Rattle.std.specs.Ordering.{int_cmp, is_eq}
use Rattle.session_commands.specs.declared.command.SessionCommand.{SessionCommand}
use Rattle.session_commands.specs.declared.command.SessionCommand.TheVariants.{TabIndex}
use Rattle.window_state.specs.RowLists.{find_row, on_key}
use Rattle.browser_model.specs.Browsers.{Browser, BrowserWindow, BrowserTab, Stand, own_id, open_key, stand_key}
use Rattle.browser_model.specs.Browsers.{all_stands}

abbrev pub tabs_or_none : Option BrowserWindow → List BrowserTab
tabs_or_none None = []
tabs_or_none (Some w) = w.tabs

-- the tabs of a window in order of place, none where it isn't open
abbrev pub tabs_of : ℤ → List BrowserWindow → List BrowserTab
tabs_of id windows = tabs_or_none (find_row int_cmp open_key id windows)

-- the tab with an id, with its window and place
abbrev pub stand_of : ℤ → Browser → Option Stand
stand_of id b = find_row int_cmp stand_key id (all_stands b.windows)

abbrev pub with_tabs : (List BrowserTab → List BrowserTab) → BrowserWindow → BrowserWindow
with_tabs change w = record w { tabs = change w.tabs }

-- a tab becomes another
abbrev pub put_tab : ℤ → BrowserTab → List BrowserWindow → List BrowserWindow
put_tab id new windows = map (with_tabs (map (on_key int_cmp own_id id (λ t. new)))) windows

-- a tab goes
abbrev pub is_other : ℤ → BrowserTab → Bool
is_other id t = not (is_eq (int_cmp id t.info.id))

abbrev pub taken_out : ℤ → List BrowserWindow → List BrowserWindow
taken_out id windows = map (with_tabs (filter (is_other id))) windows

-- a tab comes to a place of a window
abbrev pub put_at : ℕ → BrowserTab → List BrowserTab → List BrowserTab
put_at place t tabs = take place tabs ++ t ∷ drop place tabs

abbrev pub put_in : ℤ → ℕ → BrowserTab → List BrowserWindow → List BrowserWindow
put_in window place t windows = map (on_key int_cmp open_key window (with_tabs (put_at place t))) windows

-- each tab is told its place, from a first one on
abbrev pub places : ℕ → List BrowserTab → List SessionCommand
places n [] = []
places n (t ∷ ts) = TabIndex t.info.id (pos n) ∷ places (suc n) ts

-- the tabs of its window behind a tab
abbrev pub later_tabs : Stand → List BrowserWindow → List BrowserTab
later_tabs s windows = drop (suc s.place) (tabs_of s.window windows)
