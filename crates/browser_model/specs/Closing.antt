-- A tab or a window is closed: what becomes of the browser, and the commands.
use Rattle.std.specs.Prelude.{ℤ, List, [], ◌∷◌}
use Rattle.std.specs.Ordering.{int_cmp}
use Rattle.session_commands.specs.declared.command.SessionCommand.{SessionCommand}
use Rattle.session_commands.specs.declared.command.SessionCommand.TheVariants.{TabClosed, WindowClosed}
use Rattle.window_state.specs.RowLists.{without_row}
use Rattle.browser_model.specs.Browsers.{Browser, Stand, open_key, stand_key}
use Rattle.browser_model.specs.Tabs.{taken_out, places, later_tabs}

-- the later tabs of its window move up
abbrev pub closed_tab : ℤ → Browser → Browser
closed_tab id b = record b { windows = taken_out id b.windows }

abbrev pub close_tab : Stand → Browser → List SessionCommand
close_tab s b = TabClosed (stand_key s) b.moment ∷ places s.place (later_tabs s b.windows)

-- its tabs go with it
abbrev pub closed_window : ℤ → Browser → Browser
closed_window id b = record b { windows = without_row int_cmp open_key id b.windows }

abbrev pub close_window : ℤ → Browser → List SessionCommand
close_window id b = WindowClosed id b.moment ∷ []
