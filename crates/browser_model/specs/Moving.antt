-- A tab moves to a place of a window, its own or another: what becomes of the browser, and the commands, which
-- tell each tab its place whose place changes.
use Rattle.std.specs.Prelude.{ℕ, suc, ◌-◌, nat_lt, ℤ, if◌then◌else◌, List, [], ◌∷◌, ◌++◌, take, drop}
use Rattle.std.specs.Ordering.{int_cmp, is_eq}
use Rattle.session_commands.specs.declared.command.SessionCommand.{SessionCommand}
use Rattle.session_commands.specs.declared.command.SessionCommand.TheVariants.{TabWindow}
use Rattle.browser_model.specs.Browsers.{Browser, BrowserWindow, BrowserTab, Stand, stand_key}
use Rattle.browser_model.specs.Tabs.{tabs_of, taken_out, put_at, put_in, places, later_tabs}

-- what a window holds without the tab
abbrev pub others_of : Stand → ℤ → List BrowserWindow → List BrowserTab
others_of s window windows = tabs_of window (taken_out (stand_key s) windows)

abbrev pub moved_tab : Stand → ℤ → ℕ → Browser → Browser
moved_tab s window place b = record b { windows = put_in window place s.tab (taken_out (stand_key s) b.windows) }

-- the tabs behind it in its old window, then it and those behind it in the new one
abbrev pub move_elsewhere : Stand → ℤ → ℕ → Browser → List SessionCommand
move_elsewhere s window place b =
    (TabWindow window (stand_key s) ∷ [])
    ++ (places s.place (later_tabs s b.windows)
    ++ places place (s.tab ∷ drop place (others_of s window b.windows)))

-- the tabs from its old place to the new one
abbrev pub move_within : Stand → ℕ → Browser → List SessionCommand
move_within s place b =
    let tabs = put_at place s.tab (others_of s s.window b.windows) in
    if nat_lt s.place place
    then places s.place (take (suc (place - s.place)) (drop s.place tabs))
    else places place (take (suc (s.place - place)) (drop place tabs))

abbrev pub move : Stand → ℤ → ℕ → Browser → List SessionCommand
move s window place b =
    if is_eq (int_cmp window s.window)
    then move_within s place b
    else move_elsewhere s window place b
