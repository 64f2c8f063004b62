-- What a view and its closed entries are in lines: a line a window and a tab, one for the active window, one an entry.
use Rattle.std.specs.Prelude.{ℕ, ℤ, List, [], ◌++◌, length, codes, Option, None, Some, slice_get}
use Rattle.std.specs.List.{flat_map}
use Rattle.std.specs.Fmt.{decimal, signed_decimal}
use Rattle.navigation_entry.specs.declared.navigation.Navigation.{Navigation}
use Rattle.window_state.specs.declared.view_parts.ViewTab.{ViewTab}
use Rattle.window_state.specs.declared.view_parts.ViewWindow.{ViewWindow}
use Rattle.window_state.specs.declared.view_parts.View.{View}
use Rattle.closed_entries.specs.declared.entry.Entry.{Entry}
use Rattle.closed_entries.specs.declared.entry.Entry.TheVariants.{Tab, Window}
use Rattle.shown_texts.specs.Shown.{shown_bytes}

-- the URL of the page that a tab shows; every shown tab has one
abbrev pub url_of : Option Navigation → List ℕ
url_of None = []
url_of (Some page) = page.url

abbrev pub tab_line : ViewTab → List ℕ
tab_line t =
    codes "tab " ++ (signed_decimal t.info.id ++ (codes " page " ++ (decimal t.current ++ (codes " of "
    ++ (decimal (length t.pages) ++ (codes " \"" ++ (shown_bytes (url_of (slice_get t.pages t.current)) ++ codes "\"\n")))))))

abbrev pub window_line : ViewWindow → List ℕ
window_line w =
    codes "window " ++ (signed_decimal w.info.id ++ (codes " selected " ++ (decimal w.selected ++ codes "\n")))

unfoldable pub window_lines : ViewWindow → List ℕ
window_lines w = window_line w ++ flat_map tab_line w.tabs

abbrev pub active_line : Option ℤ → List ℕ
active_line None = codes "active none\n"
active_line (Some window) = codes "active " ++ (signed_decimal window ++ codes "\n")

-- how many pages a closed tab has, or how many tabs a closed window
abbrev pub entry_line : Entry → List ℕ
entry_line (Tab t) = codes "closed-tab " ++ (signed_decimal t.id ++ (codes " pages " ++ (decimal (length t.pages) ++ codes "\n")))
entry_line (Window w) =
    codes "closed-window " ++ (signed_decimal w.id ++ (codes " tabs " ++ (decimal (length w.tabs) ++ codes "\n")))

-- the entries as they are given, the newest first
abbrev pub recovered_lines : View → List Entry → List ℕ
recovered_lines view entries =
    flat_map window_lines view.windows ++ (active_line view.active ++ flat_map entry_line entries)
