-- What a view and its closed entries are as one value of JSON, and its compact text.
use Rattle.std.specs.Prelude.{ℕ, ℤ, List, ◌++◌, map, codes, Option, None, Some}
use Rattle.serde_json.specs.Data.{Data, null, boolean, number, string, array, object, unsigned, member, no_members}
use Rattle.serde_json.specs.Find.{of_integer}
use Rattle.serde_json.specs.View.{items_of}
use Rattle.serde_json.specs.Written.{compact_text}
use Rattle.window_state.specs.declared.view_parts.ViewTab.{ViewTab}
use Rattle.window_state.specs.declared.view_parts.ViewWindow.{ViewWindow}
use Rattle.window_state.specs.declared.view_parts.View.{View}
use Rattle.closed_entries.specs.declared.closed_tab.ClosedTab.{ClosedTab}
use Rattle.closed_entries.specs.declared.closed_window.ClosedWindow.{ClosedWindow}
use Rattle.closed_entries.specs.declared.entry.Entry.{Entry}
use Rattle.closed_entries.specs.declared.entry.Entry.TheVariants.{Tab, Window}
use Rattle.view_reports.specs.PageValue.{pages_value}

abbrev pub tab_value : ViewTab → Data
tab_value t =
    object (member (codes "current") (number (unsigned t.current)) (member (codes "id") (number (of_integer t.info.id))
    (member (codes "pages") (pages_value t.pages) (member (codes "pinned") (boolean t.info.pinned) no_members))))

abbrev pub window_value : ViewWindow → Data
window_value w =
    object (member (codes "id") (number (of_integer w.info.id)) (member (codes "selected") (number (unsigned w.selected))
    (member (codes "tabs") (array (items_of (map tab_value w.tabs))) no_members)))

abbrev pub closed_tab_value : ClosedTab → Data
closed_tab_value t =
    object (member (codes "id") (number (of_integer t.id)) (member (codes "kind") (string (codes "tab"))
    (member (codes "pages") (pages_value (map (λ page. page.1) t.pages)) no_members)))

abbrev pub closed_window_value : ClosedWindow → Data
closed_window_value w =
    object (member (codes "id") (number (of_integer w.id)) (member (codes "kind") (string (codes "window"))
    (member (codes "tabs") (array (items_of (map closed_tab_value w.tabs))) no_members)))

abbrev pub entry_value : Entry → Data
entry_value (Tab t) = closed_tab_value t
entry_value (Window w) = closed_window_value w

abbrev pub active_value : Option ℤ → Data
active_value None = null
active_value (Some window) = number (of_integer window)

-- the entries as they are given, the newest first
abbrev pub recovered_value : View → List Entry → Data
recovered_value view entries =
    object (member (codes "active") (active_value view.active) (member (codes "closed") (array (items_of (map entry_value entries)))
    (member (codes "windows") (array (items_of (map window_value view.windows))) no_members)))

abbrev pub json_line : View → List Entry → List ℕ
json_line view entries = compact_text (recovered_value view entries) ++ codes "\n"
