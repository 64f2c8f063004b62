-- What stays of tabs and windows that are closed: an entry where they had pages, and the commands that say it to the
-- other family.
use Rattle.std.specs.Prelude.{◌≡◌, ℕ, zero, ℤ, pos, Bool, if◌then◌else◌, List, [], ◌∷◌, map, filter, Option, Some, None, option_map}
use Rattle.std.specs.Option.{unwrap_or}
use Rattle.navigation_entry.specs.declared.bounds.Bounds.{Bounds}
use Rattle.navigation_entry.specs.declared.group.GroupInfo.{GroupInfo}
use Rattle.tab_restore_commands.specs.declared.command.TabsCommand.{TabsCommand}
use Rattle.closed_entries.specs.declared.closed_tab.ClosedTab.{ClosedTab}
use Rattle.closed_entries.specs.declared.closed_window.ClosedWindow.{ClosedWindow}
use Rattle.closed_entries.specs.declared.entry.Entry.{Entry}
use Rattle.closed_entries.specs.declared.entry.Entry.TheVariants as entry
use Rattle.closed_entries.specs.Step.{with_entry}
use Rattle.tabs_compactor.specs.Compaction.{entry_commands}
use Rattle.tab_pages.specs.PageLists.{has_page}
use Rattle.tab_pages.specs.Positions.{first_from}
use Rattle.window_state.specs.declared.group_id.GroupId.{GroupId}
use Rattle.window_state.specs.Keys.{group_key, group_cmp}
use Rattle.window_state.specs.RowLists.{find_row}
use Rattle.browser_model.specs.Browsers.{Browser, BrowserTab, BrowserWindow, Stand, numbered, stands_in}
use Rattle.browser_model.specs.Navigations.{bare_group}
use Rattle.browser_model.specs.Pictures.{is_seen}

-- what is known of a group, its token alone where nothing else is
abbrev pub known_group : List GroupInfo → GroupId → GroupInfo
known_group groups id = unwrap_or (find_row group_cmp group_key id groups) (bare_group id.high id.low)

-- a tab as it is closed at a moment
abbrev pub entry_tab : List GroupInfo → ℤ → BrowserTab → ClosedTab
entry_tab groups moment t = record {
  id = t.info.id;
  selected = t.current;
  time = moment;
  pinned = t.info.pinned;
  extension = t.info.extension;
  agent = t.info.agent;
  group = option_map (known_group groups) t.info.group;
  pages = numbered zero t.pages;
}

abbrev pub no_bounds : Bounds
no_bounds = record { x = pos 0; y = pos 0; width = pos 0; height = pos 0; show = pos 0 }

-- a window as it is closed, with those of its tabs that have pages
abbrev pub entry_window : List GroupInfo → ℤ → BrowserWindow → List Stand → ClosedWindow
entry_window groups moment w seen = record {
  id = w.info.id;
  selected = pos (first_from w.selected (map (λ s. pos s.place) seen));
  time = moment;
  bounds = unwrap_or w.info.bounds no_bounds;
  app = w.info.app;
  title = w.info.title;
  tabs = map (λ s. entry_tab groups moment s.tab) seen;
}

-- a tab without pages leaves no entry
abbrev pub entry_of_tab : List GroupInfo → ℤ → BrowserTab → Option Entry
entry_of_tab groups moment t =
    if has_page (numbered zero t.pages) then Some (entry.Tab (entry_tab groups moment t)) else None

-- nor does a window without tabs that have pages
abbrev pub entry_of_seen : List GroupInfo → ℤ → BrowserWindow → List Stand → Option Entry
entry_of_seen groups moment w [] = None
entry_of_seen groups moment w (s ∷ ss) = Some (entry.Window (entry_window groups moment w (s ∷ ss)))

abbrev pub entry_of_window : List GroupInfo → ℤ → BrowserWindow → Option Entry
entry_of_window groups moment w = entry_of_seen groups moment w (filter is_seen (stands_in w))

-- the entry goes to the end of the closed ones, of which the oldest goes where there is one too many
abbrev pub with_left : Option Entry → List Entry → List Entry
with_left None entries = entries
with_left (Some entry) entries = with_entry entry entries

abbrev pub left_commands : Option Entry → List TabsCommand
left_commands None = []
left_commands (Some entry) = entry_commands 0 entry
