-- What a command says of the tab and of the window that it speaks of: the table of steps without the commands that make
-- an entry or close it.
use Rattle.std.specs.Prelude.{Some}
use Rattle.tab_restore_commands.specs.declared.command.TabsCommand.{TabsCommand}
use Rattle.tab_restore_commands.specs.declared.command.TabsCommand.TheVariants.{UpdateNavigation, Pinned, Extension, WindowApp, Group, UserAgent, UserTitle}
use Rattle.tab_pages.specs.PageLists.{put_page}
use Rattle.tab_pages.specs.Ranges.{IsGroupInRange, IsPageInRange}
use Rattle.closed_entries.specs.declared.closed_tab.ClosedTab.{ClosedTab}
use Rattle.closed_entries.specs.declared.closed_window.ClosedWindow.{ClosedWindow}
use Rattle.closed_entries.specs.declared.entry.Entry.{Entry}
use Rattle.closed_entries.specs.declared.entry.Entry.TheVariants.{Tab, Window}
use Rattle.closed_entries.specs.LastItem.{on_last}

abbrev pub changed_tab : TabsCommand → ClosedTab → ClosedTab
changed_tab (UpdateNavigation tab index navigation) t = record t { pages = put_page index navigation t.pages }
changed_tab (Pinned pinned) t = record t { pinned = pinned }
changed_tab (Extension tab extension tail) t = record t { extension = Some extension }
changed_tab (UserAgent tab rest) t = record t { agent = Some rest }
changed_tab (Group group) t = record t { group = Some group }
changed_tab _ t = t

-- the window itself, else the last of its tabs
abbrev pub changed_window : TabsCommand → ClosedWindow → ClosedWindow
changed_window (WindowApp window name tail) w = record w { app = Some name }
changed_window (UserTitle window title tail) w = record w { title = Some title }
changed_window command w = record w { tabs = on_last (changed_tab command) w.tabs }

abbrev pub changed_entry : TabsCommand → Entry → Entry
changed_entry command (Tab t) = Tab (changed_tab command t)
changed_entry command (Window w) = Window (changed_window command w)

-- the numbers that a command brings to a tab
abbrev pub IsChangeInRange : TabsCommand → Type 0
IsChangeInRange (UpdateNavigation tab index navigation) = IsPageInRange (index, navigation)
IsChangeInRange (Group group) = IsGroupInRange group
IsChangeInRange _ = Unit {0}
