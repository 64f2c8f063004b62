-- The state after a command, one line a kind (this profile, after Chromium's
-- components/sessions/core/tab_restore_service_impl.cc). The current tab is the open entry's: its tab, or the last of
-- its window's tabs; the current window is the open entry's window. A command of either doesn't say which: the ids that
-- it has aren't compared. Tails aren't kept.
use Rattle.std.specs.Prelude.{ℕ, ◌-◌, nat_eq, nat_lt, ℤ, pos, negsuc, Bool, true, false, List, [], ◌∷◌, ◌++◌, length, drop, Some, if◌then◌else◌}
use Rattle.std.specs.List.{after_last, before_last}
use Rattle.std.specs.Ordering.{int_eq}
use Rattle.tab_restore_commands.specs.declared.command.TabsCommand.{TabsCommand}
use Rattle.tab_restore_commands.specs.declared.command.TabsCommand.TheVariants.{UpdateNavigation, RestoredEntry, SelectedInTab, Pinned, Extension, WindowApp, WindowEntry, Group, UserAgent, UserTitle, Raw}
use Rattle.tab_pages.specs.PageLists.{put_page}
use Rattle.closed_entries.specs.declared.limits.TheConstants.{ENTRIES}
use Rattle.closed_entries.specs.declared.closed_tab.ClosedTab.{ClosedTab}
use Rattle.closed_entries.specs.declared.closed_window.ClosedWindow.{ClosedWindow}
use Rattle.closed_entries.specs.declared.entry.Entry.{Entry}
use Rattle.closed_entries.specs.declared.entry.Entry.TheVariants.{Tab, Window}
use Rattle.closed_entries.specs.LastItem.{on_last}
use Rattle.closed_entries.specs.Changes.{new_tab, new_window, id_of, with_tab, with_window, with_more}
use Rattle.closed_entries.specs.States.{State}

-- where there are as many entries as there may be, the oldest goes
abbrev pub within_limit : List Entry → List Entry
within_limit entries = if nat_lt (length entries) ENTRIES then entries else drop 1 entries

-- a new entry goes last
abbrev pub with_entry : Entry → List Entry → List Entry
with_entry entry entries = within_limit entries ++ entry ∷ []

-- the new entry is open, and awaits so many tabs
abbrev pub opened : Entry → ℕ → State → State
opened entry awaited s = record { entries = with_entry entry s.entries; open_entry = true; awaited = awaited }

-- the window that was closed last gets one of the tabs that it awaits
abbrev pub joined : ClosedTab → State → State
joined t s = record s { entries = on_last (with_window (with_more t)) s.entries; awaited = s.awaited - 1 }

-- a closed tab is one that is awaited, else an entry of its own
abbrev pub selected : ClosedTab → State → State
selected t s = if nat_eq s.awaited 0 then opened (Tab t) 0 s else joined t s

-- a count that isn't negative, else 0
abbrev pub natural : ℤ → ℕ
natural (pos n) = n
natural (negsuc n) = 0

abbrev pub has_id : ℤ → Entry → Bool
has_id id entry = int_eq (id_of entry) id

-- the newest entry with the id goes: what stands before it and what stands behind it, all where there is none
abbrev pub without_newest : ℤ → List Entry → List Entry
without_newest id entries = before_last (has_id id) entries ++ after_last (has_id id) entries

-- an entry was brought back, none where the id is 0; no entry is open, and no tab is awaited
abbrev pub restored : ℤ → State → State
restored id s = record {
  entries = if int_eq id (pos 0) then s.entries else without_newest id s.entries;
  open_entry = false;
  awaited = 0;
}

abbrev pub on_open_entry : (Entry → Entry) → State → State
on_open_entry change s = record s { entries = if s.open_entry then on_last change s.entries else s.entries }

-- the current tab is changed, where there is one
abbrev pub on_tab : (ClosedTab → ClosedTab) → State → State
on_tab change s = on_open_entry (with_tab change) s

-- the current window is changed, where there is one
abbrev pub on_window : (ClosedWindow → ClosedWindow) → State → State
on_window change s = on_open_entry (with_window change) s

abbrev pub step : State → TabsCommand → State
step s (SelectedInTab tab index time) = selected (new_tab tab index time) s
step s (WindowEntry window index count time bounds tail) =
    opened (Window (new_window window index time bounds)) (natural count) s
step s (RestoredEntry id) = restored id s
step s (UpdateNavigation tab index navigation) = on_tab (λ t. record t { pages = put_page index navigation t.pages }) s
step s (Pinned pinned) = on_tab (λ t. record t { pinned = pinned }) s
step s (Extension tab extension tail) = on_tab (λ t. record t { extension = Some extension }) s
step s (UserAgent tab rest) = on_tab (λ t. record t { agent = Some rest }) s
step s (Group group) = on_tab (λ t. record t { group = Some group }) s
step s (WindowApp window name tail) = on_window (λ w. record w { app = Some name }) s
step s (UserTitle window title tail) = on_window (λ w. record w { title = Some title }) s
step s (Raw raw) = s

-- the state after commands in order
abbrev pub fold : State → List TabsCommand → State
fold s [] = s
fold s (command ∷ commands) = fold (step s command) commands
