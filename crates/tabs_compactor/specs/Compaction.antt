-- The commands that restate closed entries, the oldest first. What a new tab or a new window has already isn't said
-- again, and no command has a tail.
use Rattle.std.specs.Prelude.{ℕ, ◌+◌, pos, Bool, true, false, List, [], ◌∷◌, ◌++◌, map, length, sum_by, flat_map}
use Rattle.tab_restore_commands.specs.declared.command.TabsCommand.{TabsCommand}
use Rattle.tab_restore_commands.specs.declared.command.TabsCommand.TheVariants.{UpdateNavigation, RestoredEntry, SelectedInTab, Pinned, Extension, WindowApp, WindowEntry, Group, UserAgent, UserTitle}
use Rattle.closed_entries.specs.declared.closed_tab.ClosedTab.{ClosedTab}
use Rattle.closed_entries.specs.declared.closed_window.ClosedWindow.{ClosedWindow}
use Rattle.closed_entries.specs.declared.entry.Entry.{Entry}
use Rattle.closed_entries.specs.declared.entry.Entry.TheVariants.{Tab, Window}
use Rattle.closed_entries.specs.States.{State}
use Rattle.compaction_runs.specs.FieldCommands.{given, flagged}

abbrev pub tab_commands : ClosedTab → List TabsCommand
tab_commands t =
    SelectedInTab t.id t.selected t.time ∷ []
    ++ flagged (Pinned true) t.pinned
    ++ given (λ text. Extension t.id text []) t.extension
    ++ given (λ rest. UserAgent t.id rest) t.agent
    ++ given (λ group. Group group) t.group
    ++ map (λ page. UpdateNavigation t.id page.0 page.1) t.pages

-- a window that counts its tabs and those that it awaits, and its tabs behind it
abbrev pub window_commands : ℕ → ClosedWindow → List TabsCommand
window_commands awaited w =
    WindowEntry w.id w.selected (pos (length w.tabs + awaited)) w.time w.bounds [] ∷ []
    ++ given (λ text. WindowApp w.id text []) w.app
    ++ given (λ text. UserTitle w.id text []) w.title
    ++ flat_map tab_commands w.tabs

abbrev pub entry_commands : ℕ → Entry → List TabsCommand
entry_commands awaited (Tab t) = tab_commands t
entry_commands awaited (Window w) = window_commands awaited w

-- each entry in its order, of which the last one alone awaits tabs
abbrev pub entries_commands : ℕ → List Entry → List TabsCommand
entries_commands awaited [] = []
entries_commands awaited (entry ∷ []) = entry_commands awaited entry
entries_commands awaited (entry ∷ next ∷ entries) = entry_commands 0 entry ++ entries_commands awaited (next ∷ entries)

-- an entry is closed where entries stand and none is open
abbrev pub closing : List Entry → Bool → List TabsCommand
closing [] is_open = []
closing (entry ∷ entries) true = []
closing (entry ∷ entries) false = RestoredEntry (pos 0) ∷ []

abbrev pub compaction : State → List TabsCommand
compaction s = entries_commands s.awaited s.entries ++ closing s.entries s.open_entry

-- the most commands that restate a tab, a window, an entry and a state
abbrev pub tab_weight : ClosedTab → ℕ
tab_weight t = 5 + length t.pages

abbrev pub window_weight : ClosedWindow → ℕ
window_weight w = 3 + sum_by tab_weight w.tabs

abbrev pub entry_weight : Entry → ℕ
entry_weight (Tab t) = tab_weight t
entry_weight (Window w) = window_weight w

abbrev pub weight : State → ℕ
weight s = sum_by entry_weight s.entries + 1
