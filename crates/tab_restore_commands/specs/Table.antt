-- The table of tab-restore commands: each command's id and the layout of its payload. The ids and the layouts are
-- this profile's, after Chromium's components/sessions/core/tab_restore_service_impl.cc.
use Rattle.std.specs.Prelude.{◌≡◌, ℕ, List, [], ◌∷◌, is_some, true, Option, Some, None}
use Rattle.pickle_cells.specs.Layout.{Int, Int64, Flag}
use Rattle.pickle_cells.specs.PickleLayout.{Int as IntItem, Int64 as Int64Item, Text as TextItem}
use Rattle.navigation_entry.specs.Layouts.{navigation_items, group_items}
use Rattle.payload_rows.specs.PayloadLayout.{Fixed, Pickled}
use Rattle.payload_rows.specs.Rows.{Row, Known, Kept, Holds, row_id, row_bytes, RowFits, RowIsWhole, is_known}
use Rattle.tab_restore_commands.specs.Faults.{fault_of}
use Rattle.tab_restore_commands.specs.declared.command.TabsCommand.{TabsCommand}
use Rattle.tab_restore_commands.specs.declared.command.TabsCommand.TheVariants.{UpdateNavigation, RestoredEntry, SelectedInTab, Pinned, Extension, WindowApp, WindowEntry, Group, UserAgent, UserTitle, Raw}

abbrev pub row : TabsCommand → Row
row (UpdateNavigation tab index n) =
    Known 1 (Pickled (navigation_items tab index n.url n.title n.page_state n.transition) n.rest)
row (RestoredEntry id) = Known 2 (Fixed (Int id ∷ []))
row (SelectedInTab tab index time) = Known 4 (Fixed (Int tab ∷ Int index ∷ Int64 time ∷ []))
row (Pinned pinned) = Known 5 (Fixed (Flag pinned ∷ []))
row (Extension tab extension tail) = Known 6 (Pickled (IntItem tab ∷ TextItem extension ∷ []) tail)
row (WindowApp window name tail) = Known 7 (Pickled (IntItem window ∷ TextItem name ∷ []) tail)
row (WindowEntry window selected count time b tail) =
    Known 9 (Pickled (IntItem window ∷ IntItem selected ∷ IntItem count ∷ Int64Item time
    ∷ IntItem b.x ∷ IntItem b.y ∷ IntItem b.width ∷ IntItem b.height ∷ IntItem b.show ∷ []) tail)
row (Group group) = Known 10 (Pickled (group_items group.high group.low group.title group.colour) group.rest)
row (UserAgent tab rest) = Known 11 (Pickled (IntItem tab ∷ []) rest)
row (UserTitle window title tail) = Known 12 (Pickled (IntItem window ∷ TextItem title ∷ []) tail)
row (Raw raw) = Kept raw.id raw.payload

-- The payload under this id is the command's: its row holds, or it is raw. A raw command exists only where no
-- row holds, so at most one command has a payload.
abbrev pub Payload : ℕ → TabsCommand → List ℕ → Type 0
Payload id command payload = Holds (row command) id payload

-- the id and the payload that are written for a command
abbrev pub id_of : TabsCommand → ℕ
id_of command = row_id (row command)

abbrev pub payload_of : TabsCommand → List ℕ
payload_of command = row_bytes (row command)

-- the command has a row, and so isn't raw
abbrev pub IsKnown : TabsCommand → Type 0
IsKnown command = is_known (row command) ≡ true

-- the numbers are in the ranges of their types, as those of every value are
abbrev pub IsInRange : TabsCommand → Type 0
IsInRange command = RowFits (row command)

-- the tail of a pickled command has whole words, and its payload at most 65,534 bytes
abbrev pub IsSound : TabsCommand → Type 0
IsSound command = RowIsWhole (row command)

-- what reading gives: a command whose row holds, none where a test fails
abbrev pub Finds : ℕ → List ℕ → Option TabsCommand → Type 0
Finds id payload None = is_some (fault_of id payload) ≡ true
Finds id payload (Some command) = Payload id command payload
