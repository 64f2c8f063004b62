-- The table of session commands: each command's id and the layout of its payload. The ids and the layouts are
-- this profile's, after Chromium's components/sessions/core/session_service_commands.cc.
use Rattle.std.specs.Prelude.{◌≡◌, ℕ, List, [], ◌∷◌, is_some, true, Option, Some, None}
use Rattle.pickle_cells.specs.Layout.{Int, Int64, Uint64, Flag, Free}
use Rattle.pickle_cells.specs.PickleLayout.{Int as IntItem, Text as TextItem}
use Rattle.navigation_entry.specs.Layouts.{navigation_items, group_items}
use Rattle.payload_rows.specs.PayloadLayout.{Fixed, Pickled}
use Rattle.payload_rows.specs.Rows.{Row, Known, Kept, Holds, row_id, row_bytes, RowFits, RowIsWhole, is_known}
use Rattle.session_commands.specs.Faults.{fault_of}
use Rattle.session_commands.specs.declared.command.SessionCommand.{SessionCommand}
use Rattle.session_commands.specs.declared.command.SessionCommand.TheVariants.{UpdateNavigation, GroupData, Extension, WindowApp, SessionStorage, Workspace, TabGuid, UserAgent, UserTitle, TabExtra, WindowExtra, TabWindow, TabIndex, PrunedBack, SelectNavigation, SelectTab, WindowKind, PrunedFront, Pinned, WindowBounds, TabClosed, WindowClosed, ActiveWindow, LastActive, Pruned, TabGroup, AllWorkspaces, Raw}

abbrev pub row : SessionCommand → Row
row (TabWindow window tab) = Known 0 (Fixed (Int window ∷ Int tab ∷ []))
row (TabIndex tab index) = Known 2 (Fixed (Int tab ∷ Int index ∷ []))
row (PrunedBack tab index) = Known 5 (Fixed (Int tab ∷ Int index ∷ []))
row (UpdateNavigation tab index n) =
    Known 6 (Pickled (navigation_items tab index n.url n.title n.page_state n.transition) n.rest)
row (SelectNavigation tab index) = Known 7 (Fixed (Int tab ∷ Int index ∷ []))
row (SelectTab window index) = Known 8 (Fixed (Int window ∷ Int index ∷ []))
row (WindowKind window kind) = Known 9 (Fixed (Int window ∷ Int kind ∷ []))
row (PrunedFront tab count) = Known 11 (Fixed (Int tab ∷ Int count ∷ []))
row (Pinned tab pinned) = Known 12 (Fixed (Int tab ∷ Flag pinned ∷ Free 3 ∷ []))
row (Extension tab extension tail) = Known 13 (Pickled (IntItem tab ∷ TextItem extension ∷ []) tail)
row (WindowBounds window b) =
    Known 14 (Fixed (Int window ∷ Int b.x ∷ Int b.y ∷ Int b.width ∷ Int b.height ∷ Int b.show ∷ []))
row (WindowApp window name tail) = Known 15 (Pickled (IntItem window ∷ TextItem name ∷ []) tail)
row (TabClosed tab time) = Known 16 (Fixed (Int tab ∷ Free 4 ∷ Int64 time ∷ []))
row (WindowClosed window time) = Known 17 (Fixed (Int window ∷ Free 4 ∷ Int64 time ∷ []))
row (SessionStorage tab storage tail) = Known 19 (Pickled (IntItem tab ∷ TextItem storage ∷ []) tail)
row (ActiveWindow window) = Known 20 (Fixed (Int window ∷ []))
row (LastActive tab time) = Known 21 (Fixed (Int tab ∷ Free 4 ∷ Int64 time ∷ []))
row (Workspace window workspace tail) = Known 23 (Pickled (IntItem window ∷ TextItem workspace ∷ []) tail)
row (Pruned tab index count) = Known 24 (Fixed (Int tab ∷ Int index ∷ Int count ∷ []))
row (TabGroup tab high low grouped) =
    Known 25 (Fixed (Int tab ∷ Free 4 ∷ Uint64 high ∷ Uint64 low ∷ Flag grouped ∷ Free 7 ∷ []))
row (GroupData group) = Known 27 (Pickled (group_items group.high group.low group.title group.colour) group.rest)
row (TabGuid tab guid tail) = Known 28 (Pickled (IntItem tab ∷ TextItem guid ∷ []) tail)
row (UserAgent tab rest) = Known 29 (Pickled (IntItem tab ∷ []) rest)
row (UserTitle window title tail) = Known 31 (Pickled (IntItem window ∷ TextItem title ∷ []) tail)
row (AllWorkspaces window all) = Known 32 (Fixed (Int window ∷ Flag all ∷ Free 3 ∷ []))
row (TabExtra tab key value tail) = Known 33 (Pickled (IntItem tab ∷ TextItem key ∷ TextItem value ∷ []) tail)
row (WindowExtra window key value tail) = Known 34 (Pickled (IntItem window ∷ TextItem key ∷ TextItem value ∷ []) tail)
row (Raw raw) = Kept raw.id raw.payload

-- The payload under this id is the command's: its row holds, or it is raw. A raw command exists only where no
-- row holds, so at most one command has a payload.
abbrev pub Payload : ℕ → SessionCommand → List ℕ → Type 0
Payload id command payload = Holds (row command) id payload

-- the id and the payload that are written for a command
abbrev pub id_of : SessionCommand → ℕ
id_of command = row_id (row command)

abbrev pub payload_of : SessionCommand → List ℕ
payload_of command = row_bytes (row command)

-- the command has a row, and so isn't raw
abbrev pub IsKnown : SessionCommand → Type 0
IsKnown command = is_known (row command) ≡ true

-- the numbers are in the ranges of their types, as those of every value are
abbrev pub IsInRange : SessionCommand → Type 0
IsInRange command = RowFits (row command)

-- the tail of a pickled command has whole words, and its payload at most 65,534 bytes
abbrev pub IsSound : SessionCommand → Type 0
IsSound command = RowIsWhole (row command)

-- what reading gives: a command whose row holds, none where a test fails
abbrev pub Finds : ℕ → List ℕ → Option SessionCommand → Type 0
Finds id payload None = is_some (fault_of id payload) ≡ true
Finds id payload (Some command) = Payload id command payload
