-- The table read backwards: the command of each row. So a row is no other command's, and each layout of an id's shape is
-- some command's.
use Rattle.std.proofs.Common.{ℕ, List, [], ◌∷◌, Some, refl, ap}
use Rattle.payload_rows.proofs.CommandsByShape.{Line, int, two_ints, three_ints, int_flag, int_time, window_bounds, tab_group, int_rest, int_text, int_two_texts, navigation, group, navigation_same, group_same}
use Rattle.payload_rows.proofs.TableLaws.{IsRaw, IsRaw-prop, Joined, Table}
use Rattle.navigation_entry.specs.declared.navigation.Navigation.{Navigation}
use Rattle.navigation_entry.specs.declared.group.GroupInfo.{GroupInfo}
use Rattle.session_commands.specs.Faults.{shapes, fault_of}
use Rattle.session_commands.specs.Table.{row}
use Rattle.session_commands.specs.declared.command.SessionCommand.{SessionCommand}
use Rattle.session_commands.specs.declared.command.SessionCommand.TheVariants.{TabWindow, TabIndex, PrunedBack, UpdateNavigation, SelectNavigation, SelectTab, WindowKind, PrunedFront, Pinned, Extension, WindowBounds, WindowApp, TabClosed, WindowClosed, SessionStorage, ActiveWindow, LastActive, Workspace, Pruned, TabGroup, GroupData, TabGuid, UserAgent, UserTitle, AllWorkspaces, TabExtra, WindowExtra, Raw}

-- the command of each line, and that it has the line's row
abbrev lines : List (Line row)
lines =
    two_ints 0 (λ a b. TabWindow a b) (λ a b. refl)
    ∷ two_ints 2 (λ a b. TabIndex a b) (λ a b. refl)
    ∷ two_ints 5 (λ a b. PrunedBack a b) (λ a b. refl)
    ∷ navigation 6 (λ a b n. UpdateNavigation a b n) (λ a b n. refl)
    ∷ two_ints 7 (λ a b. SelectNavigation a b) (λ a b. refl)
    ∷ two_ints 8 (λ a b. SelectTab a b) (λ a b. refl)
    ∷ two_ints 9 (λ a b. WindowKind a b) (λ a b. refl)
    ∷ two_ints 11 (λ a b. PrunedFront a b) (λ a b. refl)
    ∷ int_flag 12 (λ a b. Pinned a b) (λ a b. refl)
    ∷ int_text 13 (λ a t tail. Extension a t tail) (λ a t tail. refl)
    ∷ window_bounds 14 (λ a b. WindowBounds a b) (λ a b. refl)
    ∷ int_text 15 (λ a t tail. WindowApp a t tail) (λ a t tail. refl)
    ∷ int_time 16 (λ a t. TabClosed a t) (λ a t. refl)
    ∷ int_time 17 (λ a t. WindowClosed a t) (λ a t. refl)
    ∷ int_text 19 (λ a t tail. SessionStorage a t tail) (λ a t tail. refl)
    ∷ int 20 (λ a. ActiveWindow a) (λ a. refl)
    ∷ int_time 21 (λ a t. LastActive a t) (λ a t. refl)
    ∷ int_text 23 (λ a t tail. Workspace a t tail) (λ a t tail. refl)
    ∷ three_ints 24 (λ a b c. Pruned a b c) (λ a b c. refl)
    ∷ tab_group 25 (λ a h l b. TabGroup a h l b) (λ a h l b. refl)
    ∷ group 27 (λ g. GroupData g) (λ g. refl)
    ∷ int_text 28 (λ a t tail. TabGuid a t tail) (λ a t tail. refl)
    ∷ int_rest 29 (λ a tail. UserAgent a tail) (λ a tail. refl)
    ∷ int_text 31 (λ a t tail. UserTitle a t tail) (λ a t tail. refl)
    ∷ int_flag 32 (λ a b. AllWorkspaces a b) (λ a b. refl)
    ∷ int_two_texts 33 (λ a t u tail. TabExtra a t u tail) (λ a t u tail. refl)
    ∷ int_two_texts 34 (λ a t u tail. WindowExtra a t u tail) (λ a t u tail. refl)
    ∷ []

raw_of : (id : ℕ) (bytes : List ℕ) → IsRaw shapes id bytes → SessionCommand
unfolding fault_of
raw_of id bytes is = Raw (record { id = id; payload = bytes; short = is.0; refused = is.1 })

joined : (c : SessionCommand) → Joined shapes lines raw_of c (row c)
unfolding fault_of raw_of
joined (TabWindow window tab) = (refl, tt, λ _. refl)
joined (TabIndex tab index) = (refl, tt, λ _. refl)
joined (PrunedBack tab index) = (refl, tt, λ _. refl)
joined (UpdateNavigation tab index navigation) =
    (refl, (navigation.whole, navigation.short), λ keeps. ap (λ (n : Navigation). Some (UpdateNavigation tab index n)) (navigation_same navigation keeps))
joined (SelectNavigation tab index) = (refl, tt, λ _. refl)
joined (SelectTab window index) = (refl, tt, λ _. refl)
joined (WindowKind window kind) = (refl, tt, λ _. refl)
joined (PrunedFront tab count) = (refl, tt, λ _. refl)
joined (Pinned tab pinned) = (refl, tt, λ _. refl)
joined (Extension tab extension tail) = (refl, tt, λ _. refl)
joined (WindowBounds window bounds) = (refl, tt, λ _. refl)
joined (WindowApp window name tail) = (refl, tt, λ _. refl)
joined (TabClosed tab time) = (refl, tt, λ _. refl)
joined (WindowClosed window time) = (refl, tt, λ _. refl)
joined (SessionStorage tab storage tail) = (refl, tt, λ _. refl)
joined (ActiveWindow window) = (refl, tt, λ _. refl)
joined (LastActive tab time) = (refl, tt, λ _. refl)
joined (Workspace window workspace tail) = (refl, tt, λ _. refl)
joined (Pruned tab index count) = (refl, tt, λ _. refl)
joined (TabGroup tab high low grouped) = (refl, tt, λ _. refl)
joined (GroupData group) =
    (refl, (group.whole, group.short), λ keeps. ap (λ (g : GroupInfo). Some (GroupData g)) (group_same group keeps))
joined (TabGuid tab guid tail) = (refl, tt, λ _. refl)
joined (UserAgent tab rest) = (refl, tt, λ _. refl)
joined (UserTitle window title tail) = (refl, tt, λ _. refl)
joined (AllWorkspaces window all) = (refl, tt, λ _. refl)
joined (TabExtra tab key value tail) = (refl, tt, λ _. refl)
joined (WindowExtra window key value tail) = (refl, tt, λ _. refl)
joined (Raw raw) =
    ((raw.short, raw.refused), λ is. ap (raw_of raw.id raw.payload) (IsRaw-prop shapes raw.id raw.payload is (raw.short, raw.refused)))

pub table : Table row shapes
table = record { lines = lines; named_so = refl; raw = raw_of; joined = joined }
