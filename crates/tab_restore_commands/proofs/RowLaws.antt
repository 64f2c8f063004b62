-- The table read backwards: the command of each row. So a row is no other command's, and each layout of an id's shape is
-- some command's.
use Rattle.std.proofs.Common.{ℕ, List, [], ◌∷◌, Some, refl, ap}
use Rattle.payload_rows.proofs.CommandsByShape.{Line, flag, int, two_ints_time, int_rest, int_text, window_entry, navigation, group, navigation_same, group_same}
use Rattle.payload_rows.proofs.TableLaws.{IsRaw, IsRaw-prop, Joined, Table}
use Rattle.navigation_entry.specs.declared.navigation.Navigation.{Navigation}
use Rattle.navigation_entry.specs.declared.group.GroupInfo.{GroupInfo}
use Rattle.tab_restore_commands.specs.Faults.{shapes, fault_of}
use Rattle.tab_restore_commands.specs.Table.{row}
use Rattle.tab_restore_commands.specs.declared.command.TabsCommand.{TabsCommand}
use Rattle.tab_restore_commands.specs.declared.command.TabsCommand.TheVariants.{UpdateNavigation, RestoredEntry, SelectedInTab, Pinned, Extension, WindowApp, WindowEntry, Group, UserAgent, UserTitle, Raw}

-- the command of each line, and that it has the line's row
abbrev lines : List (Line row)
lines =
    navigation 1 (λ a b n. UpdateNavigation a b n) (λ a b n. refl)
    ∷ int 2 (λ a. RestoredEntry a) (λ a. refl)
    ∷ two_ints_time 4 (λ a b t. SelectedInTab a b t) (λ a b t. refl)
    ∷ flag 5 (λ a. Pinned a) (λ a. refl)
    ∷ int_text 6 (λ a t tail. Extension a t tail) (λ a t tail. refl)
    ∷ int_text 7 (λ a t tail. WindowApp a t tail) (λ a t tail. refl)
    ∷ window_entry 9 (λ e tail. WindowEntry e.window e.selected e.count e.time e.bounds tail) (λ e tail. refl)
    ∷ group 10 (λ g. Group g) (λ g. refl)
    ∷ int_rest 11 (λ a tail. UserAgent a tail) (λ a tail. refl)
    ∷ int_text 12 (λ a t tail. UserTitle a t tail) (λ a t tail. refl)
    ∷ []

raw_of : (id : ℕ) (bytes : List ℕ) → IsRaw shapes id bytes → TabsCommand
unfolding fault_of
raw_of id bytes is = Raw (record { id = id; payload = bytes; short = is.0; refused = is.1 })

joined : (c : TabsCommand) → Joined shapes lines raw_of c (row c)
unfolding fault_of raw_of
joined (UpdateNavigation tab index navigation) =
    (refl, (navigation.whole, navigation.short), λ keeps. ap (λ (n : Navigation). Some (UpdateNavigation tab index n)) (navigation_same navigation keeps))
joined (RestoredEntry id) = (refl, tt, λ _. refl)
joined (SelectedInTab tab index time) = (refl, tt, λ _. refl)
joined (Pinned pinned) = (refl, tt, λ _. refl)
joined (Extension tab extension tail) = (refl, tt, λ _. refl)
joined (WindowApp window name tail) = (refl, tt, λ _. refl)
joined (WindowEntry window selected count time bounds tail) = (refl, tt, λ _. refl)
joined (Group group) = (refl, (group.whole, group.short), λ keeps. ap (λ (g : GroupInfo). Some (Group g)) (group_same group keeps))
joined (UserAgent tab rest) = (refl, tt, λ _. refl)
joined (UserTitle window title tail) = (refl, tt, λ _. refl)
joined (Raw raw) =
    ((raw.short, raw.refused), λ is. ap (raw_of raw.id raw.payload) (IsRaw-prop shapes raw.id raw.payload is (raw.short, raw.refused)))

pub table : Table row shapes
table = record { lines = lines; named_so = refl; raw = raw_of; joined = joined }
