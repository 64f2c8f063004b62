-- The table of tab-restore commands, in both directions: a payload has one command, a payload with no fault has a row, and
-- what is written for a command reads back.
use Rattle.std.proofs.Common.{◌≡◌, ℕ, ℤ, ◌≤◌, true, List, length, is_some, Option, Some, None, sym}
use Rattle.std.specs.Prelude.{IfNone}
use Rattle.payload_rows.specs.PayloadLayout.{Layout, shape}
use Rattle.payload_rows.specs.Contents.{Content, Laid}
use Rattle.payload_rows.specs.Faults.{shape_fault}
use Rattle.payload_rows.specs.Rows.{Known, told}
use Rattle.payload_rows.specs.Shapes.{fields_of}
use Rattle.payload_rows.specs.declared.fault.PayloadFault.{PayloadFault}
use Rattle.payload_rows.specs.declared.shape.Shape.{Shape as Named}
use Rattle.payload_rows.proofs.CommandsByShape.{navigation_whole, group_whole}
use Rattle.payload_rows.proofs.FieldLaws.{AreBytes}
use Rattle.payload_rows.proofs.TableLaws as law
use Rattle.navigation_entry.specs.declared.navigation.Navigation.{Navigation}
use Rattle.navigation_entry.specs.declared.group.GroupInfo.{GroupInfo}
use Rattle.tab_restore_commands.specs.Faults.{shapes, name_of, shape_of, fault_of}
use Rattle.tab_restore_commands.specs.Table.{row, Payload, id_of, payload_of, IsInRange, IsKnown, IsSound}
use Rattle.tab_restore_commands.specs.declared.command.TabsCommand.{TabsCommand}
use Rattle.tab_restore_commands.specs.declared.command.TabsCommand.TheVariants.{UpdateNavigation, Group}
use Rattle.tab_restore_commands.proofs.RowLaws.{table}

-- a payload of any length has one command
pub one_command : (c d : TabsCommand) (id : ℕ) (payload : List ℕ) → Payload id c payload → Payload id d payload → d ≡ c
one_command c d id payload h k = law.one_command table c d id payload h k

-- the command of a payload can be written
pub is_sound : (c : TabsCommand) (id : ℕ) (payload : List ℕ) → length payload ≤ 65534 → Payload id c payload → IsSound c
is_sound c id payload short h = law.is_sound table c id payload short h

-- what is written reads back
pub reads_back : (c : TabsCommand) → IsInRange c → IsSound c → Payload (id_of c) c (payload_of c)
reads_back c fits whole = law.reads_back table c fits whole

-- and fits a frame
pub length-payload : (c : TabsCommand) → IsInRange c → IsSound c → length (payload_of c) ≤ 65534
length-payload c fits whole = law.length-payload table c fits whole

-- the same, by one name
pub ruleset written = (reads_back, length-payload)

-- an answer that is the fault is None only where a row holds
pub row_found : (id : ℕ) (payload : List ℕ) (answer : Option PayloadFault) → AreBytes payload → length payload ≤ 65534 → answer ≡ fault_of id payload → IfNone answer ((c : TabsCommand) × IsKnown c × Payload id c payload)
unfolding fault_of
row_found id payload None range short e = law.has_row table id payload range short (sym e)
row_found id payload (Some fault) range short e = tt

-- and None wherever one holds
pub row_has_none : (c : TabsCommand) (id : ℕ) (payload : List ℕ) → length payload ≤ 65534 → IsKnown c → Payload id c payload → fault_of id payload ≡ None
unfolding fault_of
row_has_none c id payload short known h = law.has_no_fault table c id payload short known h

-- no row of the table has the id
pub unknown_id : (id : ℕ) (payload : List ℕ) → None ≡ name_of id → is_some (fault_of id payload) ≡ true
unfolding fault_of
unknown_id id payload none = law.unknown_id shapes id payload none

-- the payload isn't of the id's shape
pub refused : (id : ℕ) (payload : List ℕ) (name : Named) → Some name ≡ name_of id → is_some (shape_fault (Some (fields_of name)) payload) ≡ true → is_some (fault_of id payload) ≡ true
unfolding fault_of
refused id payload name is fault = law.refused shapes id payload name is fault

-- a command that tells a layout has one of its id's shape
pub tells_shape : (c : TabsCommand) (id : ℕ) (what : Content) (layout : Layout) → (id, what) ≡ told (row c) → what ≡ Laid layout → shape_of id ≡ Some (shape layout)
tells_shape c id what layout e is = law.tells_shape table c id what layout e is

-- and no other command has its row
pub same_row : (c d : TabsCommand) (id : ℕ) (what : Content) (layout : Layout) → (id, what) ≡ told (row c) → what ≡ Laid layout → row d ≡ Known id layout → d ≡ c
same_row c d id what layout e is own = law.same_row table c d id what layout e is own

-- a navigation and a group keep what writing asks for
pub navigation_is_sound : (tab index : ℤ) (n : Navigation) → IsSound (UpdateNavigation tab index n)
navigation_is_sound tab index n = navigation_whole tab index n

pub group_is_sound : (g : GroupInfo) → IsSound (Group g)
group_is_sound g = group_whole g
