-- Tabs by their ids are told their places, one after another.
use Rattle.std.specs.Prelude.{ℕ, suc, ℤ, pos, List, [], ◌∷◌, map}
use Rattle.std.specs.Ordering.{int_cmp}
use Rattle.session_commands.specs.declared.command.SessionCommand.{SessionCommand}
use Rattle.session_commands.specs.declared.command.SessionCommand.TheVariants.{TabIndex}
use Rattle.window_state.specs.declared.change.TabEdit.TheVariants.{Index}
use Rattle.window_state.specs.declared.tab.Tab.{Tab}
use Rattle.window_state.specs.Changes.{edited_tab}
use Rattle.window_state.specs.Keys.{tab_key}
use Rattle.window_state.specs.RowLists.{on_key}
use Rattle.window_state.specs.States.{State}

abbrev pub places_of : ℕ → List ℤ → List SessionCommand
places_of n [] = []
places_of n (id ∷ ids) = TabIndex id (pos n) ∷ places_of (suc n) ids

abbrev pub placed_from : ℕ → List ℤ → Tab → Tab
placed_from n [] t = t
placed_from n (id ∷ ids) t = placed_from (suc n) ids (on_key int_cmp tab_key id (edited_tab (Index (pos n))) t)

abbrev pub with_places : ℕ → List ℤ → State → State
with_places n ids s = record s { tabs = map (placed_from n ids) s.tabs }
