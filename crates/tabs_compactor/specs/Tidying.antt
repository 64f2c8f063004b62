-- The command after which no entry is open, where one is.
use Rattle.std.specs.Prelude.{pos, false, List, [], ◌∷◌, if◌then◌else◌}
use Rattle.tab_restore_commands.specs.declared.command.TabsCommand.{TabsCommand}
use Rattle.tab_restore_commands.specs.declared.command.TabsCommand.TheVariants.{RestoredEntry}
use Rattle.closed_entries.specs.States.{State}

-- under the id 0 no entry goes
abbrev pub tidying : State → List TabsCommand
tidying s = if s.open_entry then RestoredEntry (pos 0) ∷ [] else []

-- the same entries, of which none is open and for which no tab is awaited
abbrev pub tidied : State → State
tidied s = record s { open_entry = false; awaited = 0 }
