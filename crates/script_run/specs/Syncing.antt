-- What an item does to both journals beyond other items.
use Rattle.std.specs.Prelude.{[], ◌∷◌}
use Rattle.machine_law.specs.declared.machine.Machine as machine
use Rattle.session_disk.specs.declared.disk.SessionDisk as disk
use Rattle.session_commands.specs.declared.command.SessionCommand.{SessionCommand}
use Rattle.tab_restore_commands.specs.declared.command.TabsCommand.{TabsCommand}
use Rattle.window_state.specs.States.{State as SessionState}
use Rattle.closed_entries.specs.States.{State as ClosedState}
use Rattle.writer_core.specs.Synced.{BothSynced}
use Rattle.writer_core.specs.declared.item.Item.TheVariants as item
use Rattle.script_run.specs.Doing.{RunWriters}
use Rattle.script_run.specs.Families.{RunItem}

module _ {M N D : Type 0} {m : machine.Ghosts M SessionState SessionCommand}
    {n : machine.Ghosts N ClosedState TabsCommand} {d : disk.Ghosts D} where
  -- behind a sync both disks hold what was done, and all of it is told
  abbrev pub SyncsBoth : RunItem → RunWriters M N D m n d → RunWriters M N D m n d → Type 0
  SyncsBoth item.Sync old new = BothSynced (item.Sync ∷ []) old new
  SyncsBoth other old new = Unit {0}
