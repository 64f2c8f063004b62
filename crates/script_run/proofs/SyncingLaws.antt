-- What an item does to both journals beyond other items.
use Rattle.std.proofs.Common.{Ok}
use Rattle.machine_law.specs.declared.machine.Machine as machine
use Rattle.session_disk.specs.declared.disk.SessionDisk as disk
use Rattle.session_commands.specs.declared.command.SessionCommand.{SessionCommand}
use Rattle.tab_restore_commands.specs.declared.command.TabsCommand.{TabsCommand}
use Rattle.window_state.specs.States.{State as SessionState}
use Rattle.closed_entries.specs.States.{State as ClosedState}
use Rattle.writer_core.specs.Handling.{Does}
use Rattle.writer_core.specs.Jobs.{session_job, tabs_job}
use Rattle.writer_core.specs.declared.item.Item.TheVariants as item
use Rattle.writer_core.proofs.SyncedLaws.{both_synced_one}
use Rattle.script_run.specs.Doing.{RunWriters}
use Rattle.script_run.specs.Families.{RunItem}
use Rattle.script_run.specs.Syncing.{SyncsBoth}

module _ {M N D : Type 0} {m : machine.Ghosts M SessionState SessionCommand}
    {n : machine.Ghosts N ClosedState TabsCommand} {d : disk.Ghosts D} (old new : RunWriters M N D m n d) where
  pub syncs-both : (item : RunItem) → Does {T = Unit {0}} (session_job item) old.session new.session (Ok tt)
      → Does {T = Unit {0}} (tabs_job item) old.tabs new.tabs (Ok tt) → SyncsBoth item old new
  syncs-both item.Sync session tabs = both_synced_one old new session tabs
  syncs-both other session tabs = tt
