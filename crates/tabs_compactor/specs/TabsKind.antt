-- The commands of tab-restore files and closed entries as a kind of machine. No command covers another.
use Rattle.std.specs.Prelude.{false}
use Rattle.machine_law.specs.Kind.{Kind}
use Rattle.tab_restore_commands.specs.declared.command.TabsCommand.{TabsCommand}
use Rattle.tab_restore_commands.specs.Table.{Payload, IsSound, IsInRange, id_of, payload_of}
use Rattle.closed_entries.specs.States.{State, start}
use Rattle.closed_entries.specs.Step.{step}
use Rattle.tabs_compactor.specs.Compaction.{compaction, weight}
use Rattle.tabs_compactor.specs.Tidying.{tidying}

abbrev pub tabs_kind : Kind State TabsCommand
tabs_kind = record {
  start = start;
  step = step;
  compaction = compaction;
  weight = weight;
  tidying = tidying;
  id = id_of;
  payload = payload_of;
  Payload = Payload;
  covers = λ first second. false;
}

-- the payload can be written, and the numbers are in the ranges of their types
pub record IsCommand (command : TabsCommand) : Type 0 where
  pub sound : IsSound command
  pub ranged : IsInRange command
