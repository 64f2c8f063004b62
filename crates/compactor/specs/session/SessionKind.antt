-- The commands of a session and its state as a kind of machine. An update of a page covers an earlier one of the same
-- page.
use Rattle.machine_law.specs.Kind.{Kind}
use Rattle.session_commands.specs.declared.command.SessionCommand.{SessionCommand}
use Rattle.session_commands.specs.Table.{Payload, IsSound, IsInRange, id_of, payload_of}
use Rattle.window_state.specs.States.{State, start}
use Rattle.replay_machine.specs.Step.{step}
use Rattle.browser_model.specs.Tidying.{tidying}
use Rattle.compactor.specs.session.Compaction.{compaction, weight}
use Rattle.compactor.specs.session.Covering.{same_place}

abbrev pub session_kind : Kind State SessionCommand
session_kind = record {
  start = start;
  step = step;
  compaction = compaction;
  weight = weight;
  tidying = tidying;
  id = id_of;
  payload = payload_of;
  Payload = Payload;
  covers = same_place;
}

-- the payload can be written, and the numbers are in the ranges of their types
pub record IsCommand (command : SessionCommand) : Type 0 where
  pub sound : IsSound command
  pub ranged : IsInRange command
