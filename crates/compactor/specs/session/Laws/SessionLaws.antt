-- The laws of a session's commands and states.
use Rattle.session_commands.specs.declared.command.SessionCommand.TheVariants.{Raw}
use Rattle.session_commands.proofs.MarkerLaws.{marker_command, marker_payload}
use Rattle.session_commands.proofs.TableLaws.{one_command}
use Rattle.window_state.specs.States.{IsState}
use Rattle.machine_law.specs.Kind.{IsLawful, IsMarker}
use Rattle.compaction_runs.proofs.CommandLaws.{weaker}
use Rattle.compactor.specs.session.Compaction.{compaction}
use Rattle.compactor.specs.session.SessionKind.{session_kind, IsCommand}
use Rattle.compactor.specs.session.Laws.FoldsBack.{folds_back}
use Rattle.compactor.specs.session.Laws.Counts.{few}
use Rattle.compactor.specs.session.Laws.CoveringLaws.{covered}
use Rattle.compactor.specs.session.Laws.Plain.{IsPlain, plain, unmarked, marker-leaves}

pub session_lawful : IsLawful session_kind IsState IsCommand
session_lawful = record {
  folds_back = folds_back;
  at_most = λ state is. few state;
  unmarked = λ state is. weaker IsPlain (λ command. IsMarker session_kind command → ⊥) unmarked (compaction state) (plain state is);
  only = λ id payload command other first second. one_command command other id payload first second;
  has_marker = (Raw marker_command, marker_payload);
  marker = λ state command is. marker-leaves state command is;
  covered = covered;
}
