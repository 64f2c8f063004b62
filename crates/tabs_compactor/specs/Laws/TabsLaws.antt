-- The laws of closed entries and their commands.
use Rattle.std.proofs.Common.{true≢false, sym}
use Rattle.tab_restore_commands.specs.declared.command.TabsCommand.TheVariants.{Raw}
use Rattle.tab_restore_commands.proofs.MarkerLaws.{marker_command, marker_payload}
use Rattle.tab_restore_commands.proofs.TableLaws.{one_command}
use Rattle.closed_entries.specs.States.{IsState}
use Rattle.machine_law.specs.Kind.{IsLawful, IsMarker}
use Rattle.compaction_runs.proofs.CommandLaws.{weaker}
use Rattle.tabs_compactor.specs.Compaction.{compaction}
use Rattle.tabs_compactor.specs.TabsKind.{tabs_kind, IsCommand}
use Rattle.tabs_compactor.specs.Laws.FoldsBack.{folds_back}
use Rattle.tabs_compactor.specs.Laws.Counts.{few}
use Rattle.tabs_compactor.specs.Laws.Plain.{IsPlain, plain, unmarked, marker-leaves}

pub tabs_lawful : IsLawful tabs_kind IsState IsCommand
tabs_lawful = record {
  folds_back = folds_back;
  at_most = λ state is. few state;
  unmarked = λ state is. weaker IsPlain (λ command. IsMarker tabs_kind command → ⊥) unmarked (compaction state) (plain state is);
  only = λ id payload command other first second. one_command command other id payload first second;
  has_marker = (Raw marker_command, marker_payload);
  marker = λ state command is. marker-leaves state command is;
  covered = λ state first second covers. absurd (true≢false (sym covers));
}
