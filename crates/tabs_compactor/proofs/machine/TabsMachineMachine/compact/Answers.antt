use Rattle.std.proofs.Common.{◌≡◌, sym, subst}
use Rattle.std.specs.List.{AllByRecursion}
use Rattle.std.proofs.lemmas.Result.{IfOk-weaker}
use Rattle.compaction_runs.proofs.CommandLaws.{weaker}
use Rattle.tabs_compactor.specs.Compaction.{compaction}
use Rattle.tabs_compactor.specs.TabsKind.{IsCommand}
use Rattle.tabs_compactor.specs.Laws.Plain.{IsPlain, plain}
use Rattle.tabs_compactor.proofs.machine.TabsMachineMachine.compact.Goals as goal

-- every command of the compaction can be written
pub returns-clause-commands : goal.returns-clause-commands
returns-clause-commands c =
    let state = c.args.state.now in
    let writable = weaker IsPlain IsCommand (λ command plain. record { sound = plain.sound; ranged = plain.ranged }) (compaction state) (plain state c.known.ensures) in
    IfOk-weaker c.of.result (λ commands. commands.items ≡ compaction state) (λ commands. AllByRecursion IsCommand commands.items) (λ commands is. subst (AllByRecursion IsCommand) (sym is) writable) c.of.ensures
