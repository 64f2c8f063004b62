use Rattle.std.proofs.Common.{List, [], ◌∷◌, Result, Ok, Err, IfOk}
use Rattle.std.specs.List.{AllByRecursion}
use Rattle.session_commands.specs.declared.command.SessionCommand.{SessionCommand}
use Rattle.session_commands.specs.Table.{IsSound, IsInRange}
use Rattle.compactor.specs.session.SessionKind.{IsCommand}
use Rattle.compactor.proofs.session.machine.SessionMachineMachine.tidy.Goals as goal

joined : (commands : List SessionCommand) → AllByRecursion IsSound commands → AllByRecursion IsInRange commands
    → AllByRecursion IsCommand commands
joined [] sound ranged = tt
joined (command ∷ commands) sound ranged =
    (record { sound = sound.0; ranged = ranged.0 }, joined commands sound.1 ranged.1)

-- two facts of what is answered give a third
both_ok : {T E : Type 0} (P Q R : T → Type 0) → ((v : T) → P v → Q v → R v) → (r : Result T E) → IfOk r P → IfOk r Q
    → IfOk r R
both_ok P Q R gives (Ok v) first second = gives v first second
both_ok P Q R gives (Err e) first second = tt

-- every command can be written
pub returns-clause-commands : goal.returns-clause-commands
returns-clause-commands c =
    both_ok (λ v. AllByRecursion IsSound v.items) (λ v. AllByRecursion IsInRange v.items)
    (λ v. AllByRecursion IsCommand v.items) (λ v. joined v.items) c.tidy.result c.tidy.ensures.sound
    c.tidy.ensures.ranged
