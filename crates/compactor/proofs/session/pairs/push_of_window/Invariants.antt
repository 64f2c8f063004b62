use Rattle.std.proofs.Common.{◌≡◌, ◌++◌, [], map}
use Rattle.session_commands.specs.declared.command.SessionCommand.TheVariants.{WindowExtra}
use Rattle.compactor.proofs.session.pairs.push_of_window.Given as goal

-- what was pushed, and the commands of the pairs that are left
abbrev pub invariant-loop-key : goal.invariant-loop-key
invariant-loop-key l = l.out.items ++ map (λ pair. WindowExtra l.window.id pair.0 pair.1 []) l.key-iterator ≡ l.fn.out.items ++ map (λ pair. WindowExtra l.window.id pair.0 pair.1 []) l.window.extra
