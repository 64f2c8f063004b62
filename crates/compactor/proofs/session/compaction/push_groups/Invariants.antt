use Rattle.std.proofs.Common.{◌≡◌, ◌++◌, map}
use Rattle.session_commands.specs.declared.command.SessionCommand.TheVariants.{GroupData}
use Rattle.compactor.proofs.session.compaction.push_groups.Given as goal

-- what was pushed, and the commands of the groups that are left
abbrev pub invariant-loop-group : goal.invariant-loop-group
invariant-loop-group l = l.out.items ++ map (λ group. GroupData group) l.group-iterator ≡ l.fn.out.items ++ map (λ group. GroupData group) l.groups
