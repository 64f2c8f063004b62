use Rattle.fresh_files.proofs.FreshBytes.{Builds}
use Rattle.fresh_files.proofs.fresh.fresh_file.Given as goal

abbrev pub invariant-loop-command : goal.invariant-loop-command
invariant-loop-command g l = Builds g.M.Machine.kind g.M.Machine.is_command l.command-items l.bytes.items l.command-index
