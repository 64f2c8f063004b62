use Rattle.std.proofs.Common.{◌∙◌}
use Rattle.fresh_files.proofs.FreshBytes.{builds_fresh}
use Rattle.fresh_files.proofs.fresh.fresh_file.Goals as goal

pub returns-clause-bytes : goal.returns-clause-bytes
returns-clause-bytes g c =
    builds_fresh _ g.M.Machine.is_command _ _ _ _ _ (c.deref-command-items.ensures.value ∙ c.in_ok-commands.ensures.compaction)
    c.loop-command-test.false c.loop-command.invariant c.in_ok-write_frame.ensures.ok
