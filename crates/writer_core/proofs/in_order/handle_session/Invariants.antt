use Rattle.writer_core.specs.declared.item.Item.TheVariants as item
use Rattle.writer_core.proofs.InOrderLaws.{CommandsLeft}
use Rattle.writer_core.proofs.in_order.handle_session.Given as goal

abbrev pub invariant-loop-command : goal.invariant-loop-command
invariant-loop-command g l = CommandsLeft item.Session g.S.Machine.is_command l.fn.commands.items l.command-iterator l.fn.writers l.writers
