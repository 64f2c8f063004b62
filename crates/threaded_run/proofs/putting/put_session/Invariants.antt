use Rattle.compactor.specs.session.SessionKind.{IsCommand}
use Rattle.writer_core.specs.declared.item.Item.TheVariants as item
use Rattle.threaded_run.proofs.PuttingLaws.{CommandsPut}
use Rattle.threaded_run.proofs.putting.put_session.Given as goal

abbrev pub invariant-loop-command : goal.invariant-loop-command
invariant-loop-command g l = CommandsPut l.queue item.Session IsCommand l.fn.commands.items l.fn.issuer l.command-iterator l.issuer
