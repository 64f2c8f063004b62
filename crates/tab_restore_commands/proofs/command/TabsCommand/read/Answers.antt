use Rattle.std.proofs.Common.{refl, sym}
use Rattle.tab_restore_commands.proofs.TableLaws.{one_command}
use Rattle.tab_restore_commands.proofs.command.TabsCommand.read.Goals as goal

pub returns-clause-only : goal.returns-clause-only
returns-clause-only c = λ other h. one_command _ other c.args.id c.args.payload.now (refl, sym c.in_ok-payload.ensures) h
