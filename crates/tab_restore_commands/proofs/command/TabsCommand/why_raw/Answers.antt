use Rattle.std.proofs.Common.{◌∙◌}
use Rattle.tab_restore_commands.proofs.TableLaws.{row_found, row_has_none}
use Rattle.tab_restore_commands.proofs.command.TabsCommand.why_raw.Goals as goal

pub returns-clause-row : goal.returns-clause-row
returns-clause-row c = row_found c.args.id c.args.payload.now c.fault.result c.type_inv.payload c.requires c.fault.ensures

pub returns-clause-none : goal.returns-clause-none
returns-clause-none c = λ command known holds. c.fault.ensures ∙ row_has_none command c.args.id c.args.payload.now c.requires known holds
