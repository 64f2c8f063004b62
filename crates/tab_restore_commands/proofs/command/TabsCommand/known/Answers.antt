use Rattle.std.proofs.Common.{◌≡◌, None}
use Rattle.tab_restore_commands.specs.Faults.{name_of}
use Rattle.tab_restore_commands.proofs.TableLaws.{unknown_id, refused}
use Rattle.tab_restore_commands.proofs.command.TabsCommand.known.Goals as goal

pub returns-in_default : goal.returns-in_default
returns-in_default c =
    let none : None ≡ name_of c.args.id = c.in_default.ensures in unknown_id c.args.id c.args.payload.now none

pub returns-in-None : goal.returns-in-None
returns-in-None c =
    let faulty = rw c.in-None.is at c.in_ok-fields.ensures in refused c.args.id c.args.payload.now c.in-Some.shape c.in-Some.ensures faulty
