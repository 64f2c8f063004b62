-- The initial-state marker as a command: no row of the table has its id, so it is raw.
use Rattle.std.proofs.Common.{[], refl, arith}
use Rattle.tab_restore_commands.specs.Faults.{fault_of}
use Rattle.tab_restore_commands.specs.Table.{Payload}
use Rattle.tab_restore_commands.specs.declared.raw.RawCommand.{RawCommand}
use Rattle.tab_restore_commands.specs.declared.command.TabsCommand.TheVariants.{Raw}

pub marker_command : RawCommand
unfolding fault_of
marker_command = record { id = 255; payload = []; short = omega arith; refused = refl }

pub marker_payload : Payload 255 (Raw marker_command) []
unfolding marker_command
marker_payload = (refl, refl)
