use Rattle.std.proofs.Common.{take}
use Rattle.std.specs.List.{AllByRecursion}
use Rattle.session_commands.specs.Table.{IsInRange}
use Rattle.browser_driver.proofs.acting.known_in_range.Given as goal

abbrev pub invariant-loop-command : goal.invariant-loop-command
invariant-loop-command l = AllByRecursion IsInRange (take l.command-index l.command-items)
