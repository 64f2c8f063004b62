use Rattle.std.proofs.Common.{◌+◌, length, ap, ◌∙◌, arith, FitsSigned, w32}
use Rattle.std.proofs.lemmas.Int.{to_z-of_z}
use Rattle.std.proofs.lemmas.List.{length-drop}
use Rattle.browser_driver.specs.Orders.{order_of}
use Rattle.browser_driver.proofs.closing.close_seated.Goals as goal

pub from-requires : goal.from-requires
from-requires c =
    let fits : FitsSigned w32 c.args.window = c.ranges.window in
    simp to_z-of_z (omega (arith, c.requires.within))

pub close_commands-requires : goal.close_commands-requires
close_commands-requires c =
    let fits : FitsSigned w32 c.args.window = c.ranges.window in
    let ids = order_of c.args.window c.args.orders.now in
    let later = simp to_z-of_z at c.from.ensures in
    let count = ap length later ∙ length-drop (c.args.place + 1) ids in
    omega (arith, count, c.requires.few)
