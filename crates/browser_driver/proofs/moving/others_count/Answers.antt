use Rattle.std.proofs.Common.{length, sym, ap, ◌∙◌, FitsSigned, w32}
use Rattle.std.proofs.lemmas.Int.{to_z-of_z}
use Rattle.browser_driver.proofs.MoveStepLaws.{other-window, others-beside}
use Rattle.browser_driver.proofs.moving.others_count.Goals as goal

pub returns-else-window-own : goal.returns-else-window-own
returns-else-window-own c =
    let of_own : FitsSigned w32 c.args.own = c.ranges.own in
    let of_window : FitsSigned w32 c.args.window = c.ranges.window in
    ap length (simp to_z-of_z at c.of-count.ensures)
    ∙ sym (others-beside c.args.own c.args.window c.args.from c.args.orders.now
    (other-window c.args.window c.args.own c.if-window-own.false))
