use Rattle.std.proofs.Common.{arith}
use Rattle.browser_driver.proofs.ShiftLaws.{rotated-behind, rotated-before}
use Rattle.browser_driver.proofs.order.shift_ids.Goals as goal

pub returns-then-from-to : goal.returns-then-from-to
returns-then-from-to c =
    rotated-behind c.args.from c.args.to c.args.ids.now c.rotate_left.new.self (omega arith) c.requires.to
    c.rotate_left.ensures.after

pub returns-else-from-to : goal.returns-else-from-to
returns-else-from-to c =
    rotated-before c.args.from c.args.to c.args.ids.now c.rotate_right.new.self c.if-from-to.false c.requires.from
    c.rotate_right.ensures.after
