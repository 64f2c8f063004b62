use Rattle.std.proofs.Common.{List, sym, subst, FitsSigned, w32}
use Rattle.std.proofs.lemmas.Int.{to_z-of_z}
use Rattle.closed_entries.specs.declared.entry.Entry.{Entry}
use Rattle.window_state.proofs.IdLaws.{flip}
use Rattle.browser_driver.specs.MovePlans.{elsewhere_step}
use Rattle.browser_driver.specs.SeatPlans.{TakesStep, parts}
use Rattle.browser_driver.proofs.MoveStepLaws.{same-window, other-window, is-within, is-elsewhere, room-within}
use Rattle.browser_driver.proofs.MoveStepLaws.{room-elsewhere, plain-three}
use Rattle.browser_driver.proofs.moving.move_seated.Goals as goal

pub move_within-requires-clause-to : goal.move_within-requires-clause-to
move_within-requires-clause-to c =
    let fits : FitsSigned w32 c.args.own = c.ranges.own in
    simp to_z-of_z (room-within c.args.own c.args.window c.args.from c.args.orders.now c.args.to c.requires.to
    (same-window c.args.window c.args.own c.ranges.window fits c.if-window-own.true) c.requires.from)

pub move_elsewhere-requires-clause-to : goal.move_elsewhere-requires-clause-to
move_elsewhere-requires-clause-to c =
    let fits : FitsSigned w32 c.args.window = c.ranges.window in
    simp to_z-of_z (room-elsewhere c.args.own c.args.window c.args.from c.args.orders.now c.args.to c.requires.to
    (other-window c.args.window c.args.own c.if-window-own.false))

pub move_elsewhere-requires-clause-few : goal.move_elsewhere-requires-clause-few
move_elsewhere-requires-clause-few c =
    let of_own : FitsSigned w32 c.args.own = c.ranges.own in
    let of_window : FitsSigned w32 c.args.window = c.ranges.window in
    simp to_z-of_z (c.requires.few c.args.own c.args.window
    (flip c.args.window c.args.own (other-window c.args.window c.args.own c.if-window-own.false)))

pub returns-then-window-own : goal.returns-then-window-own
returns-then-window-own c =
    let fits : FitsSigned w32 c.args.own = c.ranges.own in
    let s = c.args.state.now in
    let orders = c.args.orders.now in
    let same = same-window c.args.window c.args.own c.ranges.window fits c.if-window-own.true in
    λ (closed : List Entry). subst (λ step. TakesStep step (parts s orders closed)
    (parts c.move_within.new.state c.move_within.new.orders closed) c.move_within.result)
    (sym (is-within c.args.id c.args.own c.args.window c.args.from c.args.to (parts s orders closed) same))
    (simp to_z-of_z at (c.move_within.ensures closed))

pub returns-else-window-own : goal.returns-else-window-own
returns-else-window-own c =
    let s = c.args.state.now in
    let orders = c.args.orders.now in
    let apart = other-window c.args.window c.args.own c.if-window-own.false in
    λ (closed : List Entry). subst (λ step. TakesStep step (parts s orders closed)
    (parts c.move_elsewhere.new.state c.move_elsewhere.new.orders closed) c.move_elsewhere.result)
    (sym (is-elsewhere c.args.id c.args.own c.args.window c.args.from c.args.to (parts s orders closed) apart))
    (plain-three (λ q o v. TakesStep (elsewhere_step q o v c.args.from c.args.to (parts s orders closed))
    (parts s orders closed) (parts c.move_elsewhere.new.state c.move_elsewhere.new.orders closed)
    c.move_elsewhere.result) c.args.id c.args.own c.args.window c.ranges.id c.ranges.own c.ranges.window
    (c.move_elsewhere.ensures closed))
