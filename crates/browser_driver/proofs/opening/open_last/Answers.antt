use Rattle.std.proofs.Common.{◌≡◌, pos, length, ap, ◌∙◌, arith, FitsSigned, w32, to_z}
use Rattle.std.proofs.lemmas.Int.{ints, to_z-of_z, to_z_pos}
use Rattle.window_state.specs.declared.change.TabEdit.TheVariants.{Index}
use Rattle.window_state.specs.States.{placed}
use Rattle.browser_driver.specs.Plans.{with_edit}
use Rattle.browser_driver.proofs.opening.open_last.Goals as goal

pub overflow_cast-place : goal.overflow_cast-place
overflow_cast-place c =
    let fits : FitsSigned w32 c.args.window = c.ranges.window in
    let count = ap length (simp to_z-of_z at c.of-place.ensures) in
    omega (arith, ints, count, c.requires)

pub returns-clause-state : goal.returns-clause-state
returns-clause-state c =
    let fits : FitsSigned w32 c.args.window = c.ranges.window in
    let of_id : FitsSigned w32 c.args.id = c.ranges.id in
    let count = ap length (simp to_z-of_z at c.of-place.ensures) in
    let place = length c.of-place.result.now in
    let is_pos : to_z w32 place ≡ pos place = to_z_pos w32 place (omega (arith, count, c.requires)) in
    let edited : c.edit_tab.new.state ≡ with_edit c.args.id (Index (pos place)) c.seat.new.state =
    simp (to_z-of_z, is_pos) at c.edit_tab.ensures in
    let seated = simp to_z-of_z at c.in_ok-seat.ensures.state in
    edited ∙ ap (with_edit c.args.id (Index (pos place))) seated
    ∙ ap (λ n. with_edit c.args.id (Index (pos n)) (placed c.args.window c.args.id c.args.state.now)) count
