use Rattle.std.proofs.Common.{◌≡◌, pos, ap, ◌∙◌, arith, FitsSigned, w32, w64, to_z}
use Rattle.std.proofs.lemmas.Int.{to_z-of_z, to_z_pos}
use Rattle.window_state.specs.declared.change.TabEdit.TheVariants.{Current, PruneFront, LastActive}
use Rattle.browser_driver.specs.Plans.{with_edit}
use Rattle.browser_driver.specs.VisitPlans.{cut_behind, dropped}
use Rattle.browser_driver.proofs.visiting.settle.Goals as goal

pub returns : goal.returns
returns c =
    let id = c.args.id in
    let r = c.args.reached in
    let k = c.saturating_sub-dropped.result in
    let moment = c.args.moment in
    let room = c.requires.room in
    let own_fits : FitsSigned w32 id = c.ranges.id in
    let moment_fits : FitsSigned w64 moment = c.ranges.moment in
    let own = to_z-of_z w32 id own_fits in
    let reached_is : to_z w32 r ≡ pos r = to_z_pos w32 r (omega (arith, room)) in
    let fewer = c.saturating_sub-dropped.ensures in
    let k_is : k ≡ dropped r = omega (arith, fewer) in
    let dropped_is : to_z w32 k ≡ pos (dropped r) = to_z_pos w32 k (omega (arith, room, k_is)) ∙ ap pos k_is in
    let first = with_edit id (Current (pos r)) in
    let second = with_edit id (PruneFront (pos (dropped r))) in
    let third = with_edit id (LastActive moment) in
    let cut : c.cut_behind.new.state ≡ cut_behind id r c.args.count c.args.state.now = rw own at c.cut_behind.ensures in
    let shown : c.edit_tab.new.state ≡ first c.cut_behind.new.state = rw (own, reached_is) at c.edit_tab.ensures in
    let front : c.edit_tab-2.new.state ≡ second c.edit_tab.new.state = rw (own, dropped_is) at c.edit_tab-2.ensures in
    let timed : c.edit_tab-3.new.state ≡ third c.edit_tab-2.new.state =
    rw (own, to_z-of_z w64 moment moment_fits) at c.edit_tab-3.ensures in
    timed ∙ ap third (front ∙ ap second (shown ∙ ap first cut))
