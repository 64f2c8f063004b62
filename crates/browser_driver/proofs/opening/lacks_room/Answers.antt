use Rattle.std.proofs.Common.{FitsSigned, w32}
use Rattle.std.proofs.lemmas.Int.{to_z-of_z}
use Rattle.window_state.specs.Changes.{new_tab, new_window}
use Rattle.browser_driver.proofs.OpenLaws.{lacks-tabs, lacks-windows}
use Rattle.browser_driver.proofs.opening.lacks_room.Goals as goal

pub returns-then-is_full_for : goal.returns-then-is_full_for
returns-then-is_full_for c =
    let of_id : FitsSigned w32 c.args.id = c.ranges.id in
    let id = c.args.id in
    let most = simp (to_z-of_z, c.tabs.ensures) at (c.if-is_full_for.ensures (new_tab id) (λ t. t)) in
    λ absent. lacks-tabs c.args.window id c.args.state.now c.known.ensures absent most

pub returns : goal.returns
returns c =
    let of_id : FitsSigned w32 c.args.id = c.ranges.id in
    let fits : FitsSigned w32 c.args.window = c.ranges.window in
    let id = c.args.id in
    let few = simp (to_z-of_z, c.tabs.ensures) at (c.if-is_full_for.ensures (new_tab id) (λ t. t)) in
    let says = simp (to_z-of_z, c.windows.ensures) at (c.is_full_for-2.ensures (new_window c.args.window) (λ w. w)) in
    λ absent. lacks-windows c.args.window id c.args.state.now c.known.ensures absent few c.is_full_for-2.result says
