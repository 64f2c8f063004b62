use Rattle.std.proofs.Common.{pos, true, false, refl, FitsSigned, w32}
use Rattle.std.proofs.lemmas.Int.{to_z-of_z}
use Rattle.session_commands.specs.declared.command.SessionCommand.TheVariants.{WindowKind}
use Rattle.window_state.specs.Changes.{new_window}
use Rattle.browser_driver.proofs.OpenLaws.{window-opens}
use Rattle.browser_driver.proofs.WindowLaws.{follows-does}
use Rattle.browser_driver.proofs.opening.open_window.Goals as goal

pub returns-then-is_full_for : goal.returns-then-is_full_for
returns-then-is_full_for c =
    let of_id : FitsSigned w32 c.args.id = c.ranges.id in
    let id = c.args.id in
    let absent = simp (to_z-of_z, c.windows.ensures) at c.if-has.ensures in
    let most = simp (to_z-of_z, c.windows-2.ensures) at (c.if-is_full_for.ensures (new_window id) (λ w. w)) in
    simp to_z-of_z (window-opens id c.args.state.now c.known.ensures absent true most, refl)

pub returns : goal.returns
returns c =
    let of_id : FitsSigned w32 c.args.id = c.ranges.id in
    let id = c.args.id in
    let absent = simp (to_z-of_z, c.windows.ensures) at c.if-has.ensures in
    let few = simp (to_z-of_z, c.windows-2.ensures) at (c.if-is_full_for.ensures (new_window id) (λ w. w)) in
    let changed = simp to_z-of_z at c.in_ok-change_window.ensures.ok in
    let command = simp to_z-of_z at c.in_ok-commands.ensures in
    follows-does c.args.state.now c.change_window.new.self (WindowKind id (pos 0)) _ _ _
    (window-opens id c.args.state.now c.known.ensures absent false few) changed command c.of_session.ensures
