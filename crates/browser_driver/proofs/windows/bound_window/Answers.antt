use Rattle.std.proofs.Common.{refl, FitsSigned, w32}
use Rattle.std.proofs.lemmas.Int.{to_z-of_z}
use Rattle.session_commands.specs.declared.command.SessionCommand.TheVariants.{WindowBounds}
use Rattle.browser_driver.proofs.WindowLaws.{follows-window}
use Rattle.browser_driver.proofs.windows.bound_window.Goals as goal

pub returns : goal.returns
returns c =
    let fits : FitsSigned w32 c.args.window = c.ranges.window in
    let there = simp (to_z-of_z, c.windows.ensures) at c.if-not-has.ensures in
    let edited = simp to_z-of_z at c.edit_window.ensures in
    let command = simp to_z-of_z at c.in_ok-commands.ensures in
    follows-window c.args.window c.args.state.now c.edit_window.new.state (WindowBounds c.args.window c.args.bounds)
    _ _ _ there edited command c.of_session.ensures (λ w. refl)
