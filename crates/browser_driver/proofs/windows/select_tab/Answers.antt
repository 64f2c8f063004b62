use Rattle.std.proofs.Common.{◌≡◌, pos, false, length, sym, ap, ◌∙◌, arith, int_le, FitsSigned, w32, to_z}
use Rattle.std.proofs.lemmas.Int.{to_z-of_z, to_z_pos}
use Rattle.session_commands.specs.declared.command.SessionCommand.TheVariants.{SelectTab}
use Rattle.browser_driver.specs.Acts.{isnt_below}
use Rattle.browser_driver.specs.WindowPlans.{does}
use Rattle.browser_driver.specs.Plans.{refuses_where}
use Rattle.browser_driver.specs.declared.fault.VerbFault.TheVariants.{Place}
use Rattle.browser_driver.proofs.WindowLaws.{follows-window}
use Rattle.browser_driver.proofs.windows.select_tab.Goals as goal

pub returns : goal.returns
returns c =
    let fits : FitsSigned w32 c.args.window = c.ranges.window in
    let at_place : FitsSigned w32 c.args.place = c.ranges.place in
    let there = simp (to_z-of_z, c.windows.ensures) at c.if-not-has.ensures in
    let edited = simp to_z-of_z at c.edit_window.ensures in
    let command = simp to_z-of_z at c.in_ok-commands.ensures in
    let count = ap length (simp to_z-of_z at c.of.ensures) in
    let tabs = length c.of.result.now in
    let is_pos : to_z w32 tabs ≡ pos tabs = to_z_pos w32 tabs (omega (arith, count, c.requires)) in
    let low : int_le (pos tabs) c.args.place ≡ false = simp (is_pos, to_z-of_z) at c.if-place-count.false in
    let said = SelectTab c.args.window c.args.place in
    follows-window c.args.window c.args.state.now c.edit_window.new.state said _ _ _ there edited command
    c.of_session.ensures (λ w. ap (λ refused. refuses_where refused (Place c.args.place) (does said c.args.state.now))
    (ap (isnt_below c.args.place) (sym count) ∙ low))
