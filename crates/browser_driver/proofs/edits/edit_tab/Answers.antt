use Rattle.std.proofs.Common.{FitsSigned, w32}
use Rattle.std.proofs.lemmas.Int.{to_z-of_z}
use Rattle.browser_driver.proofs.EditLaws.{edited-is}
use Rattle.browser_driver.proofs.edits.edit_tab.Goals as goal

pub returns : goal.returns
returns c =
    let fits : FitsSigned w32 c.args.id = c.ranges.id in
    let stands = simp to_z-of_z at c.edit_tab.ensures.stands in
    let absent = simp to_z-of_z at c.edit_tab.ensures.absent in
    edited-is c.args.id c.args.edit c.args.state.now c.edit_tab.new.self c.known.ensures stands absent
