use Rattle.std.proofs.Common.{◌∙◌, FitsSigned, w32}
use Rattle.std.proofs.lemmas.Int.{to_z-of_z}
use Rattle.std.proofs.lemmas.Result.{on_ok_weaker}
use Rattle.window_state.specs.declared.change.TabChange.TheVariants.{Page}
use Rattle.window_state.specs.Changes.{changed_tab}
use Rattle.browser_driver.proofs.EditLaws.{changed-is}
use Rattle.browser_driver.proofs.edits.put_page.Goals as goal

pub returns-clause-ok : goal.returns-clause-ok
returns-clause-ok c =
    let s = c.args.state.now in
    let fits : FitsSigned w32 c.args.id = c.ranges.id in
    let index : FitsSigned w32 c.args.index = c.ranges.index in
    let changed = simp to_z-of_z at c.change_tab.ensures.ok in
    on_ok_weaker c.change_tab.result (λ is. is
    ∙ changed-is c.args.id (changed_tab (Page c.args.index c.args.page)) s c.known.ensures c.requires) changed
