use Rattle.std.proofs.Common.{FitsSigned, w32, ◌∙◌, rules}
use Rattle.std.proofs.lemmas.Int.{to_z-of_z}
use Rattle.tab_pages.proofs.PartLaws.{begins-first}
use Rattle.tab_pages.proofs.page_vec.begins_by.Goals as goal

pub returns-in-Some : goal.returns-in-Some
returns-in-Some c =
    let f : FitsSigned w32 c.args.fall = c.ranges.fall in
    let g : FitsSigned w32 c.args.index = c.ranges.index in
    let k : FitsSigned w32 c.in-Some.first.now.0 = search rules in
    let here = simp to_z-of_z at c.is_by.ensures in
    here ∙ begins-first c.args.fall c.args.index c.args.pages.now c.in-Some.first.now c.in-Some.ensures.value
