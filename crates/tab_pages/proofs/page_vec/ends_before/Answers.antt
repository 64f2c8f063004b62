use Rattle.std.proofs.Common.{rules, FitsSigned, w32, ◌∙◌, arith, length, ◌-◌}
use Rattle.std.proofs.lemmas.Int.{to_z-of_z}
use Rattle.tab_pages.proofs.PartLaws.{last-before}
use Rattle.tab_pages.proofs.page_vec.ends_before.Goals as goal

pub returns-in-Some : goal.returns-in-Some
returns-in-Some c =
    let f : FitsSigned w32 c.args.fall = c.ranges.fall in
    let g : FitsSigned w32 c.args.index = c.ranges.index in
    let k : FitsSigned w32 c.in-Some.last.now.0 = search rules in
    let here = simp to_z-of_z at c.is_before.ensures in
    here ∙ last-before c.args.fall c.args.fall c.args.index c.args.pages.now (length c.args.pages.now - 1) c.in-Some.last.now (omega arith) c.requires c.in-Some.ensures.value
