use Rattle.std.proofs.Common.{FitsSigned, w32, pos, ◌-◌, ◌∙◌, arith, length, sym}
use Rattle.std.proofs.lemmas.Int.{to_z-of_z}
use Rattle.tab_pages.proofs.JoinLaws.{part_of-reached}
use Rattle.tab_pages.proofs.parts.last_begins_by.Goals as goal

pub returns-in-Some : goal.returns-in-Some
returns-in-Some c = λ yes.
    let f : FitsSigned w32 c.args.index = c.ranges.index in
    let here = simp to_z-of_z at c.begins_by.ensures in
    part_of-reached (pos 0) c.args.index c.args.parts.now (length c.args.parts.now - 1) c.in-Some.last.now (omega arith) c.in-Some.ensures.value (sym here ∙ yes) c.requires
