use Rattle.std.proofs.Common.{FitsSigned, w32, pos, ◌-◌, ◌∙◌, arith, length, sym}
use Rattle.std.proofs.lemmas.Int.{to_z-of_z}
use Rattle.tab_pages.proofs.JoinLaws.{all_before-last}
use Rattle.tab_pages.proofs.parts.end_before.Goals as goal

pub returns-then-has_page : goal.returns-then-has_page
returns-then-has_page c = λ yes.
    let f : FitsSigned w32 c.args.index = c.ranges.index in
    let here = simp to_z-of_z at c.ends_before.ensures in
    all_before-last (pos 0) c.args.index c.args.parts.now (length c.args.parts.now - 1) c.in-Some.last.now (omega arith) c.in-Some.ensures.value (sym c.has_page.ensures ∙ c.if-has_page.true) (sym here ∙ yes) c.requires
