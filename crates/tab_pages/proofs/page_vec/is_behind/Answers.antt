use Rattle.std.proofs.Common.{rules, FitsSigned, w32, arith}
use Rattle.std.proofs.lemmas.Int.{ints, to_z-of_z}
use Rattle.tab_pages.proofs.PartLaws.{rising-raise}
use Rattle.tab_pages.proofs.page_vec.is_behind.Goals as goal

pub returns-in-Some-clause-behind : goal.returns-in-Some-clause-behind
returns-in-Some-clause-behind c = λ yes.
    let f : FitsSigned w32 c.args.fall = c.ranges.fall in
    let g : FitsSigned w32 c.args.first = c.ranges.first in
    let h : FitsSigned w32 c.args.count = c.ranges.count in
    let k : FitsSigned w32 c.in-Some.page.now.0 = search rules in
    let index = simp to_z-of_z at c.fallen.ensures in
    let beyond = simp to_z-of_z at (c.is_at_least.ensures yes) in
    let far = rw index at beyond in
    rising-raise c.args.fall _ c.args.pages.now c.in-Some.page.now c.requires.rising c.in-Some.ensures.value (omega (arith, ints))

pub returns-in-Some-clause-fits : goal.returns-in-Some-clause-fits
returns-in-Some-clause-fits c = λ yes.
    let f : FitsSigned w32 c.args.fall = c.ranges.fall in
    let g : FitsSigned w32 c.args.first = c.ranges.first in
    let h : FitsSigned w32 c.args.count = c.ranges.count in
    let k : FitsSigned w32 c.in-Some.page.now.0 = search rules in
    let index = simp to_z-of_z at c.fallen.ensures in
    let beyond = simp to_z-of_z at (c.is_at_least.ensures yes) in
    let far = rw index at beyond in
    let positive = c.requires.count in
    let natural = c.requires.fall in
    let forward = c.requires.first in
    grind (arith, ints)
