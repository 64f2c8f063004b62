use Rattle.std.proofs.Common.{FitsSigned, w32, arith}
use Rattle.std.proofs.lemmas.Int.{to_z-of_z}
use Rattle.tab_pages.proofs.JoinLaws.{part_of-last}
use Rattle.tab_pages.proofs.parts.find_part.Goals as goal

pub returns-after-loop-number-clause-place : goal.returns-after-loop-number-clause-place
returns-after-loop-number-clause-place c =
    let f : FitsSigned w32 c.args.index = c.ranges.index in
    let sum = simp to_z-of_z at c.loop-number.invariant.1 in
    let test = c.loop-number-test.false in
    let last = part_of-last c.args.index c.args.parts.now c.loop-number.number c.loop-number.invariant.0 (omega (arith, test)) in
    omega (arith, sum, last)
