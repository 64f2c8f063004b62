use Rattle.std.proofs.Common.{◌∙◌, ◌+◌, FitsSigned, w32, ap, arith, length, take}
use Rattle.std.proofs.lemmas.Int.{to_z-of_z}
use Rattle.tab_pages.specs.PageLists.{prune_back}
use Rattle.tab_pages.specs.PartLists.{joined}
use Rattle.tab_pages.proofs.CountLaws.{count-append, count-so_far}
use Rattle.tab_pages.proofs.JoinLaws.{joined_more}
use Rattle.tab_pages.proofs.parts.count_before.Goals as goal

pub overflow_add-count : goal.overflow_add-count
overflow_add-count c =
    let f : FitsSigned w32 c.args.index = c.ranges.index in
    let within = c.loop-part-test.true in
    let whole = joined_more c.args.parts.now c.loop-part.part-index c.part-item.result within c.part-item.is in
    let sum = ap (λ ps. length (prune_back c.args.index ps)) whole ∙ count-append c.args.index (joined (take c.loop-part.part-index c.args.parts.now)) c.part-item.result in
    let few = count-so_far c.args.index c.args.parts.now (c.loop-part.part-index + 1) in
    let before = simp to_z-of_z at c.loop-part.invariant in
    let here = simp to_z-of_z at c.count_before-count.ensures in
    let small = c.requires in
    omega (arith, sum, few, before, here, small)

pub loop-part-preserved : goal.loop-part-preserved
loop-part-preserved c =
    let f : FitsSigned w32 c.args.index = c.ranges.index in
    let within = c.loop-part-test.true in
    let whole = joined_more c.args.parts.now c.loop-part.part-index c.part-item.result within c.part-item.is in
    let sum = ap (λ ps. length (prune_back c.args.index ps)) whole ∙ count-append c.args.index (joined (take c.loop-part.part-index c.args.parts.now)) c.part-item.result in
    let before = simp to_z-of_z at c.loop-part.invariant in
    let here = simp to_z-of_z at c.count_before-count.ensures in
    simp to_z-of_z (omega (arith, sum, before, here))
