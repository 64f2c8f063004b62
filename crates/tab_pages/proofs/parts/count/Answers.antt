use Rattle.std.proofs.Common.{◌∙◌, ◌+◌, ap, arith, length, take}
use Rattle.std.proofs.lemmas.List.{length-append}
use Rattle.tab_pages.specs.PartLists.{joined, AreLow}
use Rattle.tab_pages.proofs.JoinLaws.{joined_more, few_so_far, low-append}
use Rattle.tab_pages.proofs.parts.count.Goals as goal

pub overflow_add-count : goal.overflow_add-count
overflow_add-count c =
    let i = c.loop-part.part-index in
    let within = c.loop-part-test.true in
    let whole = joined_more c.args.parts.now c.loop-part.part-index c.part-item.result within c.part-item.is in
    let low : AreLow (joined (take (c.loop-part.part-index + 1) c.args.parts.now)) = rw whole (low-append _ _ c.loop-part.invariant.1 c.len-count.ensures.low) in
    let few = few_so_far c.args.parts.now (c.loop-part.part-index + 1) c.requires low in
    let long = ap length whole ∙ length-append (joined (take c.loop-part.part-index c.args.parts.now)) c.part-item.result in
    let before = c.loop-part.invariant.0 in
    let here = c.len-count.ensures.length in
    omega (arith, few, long, before, here)

pub loop-part-preserved : goal.loop-part-preserved
loop-part-preserved c =
    let within = c.loop-part-test.true in
    let whole = joined_more c.args.parts.now c.loop-part.part-index c.part-item.result within c.part-item.is in
    let long = length-append (joined (take c.loop-part.part-index c.args.parts.now)) c.part-item.result in
    let before = c.loop-part.invariant.0 in
    let here = c.len-count.ensures.length in
    rw whole (omega (arith, long, before, here), low-append _ _ c.loop-part.invariant.1 c.len-count.ensures.low)

pub returns-clause-small : goal.returns-clause-small
returns-clause-small c =
    let few = few_so_far c.args.parts.now c.loop-part.part-index c.requires c.loop-part.invariant.1 in
    let here = c.loop-part.invariant.0 in
    omega (arith, few, here)
