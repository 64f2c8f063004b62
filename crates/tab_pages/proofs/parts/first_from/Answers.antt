use Rattle.std.proofs.Common.{FitsSigned, w32, pos, ◌∙◌, arith, sym}
use Rattle.std.proofs.lemmas.Int.{to_z-of_z}
use Rattle.tab_pages.specs.PartLists.{joined}
use Rattle.tab_pages.proofs.CountLaws.{first_from-last, first_from-within}
use Rattle.tab_pages.proofs.parts.first_from.Goals as goal

pub returns-then-before-count : goal.returns-then-before-count
returns-then-before-count c =
    let f : FitsSigned w32 c.args.index = c.ranges.index in
    let before = simp (to_z-of_z) at c.count_before-before.ensures in
    let count = c.count-count.ensures.count in
    let test = c.if-before-count.true in
    before ∙ sym (first_from-within (pos 0) c.args.index (joined c.args.parts.now) c.requires (omega (arith, before, count, test)))

pub returns : goal.returns
returns c =
    let f : FitsSigned w32 c.args.index = c.ranges.index in
    let before = simp (to_z-of_z) at c.count_before-before.ensures in
    let count = c.count-count.ensures.count in
    let test = c.if-before-count.false in
    let last = c.saturating_sub.ensures in
    rw (first_from-last (pos 0) c.args.index (joined c.args.parts.now) c.requires (omega (arith, before, count, test))) (omega (arith, last, count))
