use Rattle.std.proofs.Common.{rules, ◌≡◌, ◌∙◌, ◌∷◌, ap, arith, drop, sym}
use Rattle.tab_pages.specs.PartLists.{joined}
use Rattle.tab_pages.proofs.JoinLaws.{drop-behind}
use Rattle.tab_pages.proofs.parts.seek.Goals as goal

pub loop-part-preserved : goal.loop-part-preserved
loop-part-preserved c =
    let whole : c.loop-part.left.now ≡ c.in-Some.part.now ∷ c.in-Some.others.now = search rules in
    let tested = c.len.ensures.length in
    let test = c.if-skip-len.false in
    rw c.len-skip.ensures.length (drop-behind c.in-Some.part.now (joined c.in-Some.others.now) c.loop-part.skip (omega (arith, tested, test)) ∙ ap (λ ps. drop c.loop-part.skip (joined ps)) (sym whole) ∙ c.loop-part.invariant)
