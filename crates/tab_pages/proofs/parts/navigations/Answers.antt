use Rattle.std.proofs.lemmas.List.{map-append}
use Rattle.tab_pages.proofs.JoinLaws.{joined_more}
use Rattle.tab_pages.proofs.parts.navigations.Goals as goal

pub loop-part-preserved : goal.loop-part-preserved
loop-part-preserved c =
    let within = c.loop-part-test.true in
    let whole = joined_more c.args.parts.now c.loop-part.part-index c.part-item.result within c.part-item.is in
    rw (whole, map-append, ← c.loop-part.invariant) c.in_ok-push_navigations.ensures
