use Rattle.std.proofs.Common.{w32, to_z, of_z}
use Rattle.std.proofs.lemmas.List.Edits.{map_over_more}
use Rattle.tab_pages.specs.PageLists.{prune_back}
use Rattle.tab_pages.proofs.parts.prune_back_all.Goals as goal

pub loop-part-preserved : goal.loop-part-preserved
loop-part-preserved c =
    let within = c.loop-part-test.true in
    rw (c.prune_back.ensures, ← c.part-item.is) (map_over_more (prune_back (to_z w32 (of_z w32 c.args.index))) c.args.parts.now c.loop-part.parts c.loop-part.part-index c.part-item.result within c.loop-part.invariant c.part-item.is)
