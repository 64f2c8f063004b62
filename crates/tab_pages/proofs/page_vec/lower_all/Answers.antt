use Rattle.std.proofs.Common.{w32, to_z, of_z}
use Rattle.std.proofs.lemmas.List.Edits.{map_over_more}
use Rattle.tab_pages.specs.PageLists.{lowered}
use Rattle.tab_pages.proofs.page_vec.lower_all.Goals as goal

pub loop-page-preserved : goal.loop-page-preserved
loop-page-preserved c =
    let within = c.loop-page-test.true in
    rw (c.lower.ensures, ← c.page-item.is) (map_over_more (lowered (to_z w32 (of_z w32 c.args.first)) (to_z w32 (of_z w32 c.args.count))) c.args.pages.now c.loop-page.pages c.loop-page.page-index c.page-item.result within c.loop-page.invariant c.page-item.is)
