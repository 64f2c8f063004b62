use Rattle.tab_pages.specs.PartLists.{joined, page_shown}
use Rattle.tab_pages.proofs.JoinLaws.{at-first}
use Rattle.tab_pages.proofs.parts.at.Goals as goal

pub returns : goal.returns
returns c = at-first (joined c.args.parts.now) c.args.place c.seek-place.result.0.now c.seek-place.result.1 c.index-parts-0.result (page_shown c.at.result) c.seek-place.ensures.same c.seek-place.ensures.within c.requires c.index-parts-0.is c.at.ensures
