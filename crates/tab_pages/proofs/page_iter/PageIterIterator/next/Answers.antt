use Rattle.std.proofs.Common.{◌∙◌, arith, sym}
use Rattle.tab_pages.specs.PartLists.{page_shown}
use Rattle.tab_pages.proofs.JoinLaws.{drop-next, in-first}
use Rattle.tab_pages.proofs.page_iter.PageIterIterator.next.Goals as goal

pub overflow_add-self : goal.overflow_add-self
overflow_add-self c =
    let within = in-first c.seek-place.result.1 c.seek-place.result.0.now c.in_ok-part.part.now c.seek-place.ensures.within c.in_ok-part.ensures.value in
    let size = c.len-count.ensures.length in
    omega (arith, within, size)

pub returns-clause-steps : goal.returns-clause-steps
returns-clause-steps c =
    let within = in-first c.seek-place.result.1 c.seek-place.result.0.now c.in_ok-part.part.now c.seek-place.ensures.within c.in_ok-part.ensures.value in
    let step = drop-next c.seek-place.result.0.now c.seek-place.result.1 c.in_ok-part.part.now (page_shown c.at.result) c.in_ok-part.ensures.value within c.at.ensures in
    sym c.self.view_is ∙ sym c.seek-place.ensures.same ∙ step
