use Rattle.std.proofs.Common.{◌∙◌, w32, FitsSigned}
use Rattle.std.proofs.lemmas.Int.{to_z-of_z}
use Rattle.tab_pages.proofs.PageLaws.{put-present, put-absent}
use Rattle.tab_pages.proofs.page_vec.put.Goals as goal

pub returns-then-has-clause-ok : goal.returns-then-has-clause-ok
returns-then-has-clause-ok c =
    let f : FitsSigned w32 c.args.index = c.ranges.index in
    let place = simp (to_z-of_z, c.as_slice.ensures.value) at c.place_of-place.ensures.place in
    let yes = simp (to_z-of_z, c.as_slice-2.ensures.value, place) at (c.has.ensures.yes c.if-has.true) in
    simp (to_z-of_z, place) (put-present c.args.index c.args.navigation c.args.pages.now.items (c.args.index, c.args.navigation) yes.0 (yes.1 _))

pub returns-clause-ok : goal.returns-clause-ok
returns-clause-ok c =
    let f : FitsSigned w32 c.args.index = c.ranges.index in
    let place = simp (to_z-of_z, c.as_slice.ensures.value) at c.place_of-place.ensures.place in
    let no = simp (to_z-of_z, c.as_slice-2.ensures.value, place) at (c.has.ensures.no c.if-has.false) in
    let put = simp (to_z-of_z, place) at c.in_ok-insert.ensures.items in
    put ∙ put-absent c.args.index c.args.navigation c.args.pages.now.items (c.args.index, c.args.navigation) (λ within. no within _)
