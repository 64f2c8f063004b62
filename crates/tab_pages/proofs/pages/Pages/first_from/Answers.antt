use Rattle.std.proofs.Common.{FitsSigned, w32}
use Rattle.std.proofs.lemmas.Int.{to_z-of_z}
use Rattle.tab_pages.proofs.pages.Pages.first_from.Goals as goal

pub returns : goal.returns
returns c =
    let f : FitsSigned w32 c.args.index = c.ranges.index in
    let slice = c.as_slice.ensures.value in
    let here = simp to_z-of_z at c.first_from.ensures in
    rw (slice, c.self.view_is) at here
