use Rattle.std.proofs.Common.{FitsSigned, w32, refl}
use Rattle.std.proofs.lemmas.Int.{to_z-of_z}
use Rattle.tab_pages.proofs.PositionLaws.{first_from-map}
use Rattle.window_state.proofs.viewing.first_from.Goals as goal

pub returns : goal.returns
returns c =
    let f : FitsSigned w32 c.args.index = c.ranges.index in
    let found = simp to_z-of_z at c.find_from.ensures in
    let last = c.or_last.ensures in
    rw (first_from-map, last, found) refl
