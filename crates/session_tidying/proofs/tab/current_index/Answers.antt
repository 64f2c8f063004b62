use Rattle.std.proofs.Common.{rules, sym, FitsSigned, w32}
use Rattle.std.proofs.lemmas.Int.{to_z-of_z}
use Rattle.session_tidying.proofs.PlaceLaws.{index-found}
use Rattle.session_tidying.proofs.tab.current_index.Goals as goal

pub returns : goal.returns
returns c =
    let tab = c.args.tab.now in
    let f : FitsSigned w32 c.args.tab.now.current = search rules in
    let g : FitsSigned w32 c.at.result.0 = search rules in
    let place = simp to_z-of_z at c.first_from-place.ensures in
    let found = rw place at c.at.ensures in
    simp to_z-of_z (sym (index-found tab.current tab.current tab.pages (c.at.result.0, c.at.result.1.now) found))
