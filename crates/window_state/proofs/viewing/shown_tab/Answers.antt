use Rattle.std.proofs.Common.{rules, refl, FitsSigned, w32}
use Rattle.std.proofs.lemmas.Int.{to_z-of_z}
use Rattle.window_state.proofs.viewing.shown_tab.Goals as goal

pub returns : goal.returns
returns c =
    let f : FitsSigned w32 c.args.tab.now.current = search rules in
    let current = simp to_z-of_z at c.first_from.ensures in
    rw (c.in_ok-info.ensures, c.from_vec.ensures, c.in_ok-pages.ensures, current) refl
