use Rattle.std.proofs.Common.{rules, refl, FitsSigned, w32}
use Rattle.std.proofs.lemmas.Int.{to_z-of_z}
use Rattle.std.proofs.lemmas.Simd.{map-map}
use Rattle.window_state.proofs.viewing.shown_window.Goals as goal

pub returns : goal.returns
returns c =
    let f : FitsSigned w32 c.args.window.now.selected = search rules in
    let selected = simp to_z-of_z at c.first_from.ensures in
    simp map-map (rw (c.in_ok-info.ensures, c.from_vec.ensures, c.in_ok-shown.ensures, selected) refl)
