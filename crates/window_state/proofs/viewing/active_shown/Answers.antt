use Rattle.std.proofs.Common.{rules, sym, ◌∙◌, FitsSigned, w32}
use Rattle.std.proofs.lemmas.Int.{to_z-of_z}
use Rattle.window_state.proofs.viewing.active_shown.Goals as goal

pub returns-else-has_window : goal.returns-else-has_window
returns-else-has_window c =
    let f : FitsSigned w32 c.in-Some.id = search rules in
    let listed = simp to_z-of_z at c.has_window.ensures in
    let absent = sym listed ∙ c.if-has_window.false in
    rw (c.in-Some.is, absent) c.least_shown.ensures
