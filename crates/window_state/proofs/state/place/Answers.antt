use Rattle.std.proofs.Common.{◌≡◌, refl, ap, sym, ◌∙◌, is_some, false, FitsSigned, w32}
use Rattle.std.specs.Ordering.{int_cmp}
use Rattle.std.proofs.lemmas.Int.{to_z-of_z}
use Rattle.window_state.specs.RowLists.{find_row, without_row}
use Rattle.window_state.specs.Keys.{window_key}
use Rattle.window_state.specs.Changes.{new_window}
use Rattle.window_state.proofs.RowLaws.{made-undone}
use Rattle.window_state.proofs.StateLaws.{itself}
use Rattle.window_state.proofs.state.place.Goals as goal

pub returns-then-not-stood-clause-err : goal.returns-then-not-stood-clause-err
returns-then-not-stood-clause-err c =
    let f : FitsSigned w32 c.args.window = c.ranges.window in
    let seen = simp to_z-of_z at c.has-stood.ensures in
    let made = simp to_z-of_z at c.in_ok-make.ensures.ok in
    let gone = simp to_z-of_z at c.remove.ensures in
    let absent : is_some (find_row int_cmp window_key c.args.window c.args.windows.now) ≡ false = sym seen ∙ c.if-not-stood.true in
    (gone ∙ ap (without_row int_cmp window_key c.args.window) made ∙ made-undone int_cmp window_key c.args.window (new_window c.args.window) c.args.windows.now (itself c.args.window) refl absent, c.in-Err.ensures.err)
