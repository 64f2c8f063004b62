use Rattle.std.proofs.Common.{◌≡◌, rules, ◌&&◌, IfOk, sym, ap, subst, ◌∙◌, FitsSigned, w32}
use Rattle.std.proofs.lemmas.Int.{to_z-of_z}
use Rattle.tab_pages.specs.PageLists.{has_page}
use Rattle.window_state.specs.Shown.{tabs_in}
use Rattle.session_tidying.proofs.ActiveLaws.{active-listed}
use Rattle.session_tidying.proofs.active.is_active_shown.Goals as goal

pub returns-then-not-has : goal.returns-then-not-has
returns-then-not-has c =
    let f : FitsSigned w32 c.in-Some.id = search rules in
    let state = c.args.state.now in
    let listed = active-listed (λ id. tabs_in id c.args.shown.now) state.windows state.active c.in-Some.id
    (sym c.active.ensures ∙ c.in-Some.is) in
    let stands = simp to_z-of_z at (rw c.windows.ensures at c.has.ensures) in
    sym (listed ∙ ap (λ b. b && has_page (tabs_in c.in-Some.id c.args.shown.now)) (sym stands ∙ c.if-not-has.true))

pub returns : goal.returns
returns c =
    let f : FitsSigned w32 c.in-Some.id = search rules in
    let state = c.args.state.now in
    let listed = active-listed (λ id. tabs_in id c.args.shown.now) state.windows state.active c.in-Some.id
    (sym c.active.ensures ∙ c.in-Some.is) in
    let stands = simp to_z-of_z at (rw c.windows.ensures at c.has.ensures) in
    let seen = listed
    ∙ ap (λ b. b && has_page (tabs_in c.in-Some.id c.args.shown.now)) (sym stands ∙ c.if-not-has.false) in
    subst (λ b. IfOk c.has_shown.result (λ is. is ≡ b)) (sym seen) (simp to_z-of_z at c.has_shown.ensures)
