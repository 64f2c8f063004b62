use Rattle.std.proofs.Common.{◌≡◌, ℕ, ◌%◌, ◌≤◌, List, length, sym, subst, ap, ◌∙◌, FitsSigned, w64}
use Rattle.std.proofs.lemmas.Int.{to_z-of_z}
use Rattle.navigation_entry.specs.Fitting.{fitted_url, fitted_title, fitted_page_state}
use Rattle.browser_model.specs.Navigations.{visit_rest-few, visit_rest-whole, visit_state, visited_page}
use Rattle.browser_driver.specs.MadePages.{short_state}
use Rattle.browser_driver.proofs.PageLaws.{short-fits}
use Rattle.browser_driver.proofs.ValueLaws.{page-same}
use Rattle.browser_driver.proofs.page.visited_page.Goals as goal

pub fitted-requires-clause-whole : goal.fitted-requires-clause-whole
fitted-requires-clause-whole c =
    let time : FitsSigned w64 c.args.moment = c.ranges.moment in
    let rest = simp to_z-of_z at c.in_ok-rest.ensures in
    subst (λ (r : List ℕ). length r % 4 ≡ 0) (sym rest) (visit_rest-whole c.args.moment)

pub fitted-requires-clause-few : goal.fitted-requires-clause-few
fitted-requires-clause-few c =
    let time : FitsSigned w64 c.args.moment = c.ranges.moment in
    let rest = simp to_z-of_z at c.in_ok-rest.ensures in
    subst (λ (r : List ℕ). length r ≤ 984) (sym rest) (visit_rest-few c.args.moment)

pub returns : goal.returns
returns c =
    let time : FitsSigned w64 c.args.moment = c.ranges.moment in
    let rest = simp to_z-of_z at c.in_ok-rest.ensures in
    let url = c.in_ok-url.ensures in
    let title = c.in_ok-title.ensures in
    let state : c.in_ok-page_state.page_state ≡ short_state c.args.state_len = c.in_ok-page_state.ensures in
    let made = c.fitted.ensures in
    page-same c.fitted.result
    (visited_page c.args.url.now c.args.title.now (visit_state c.args.state_len) c.args.moment)
    (made.url ∙ ap fitted_url url)
    (made.title ∙ ap (λ u. fitted_title u c.in_ok-title.title) url ∙ ap (fitted_title c.args.url.now) title)
    (made.page_state
    ∙ ap (λ u. fitted_page_state u c.in_ok-title.title c.in_ok-page_state.page_state) url
    ∙ ap (λ t. fitted_page_state c.args.url.now t c.in_ok-page_state.page_state) title
    ∙ ap (fitted_page_state c.args.url.now c.args.title.now) state
    ∙ short-fits c.args.url.now c.args.title.now c.args.state_len)
    made.transition (made.rest ∙ rest)
