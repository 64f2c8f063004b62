use Rattle.std.proofs.Common.{ap, ◌∙◌, rules, FitsSigned, w32}
use Rattle.std.proofs.lemmas.Int.{to_z-of_z}
use Rattle.navigation_entry.specs.Fitting.{fitted_url, fitted_title, fitted_page_state}
use Rattle.browser_driver.proofs.PageLaws.{fitted-is}
use Rattle.browser_driver.proofs.page.fitted_page.Goals as goal

pub returns : goal.returns
returns c =
    let page = c.args.page.now in
    let title = c.args.title.now in
    let url_is = c.in_ok-url.ensures in
    let title_is = c.in_ok-title.ensures in
    let state_is = c.in_ok-page_state.ensures in
    let made = c.fitted.ensures in
    let fits : FitsSigned w32 page.transition = search rules in
    fitted-is title page c.fitted.result c.requires (made.url ∙ ap fitted_url url_is)
    (made.title ∙ ap (λ u. fitted_title u c.in_ok-title.title) url_is ∙ ap (fitted_title page.url) title_is)
    (made.page_state
    ∙ ap (λ u. fitted_page_state u c.in_ok-title.title c.in_ok-page_state.page_state) url_is
    ∙ ap (λ t. fitted_page_state page.url t c.in_ok-page_state.page_state) title_is
    ∙ ap (fitted_page_state page.url title) state_is)
    (made.transition ∙ to_z-of_z w32 page.transition fits) (made.rest ∙ c.in_ok-rest.ensures)
