use Rattle.std.proofs.Common.{ap, ◌∙◌}
use Rattle.browser_model.specs.Pictures.{picture_view}
use Rattle.browser_model.proofs.GroupLaws.{picture-is}
use Rattle.browser_driver.specs.Held.{held}
use Rattle.browser_driver.proofs.browser.Browser.picture.Goals as goal

pub returns-clause-view : goal.returns-clause-view
returns-clause-view c =
    let i = c.self.inside in
    let b = held i.state i.orders i.closed.entries i.moment in
    let sorted = c.known.ensures.ordered.groups in
    c.in_ok-view.ensures ∙ picture-is i.state b c.self.invariant.running c.self.invariant.matches sorted sorted
    ∙ ap picture_view c.self.view_is
