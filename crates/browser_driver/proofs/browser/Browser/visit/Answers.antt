use Rattle.std.proofs.Common.{subst, rules, FitsSigned, w32, w64}
use Rattle.std.proofs.lemmas.Int.{to_z-of_z}
use Rattle.script_lines.specs.declared.verb.Verb.TheVariants.{Visit}
use Rattle.browser_model.specs.Navigations.{visit_state, visited_page}
use Rattle.browser_driver.specs.Acts.{act}
use Rattle.browser_driver.specs.Answers.{Answers}
use Rattle.browser_driver.specs.Held.{held}
use Rattle.browser_driver.specs.VisitPlans.{visits}
use Rattle.browser_driver.proofs.AnswerLaws.{followed}
use Rattle.browser_driver.proofs.VisitLaws.{joins-visit}
use Rattle.browser_driver.proofs.browser.Browser.visit.Goals as goal

pub invariant_of-self : goal.invariant_of-self
invariant_of-self c =
    let i = c.self.inside in
    let fits : FitsSigned w32 c.args.id = c.ranges.id in
    let time : FitsSigned w64 i.moment = search rules in
    let page = visited_page c.args.url.now c.args.title.now (visit_state c.args.state_len) i.moment in
    let verb = Visit c.args.id c.args.url.now c.args.state_len c.args.title.now in
    let follows = simp to_z-of_z at c.visit_page.ensures in
    (followed i.state c.visit_page.new.state i.orders i.closed.entries i.moment c.self.invariant
    (visits c.args.id page i.moment i.state) (act verb (held i.state i.orders i.closed.entries i.moment))
    c.visit_page.result
    (joins-visit i.state i.orders i.closed.entries i.moment c.self.invariant c.args.id c.args.url.now c.args.state_len
    c.args.title.now) follows).is_held

pub returns : goal.returns
returns c =
    let i = c.self.inside in
    let fits : FitsSigned w32 c.args.id = c.ranges.id in
    let time : FitsSigned w64 i.moment = search rules in
    let page = visited_page c.args.url.now c.args.title.now (visit_state c.args.state_len) i.moment in
    let verb = Visit c.args.id c.args.url.now c.args.state_len c.args.title.now in
    let follows = simp to_z-of_z at c.visit_page.ensures in
    let done = followed i.state c.visit_page.new.state i.orders i.closed.entries i.moment c.self.invariant
    (visits c.args.id page i.moment i.state) (act verb (held i.state i.orders i.closed.entries i.moment))
    c.visit_page.result
    (joins-visit i.state i.orders i.closed.entries i.moment c.self.invariant c.args.id c.args.url.now c.args.state_len
    c.args.title.now) follows in
    subst (λ b. Answers (act verb b) b
    (held c.visit_page.new.state i.orders i.closed.entries i.moment) c.visit_page.result) c.self.view_is done.answers
