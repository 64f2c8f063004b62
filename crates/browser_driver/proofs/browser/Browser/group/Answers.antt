use Rattle.std.proofs.Common.{subst, FitsSigned, w32}
use Rattle.std.proofs.lemmas.Int.{to_z-of_z}
use Rattle.script_lines.specs.declared.verb.Verb.TheVariants.{Group}
use Rattle.browser_model.specs.Navigations.{given_group}
use Rattle.browser_driver.specs.Acts.{act}
use Rattle.browser_driver.specs.Answers.{Answers}
use Rattle.browser_driver.specs.Held.{held}
use Rattle.browser_driver.proofs.AnswerLaws.{followed}
use Rattle.browser_driver.proofs.GroupLaws.{joins-group}
use Rattle.browser_driver.proofs.browser.Browser.group.Goals as goal

pub invariant_of-self : goal.invariant_of-self
invariant_of-self c =
    let i = c.self.inside in
    let group = given_group c.args.group.high c.args.group.low c.args.title.now c.args.colour in
    let fits : FitsSigned w32 c.args.id = c.ranges.id in
    let follows = simp to_z-of_z at c.group_tab.ensures in
    (followed i.state c.group_tab.new.state i.orders i.closed.entries i.moment c.self.invariant _ _ c.group_tab.result
    (joins-group i.state i.orders i.closed.entries i.moment c.self.invariant c.args.id group) follows).is_held

pub returns : goal.returns
returns c =
    let i = c.self.inside in
    let g = c.args.group in
    let group = given_group g.high g.low c.args.title.now c.args.colour in
    let fits : FitsSigned w32 c.args.id = c.ranges.id in
    let follows = simp to_z-of_z at c.group_tab.ensures in
    let done = followed i.state c.group_tab.new.state i.orders i.closed.entries i.moment c.self.invariant _ _
    c.group_tab.result
    (joins-group i.state i.orders i.closed.entries i.moment c.self.invariant c.args.id group) follows in
    subst (λ b. Answers (act (Group c.args.id g.high g.low c.args.colour c.args.title.now) b) b
    (held c.group_tab.new.state i.orders i.closed.entries i.moment) c.group_tab.result) c.self.view_is done.answers
