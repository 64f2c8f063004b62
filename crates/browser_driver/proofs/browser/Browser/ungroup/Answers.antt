use Rattle.std.proofs.Common.{subst, FitsSigned, w32}
use Rattle.std.proofs.lemmas.Int.{to_z-of_z}
use Rattle.script_lines.specs.declared.verb.Verb.TheVariants.{Ungroup}
use Rattle.browser_driver.specs.Acts.{act}
use Rattle.browser_driver.specs.Answers.{Answers}
use Rattle.browser_driver.specs.Held.{held}
use Rattle.browser_driver.proofs.AnswerLaws.{followed}
use Rattle.browser_driver.proofs.GroupLaws.{joins-ungroup}
use Rattle.browser_driver.proofs.browser.Browser.ungroup.Goals as goal

pub invariant_of-self : goal.invariant_of-self
invariant_of-self c =
    let i = c.self.inside in
    let fits : FitsSigned w32 c.args.id = c.ranges.id in
    let follows = simp to_z-of_z at c.ungroup_tab.ensures in
    (followed i.state c.ungroup_tab.new.state i.orders i.closed.entries i.moment c.self.invariant _ _
    c.ungroup_tab.result (joins-ungroup i.state i.orders i.closed.entries i.moment c.self.invariant c.args.id) follows).is_held

pub returns : goal.returns
returns c =
    let i = c.self.inside in
    let fits : FitsSigned w32 c.args.id = c.ranges.id in
    let follows = simp to_z-of_z at c.ungroup_tab.ensures in
    let done = followed i.state c.ungroup_tab.new.state i.orders i.closed.entries i.moment c.self.invariant _ _
    c.ungroup_tab.result (joins-ungroup i.state i.orders i.closed.entries i.moment c.self.invariant c.args.id)
    follows in
    subst (λ b. Answers (act (Ungroup c.args.id) b) b (held c.ungroup_tab.new.state i.orders i.closed.entries i.moment)
    c.ungroup_tab.result) c.self.view_is done.answers
