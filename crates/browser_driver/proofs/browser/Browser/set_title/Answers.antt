use Rattle.std.proofs.Common.{subst, FitsSigned, w32}
use Rattle.std.proofs.lemmas.Int.{to_z-of_z}
use Rattle.script_lines.specs.declared.verb.Verb.TheVariants.{Title}
use Rattle.browser_driver.specs.Acts.{act}
use Rattle.browser_driver.specs.Answers.{Answers}
use Rattle.browser_driver.specs.Held.{held}
use Rattle.browser_driver.proofs.AnswerLaws.{followed}
use Rattle.browser_driver.proofs.TitleLaws.{joins-title}
use Rattle.browser_driver.proofs.browser.Browser.set_title.Goals as goal

pub invariant_of-self : goal.invariant_of-self
invariant_of-self c =
    let i = c.self.inside in
    let title = c.args.title.now in
    let fits : FitsSigned w32 c.args.id = c.ranges.id in
    let follows = simp to_z-of_z at c.title_page.ensures in
    (followed i.state c.title_page.new.state i.orders i.closed.entries i.moment c.self.invariant _ _ c.title_page.result
    (joins-title i.state i.orders i.closed.entries i.moment c.self.invariant c.args.id title) follows).is_held

pub returns : goal.returns
returns c =
    let i = c.self.inside in
    let title = c.args.title.now in
    let fits : FitsSigned w32 c.args.id = c.ranges.id in
    let follows = simp to_z-of_z at c.title_page.ensures in
    let done = followed i.state c.title_page.new.state i.orders i.closed.entries i.moment c.self.invariant _ _
    c.title_page.result (joins-title i.state i.orders i.closed.entries i.moment c.self.invariant c.args.id title)
    follows in
    subst (λ b. Answers (act (Title c.args.id title) b) b
    (held c.title_page.new.state i.orders i.closed.entries i.moment) c.title_page.result) c.self.view_is done.answers
