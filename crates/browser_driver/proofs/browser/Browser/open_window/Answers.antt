use Rattle.std.proofs.Common.{subst, FitsSigned, w32}
use Rattle.std.proofs.lemmas.Int.{to_z-of_z}
use Rattle.script_lines.specs.declared.verb.Verb.TheVariants.{Window}
use Rattle.browser_driver.specs.Acts.{act}
use Rattle.browser_driver.specs.Answers.{Answers}
use Rattle.browser_driver.specs.Held.{held}
use Rattle.browser_driver.proofs.AnswerLaws.{followed}
use Rattle.browser_driver.proofs.OpenLaws.{joins-open_window}
use Rattle.browser_driver.proofs.browser.Browser.open_window.Goals as goal

pub invariant_of-self : goal.invariant_of-self
invariant_of-self c =
    let i = c.self.inside in
    let fits : FitsSigned w32 c.args.id = c.ranges.id in
    let follows = simp to_z-of_z at c.open_window.ensures in
    (followed i.state c.open_window.new.state i.orders i.closed.entries i.moment c.self.invariant _ _
    c.open_window.result
    (joins-open_window i.state i.orders i.closed.entries i.moment c.self.invariant c.args.id) follows).is_held

pub returns : goal.returns
returns c =
    let i = c.self.inside in
    let fits : FitsSigned w32 c.args.id = c.ranges.id in
    let follows = simp to_z-of_z at c.open_window.ensures in
    let done = followed i.state c.open_window.new.state i.orders i.closed.entries i.moment c.self.invariant _ _
    c.open_window.result
    (joins-open_window i.state i.orders i.closed.entries i.moment c.self.invariant c.args.id) follows in
    subst (λ old. Answers (act (Window c.args.id) old) old
    (held c.open_window.new.state i.orders i.closed.entries i.moment) c.open_window.result) c.self.view_is
    done.answers
