use Rattle.std.proofs.Common.{subst, FitsSigned, w32}
use Rattle.std.proofs.lemmas.Int.{to_z-of_z}
use Rattle.script_lines.specs.declared.verb.Verb.TheVariants.{Active}
use Rattle.browser_driver.specs.Acts.{act}
use Rattle.browser_driver.specs.Answers.{Answers}
use Rattle.browser_driver.specs.Held.{held}
use Rattle.browser_driver.proofs.AnswerLaws.{followed}
use Rattle.browser_driver.proofs.WindowLaws.{joins-active}
use Rattle.browser_driver.proofs.browser.Browser.activate.Goals as goal

pub invariant_of-self : goal.invariant_of-self
invariant_of-self c =
    let i = c.self.inside in
    let fits : FitsSigned w32 c.args.window = c.ranges.window in
    let follows = simp to_z-of_z at c.activate_window.ensures in
    (followed i.state c.activate_window.new.state i.orders i.closed.entries i.moment c.self.invariant _ _
    c.activate_window.result
    (joins-active i.state i.orders i.closed.entries i.moment c.self.invariant c.args.window) follows).is_held

pub returns : goal.returns
returns c =
    let i = c.self.inside in
    let fits : FitsSigned w32 c.args.window = c.ranges.window in
    let follows = simp to_z-of_z at c.activate_window.ensures in
    let done = followed i.state c.activate_window.new.state i.orders i.closed.entries i.moment c.self.invariant _ _
    c.activate_window.result
    (joins-active i.state i.orders i.closed.entries i.moment c.self.invariant c.args.window) follows in
    subst (λ old. Answers (act (Active c.args.window) old) old
    (held c.activate_window.new.state i.orders i.closed.entries i.moment) c.activate_window.result) c.self.view_is
    done.answers
