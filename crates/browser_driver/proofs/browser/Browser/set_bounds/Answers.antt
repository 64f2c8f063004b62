use Rattle.std.proofs.Common.{subst, FitsSigned, w32}
use Rattle.std.proofs.lemmas.Int.{to_z-of_z}
use Rattle.script_lines.specs.declared.verb.Verb.TheVariants.{SetBounds}
use Rattle.browser_driver.specs.Acts.{act}
use Rattle.browser_driver.specs.Answers.{Answers}
use Rattle.browser_driver.specs.Held.{held}
use Rattle.browser_driver.proofs.AnswerLaws.{followed}
use Rattle.browser_driver.proofs.WindowLaws.{joins-bounds}
use Rattle.browser_driver.proofs.browser.Browser.set_bounds.Goals as goal

pub invariant_of-self : goal.invariant_of-self
invariant_of-self c =
    let i = c.self.inside in
    let fits : FitsSigned w32 c.args.window = c.ranges.window in
    let follows = simp to_z-of_z at c.bound_window.ensures in
    (followed i.state c.bound_window.new.state i.orders i.closed.entries i.moment c.self.invariant _ _
    c.bound_window.result
    (joins-bounds i.state i.orders i.closed.entries i.moment c.self.invariant c.args.window c.args.bounds) follows).is_held

pub returns : goal.returns
returns c =
    let i = c.self.inside in
    let fits : FitsSigned w32 c.args.window = c.ranges.window in
    let follows = simp to_z-of_z at c.bound_window.ensures in
    let done = followed i.state c.bound_window.new.state i.orders i.closed.entries i.moment c.self.invariant _ _
    c.bound_window.result
    (joins-bounds i.state i.orders i.closed.entries i.moment c.self.invariant c.args.window c.args.bounds) follows in
    subst (λ old. Answers (act (SetBounds c.args.window c.args.bounds) old) old
    (held c.bound_window.new.state i.orders i.closed.entries i.moment) c.bound_window.result) c.self.view_is
    done.answers
