use Rattle.std.proofs.Common.{subst, FitsSigned, w32}
use Rattle.std.proofs.lemmas.Int.{to_z-of_z}
use Rattle.browser_driver.specs.Acts as act
use Rattle.browser_driver.specs.Answers.{Answers}
use Rattle.browser_driver.specs.Held.{held}
use Rattle.browser_driver.specs.Plans.{pins}
use Rattle.browser_driver.proofs.AnswerLaws.{followed}
use Rattle.browser_driver.proofs.TabLaws.{joins-pin}
use Rattle.browser_driver.proofs.browser.Browser.pin.Goals as goal

pub invariant_of-self : goal.invariant_of-self
invariant_of-self c =
    let i = c.self.inside in
    let b = held i.state i.orders i.closed.entries i.moment in
    let fits : FitsSigned w32 c.args.id = c.ranges.id in
    let follows = simp to_z-of_z at c.pin_tab.ensures in
    (followed i.state c.pin_tab.new.state i.orders i.closed.entries i.moment c.self.invariant
    (pins c.args.pinned c.args.id i.state) (act.pins c.args.pinned c.args.id b) c.pin_tab.result
    (joins-pin i.state i.orders i.closed.entries i.moment c.self.invariant c.args.id c.args.pinned) follows).is_held

pub returns : goal.returns
returns c =
    let i = c.self.inside in
    let b = held i.state i.orders i.closed.entries i.moment in
    let fits : FitsSigned w32 c.args.id = c.ranges.id in
    let follows = simp to_z-of_z at c.pin_tab.ensures in
    let done = followed i.state c.pin_tab.new.state i.orders i.closed.entries i.moment c.self.invariant
    (pins c.args.pinned c.args.id i.state) (act.pins c.args.pinned c.args.id b) c.pin_tab.result
    (joins-pin i.state i.orders i.closed.entries i.moment c.self.invariant c.args.id c.args.pinned) follows in
    subst (λ old. Answers (act.pins c.args.pinned c.args.id old) old
    (held c.pin_tab.new.state i.orders i.closed.entries i.moment) c.pin_tab.result) c.self.view_is done.answers
