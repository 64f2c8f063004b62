use Rattle.std.proofs.Common.{subst, rules, FitsSigned, w32, w64}
use Rattle.std.proofs.lemmas.Int.{to_z-of_z}
use Rattle.script_lines.specs.declared.verb.Verb.TheVariants.{CloseWindow}
use Rattle.browser_driver.specs.Acts.{act}
use Rattle.browser_driver.specs.Answers.{Answers}
use Rattle.browser_driver.specs.Held.{held}
use Rattle.browser_driver.specs.SeatPlans.{parts}
use Rattle.browser_driver.proofs.CountLaws.{few-seats}
use Rattle.browser_driver.proofs.SeatAnswers.{seats-followed}
use Rattle.browser_driver.proofs.CloseWindowLaws.{joins-close_window}
use Rattle.browser_driver.proofs.browser.Browser.close_window.Goals as goal

pub close_window-requires : goal.close_window-requires
close_window-requires c =
    let i = c.self.inside in
    let fits : FitsSigned w32 c.args.id = c.ranges.id in
    simp to_z-of_z (few-seats i.state i.orders i.closed.entries i.moment c.self.invariant c.args.id)

pub invariant_of-self : goal.invariant_of-self
invariant_of-self c =
    let i = c.self.inside in
    let old = parts i.state i.orders i.closed.entries in
    let new = parts c.close_window.new.state c.close_window.new.orders c.close_window.new.closed.entries in
    let fits : FitsSigned w32 c.args.id = c.ranges.id in
    let time : FitsSigned w64 i.moment = search rules in
    let follows = simp to_z-of_z at c.close_window.ensures in
    (seats-followed old i.moment c.self.invariant new _ _ c.close_window.result
    (joins-close_window old i.moment c.self.invariant c.args.id) follows).is_held

pub returns : goal.returns
returns c =
    let i = c.self.inside in
    let old = parts i.state i.orders i.closed.entries in
    let new = parts c.close_window.new.state c.close_window.new.orders c.close_window.new.closed.entries in
    let fits : FitsSigned w32 c.args.id = c.ranges.id in
    let time : FitsSigned w64 i.moment = search rules in
    let follows = simp to_z-of_z at c.close_window.ensures in
    let done = seats-followed old i.moment c.self.invariant new _ _ c.close_window.result
    (joins-close_window old i.moment c.self.invariant c.args.id) follows in
    subst (λ b. Answers (act (CloseWindow c.args.id) b) b
    (held new.state new.orders new.closed i.moment) c.close_window.result) c.self.view_is done.answers
