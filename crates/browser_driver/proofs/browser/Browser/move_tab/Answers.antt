use Rattle.std.proofs.Common.{subst}
use Rattle.script_lines.specs.declared.verb.Verb.TheVariants.{Move}
use Rattle.browser_driver.specs.Acts.{act}
use Rattle.browser_driver.specs.Answers.{Answers}
use Rattle.browser_driver.specs.Held.{held}
use Rattle.browser_driver.specs.MovePlans.{moves}
use Rattle.browser_driver.specs.SeatPlans.{FollowsSeats, parts}
use Rattle.browser_driver.proofs.CountLaws.{few-both}
use Rattle.browser_driver.proofs.InSeatLaws.{in-seats}
use Rattle.browser_driver.proofs.MoveLaws.{joins-move}
use Rattle.browser_driver.proofs.MoveStepLaws.{plain-three}
use Rattle.browser_driver.proofs.SeatAnswers.{seats-followed}
use Rattle.browser_driver.proofs.browser.Browser.move_tab.Goals as goal

pub move_tab-requires-clause-seats : goal.move_tab-requires-clause-seats
move_tab-requires-clause-seats c =
    let i = c.self.inside in
    in-seats (parts i.state i.orders i.closed.entries) i.moment c.self.invariant

pub move_tab-requires-clause-few : goal.move_tab-requires-clause-few
move_tab-requires-clause-few c =
    let i = c.self.inside in
    few-both i.state i.orders i.closed.entries i.moment c.self.invariant

pub invariant_of-self : goal.invariant_of-self
invariant_of-self c =
    let i = c.self.inside in
    let old = parts i.state i.orders i.closed.entries in
    let new = parts c.move_tab.new.state c.move_tab.new.orders i.closed.entries in
    let follows = plain-three (λ q w p. FollowsSeats (moves q w p old) old new c.move_tab.result) c.args.id
    c.args.window c.args.place c.ranges.id c.ranges.window c.ranges.place (c.move_tab.ensures i.closed.entries) in
    (seats-followed old i.moment c.self.invariant new _ _ c.move_tab.result
    (joins-move old i.moment c.self.invariant c.args.id c.args.window c.args.place) follows).is_held

pub returns : goal.returns
returns c =
    let i = c.self.inside in
    let old = parts i.state i.orders i.closed.entries in
    let new = parts c.move_tab.new.state c.move_tab.new.orders i.closed.entries in
    let follows = plain-three (λ q w p. FollowsSeats (moves q w p old) old new c.move_tab.result) c.args.id
    c.args.window c.args.place c.ranges.id c.ranges.window c.ranges.place (c.move_tab.ensures i.closed.entries) in
    let done = seats-followed old i.moment c.self.invariant new _ _ c.move_tab.result
    (joins-move old i.moment c.self.invariant c.args.id c.args.window c.args.place) follows in
    subst (λ b. Answers (act (Move c.args.id c.args.window c.args.place) b) b
    (held new.state new.orders new.closed i.moment) c.move_tab.result) c.self.view_is done.answers
