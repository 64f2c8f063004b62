use Rattle.std.proofs.Common.{subst, FitsSigned, w32}
use Rattle.std.proofs.lemmas.Int.{to_z-of_z}
use Rattle.script_lines.specs.declared.verb.Verb.TheVariants.{Tab}
use Rattle.browser_driver.specs.Acts.{act}
use Rattle.browser_driver.specs.Answers.{Answers}
use Rattle.browser_driver.specs.Held.{held}
use Rattle.browser_driver.specs.SeatPlans.{parts}
use Rattle.browser_driver.proofs.CountLaws.{few-seats}
use Rattle.browser_driver.proofs.OpenLaws.{joins-open}
use Rattle.browser_driver.proofs.SeatAnswers.{seats-followed}
use Rattle.browser_driver.proofs.browser.Browser.open_tab.Goals as goal

pub open_tab-requires : goal.open_tab-requires
open_tab-requires c =
    let i = c.self.inside in
    let fits : FitsSigned w32 c.args.window = c.ranges.window in
    simp to_z-of_z (few-seats i.state i.orders i.closed.entries i.moment c.self.invariant c.args.window)

pub invariant_of-self : goal.invariant_of-self
invariant_of-self c =
    let i = c.self.inside in
    let old = parts i.state i.orders i.closed.entries in
    let new = parts c.open_tab.new.state c.open_tab.new.orders i.closed.entries in
    let fits : FitsSigned w32 c.args.window = c.ranges.window in
    let of_id : FitsSigned w32 c.args.id = c.ranges.id in
    let follows = simp to_z-of_z at (c.open_tab.ensures i.closed.entries) in
    (seats-followed old i.moment c.self.invariant new _ _ c.open_tab.result
    (joins-open old i.moment c.self.invariant c.args.window c.args.id) follows).is_held

pub returns : goal.returns
returns c =
    let i = c.self.inside in
    let old = parts i.state i.orders i.closed.entries in
    let new = parts c.open_tab.new.state c.open_tab.new.orders i.closed.entries in
    let fits : FitsSigned w32 c.args.window = c.ranges.window in
    let of_id : FitsSigned w32 c.args.id = c.ranges.id in
    let follows = simp to_z-of_z at (c.open_tab.ensures i.closed.entries) in
    let done = seats-followed old i.moment c.self.invariant new _ _ c.open_tab.result
    (joins-open old i.moment c.self.invariant c.args.window c.args.id) follows in
    subst (λ b. Answers (act (Tab c.args.window c.args.id) b) b
    (held new.state new.orders new.closed i.moment) c.open_tab.result) c.self.view_is done.answers
