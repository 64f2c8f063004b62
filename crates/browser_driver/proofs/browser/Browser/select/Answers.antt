use Rattle.std.proofs.Common.{subst, FitsSigned, w32}
use Rattle.std.proofs.lemmas.Int.{to_z-of_z}
use Rattle.script_lines.specs.declared.verb.Verb.TheVariants.{Select}
use Rattle.browser_driver.specs.Acts.{act}
use Rattle.browser_driver.specs.Answers.{Answers}
use Rattle.browser_driver.specs.Held.{held}
use Rattle.browser_driver.proofs.AnswerLaws.{followed}
use Rattle.browser_driver.proofs.CountLaws.{few-seats}
use Rattle.browser_driver.proofs.WindowLaws.{joins-select}
use Rattle.browser_driver.proofs.browser.Browser.select.Goals as goal

pub select_tab-requires : goal.select_tab-requires
select_tab-requires c =
    let i = c.self.inside in
    let fits : FitsSigned w32 c.args.window = c.ranges.window in
    simp to_z-of_z (few-seats i.state i.orders i.closed.entries i.moment c.self.invariant c.args.window)

pub invariant_of-self : goal.invariant_of-self
invariant_of-self c =
    let i = c.self.inside in
    let fits : FitsSigned w32 c.args.window = c.ranges.window in
    let at : FitsSigned w32 c.args.place = c.ranges.place in
    let follows = simp to_z-of_z at c.select_tab.ensures in
    (followed i.state c.select_tab.new.state i.orders i.closed.entries i.moment c.self.invariant _ _
    c.select_tab.result
    (joins-select i.state i.orders i.closed.entries i.moment c.self.invariant c.args.window c.args.place) follows).is_held

pub returns : goal.returns
returns c =
    let i = c.self.inside in
    let fits : FitsSigned w32 c.args.window = c.ranges.window in
    let at : FitsSigned w32 c.args.place = c.ranges.place in
    let follows = simp to_z-of_z at c.select_tab.ensures in
    let done = followed i.state c.select_tab.new.state i.orders i.closed.entries i.moment c.self.invariant _ _
    c.select_tab.result
    (joins-select i.state i.orders i.closed.entries i.moment c.self.invariant c.args.window c.args.place) follows in
    subst (λ old. Answers (act (Select c.args.window c.args.place) old) old
    (held c.select_tab.new.state i.orders i.closed.entries i.moment) c.select_tab.result) c.self.view_is
    done.answers
