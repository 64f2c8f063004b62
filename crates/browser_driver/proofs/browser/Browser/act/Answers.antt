use Rattle.std.proofs.Common.{subst}
use Rattle.std.specs.List.{AllByRecursion}
use Rattle.closed_entries.specs.States.{IsEntry}
use Rattle.browser_model.specs.Browsers.{Browser}
use Rattle.browser_driver.proofs.ActedLaws.{acted-follows, acted-sound, acted-commands, acted-closed}
use Rattle.browser_driver.proofs.browser.Browser.act.Goals as goal

pub returns-clause-follows : goal.returns-clause-follows
returns-clause-follows c =
    acted-follows c.args.verb.now c.args.self.now c.do_verb-answer.new.self c.do_verb-answer.result
    c.do_verb-answer.ensures

pub returns-clause-sound : goal.returns-clause-sound
returns-clause-sound c =
    acted-sound c.args.verb.now c.args.self.now c.do_verb-answer.new.self c.do_verb-answer.result
    c.do_verb-answer.ensures

pub returns-clause-commands : goal.returns-clause-commands
returns-clause-commands c =
    let fits = subst (λ (b : Browser). AllByRecursion IsEntry b.closed) c.self.view_is c.known.ensures.each in
    acted-commands c.args.verb.now c.args.self.now c.do_verb-answer.new.self fits c.do_verb-answer.result
    c.do_verb-answer.ensures

pub returns-clause-closed : goal.returns-clause-closed
returns-clause-closed c =
    let fits = subst (λ (b : Browser). AllByRecursion IsEntry b.closed) c.self.view_is c.known.ensures.each in
    acted-closed c.args.verb.now c.args.self.now c.do_verb-answer.new.self fits c.do_verb-answer.result
    c.do_verb-answer.ensures
