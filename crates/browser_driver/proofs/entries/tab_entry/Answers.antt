use Rattle.std.proofs.Common.{sym, subst, FitsSigned, w64}
use Rattle.std.proofs.lemmas.Int.{to_z-of_z}
use Rattle.closed_entries.specs.States.{IsTab}
use Rattle.browser_driver.proofs.EntryLaws.{row-fits}
use Rattle.browser_driver.proofs.entries.tab_entry.Goals as goal

pub returns-clause-fits : goal.returns-clause-fits
returns-clause-fits c =
    let time : FitsSigned w64 c.args.moment = c.ranges.moment in
    let is = simp to_z-of_z at c.in_ok-tab.ensures in
    subst IsTab (sym is) (row-fits c.args.groups.now c.args.moment c.args.tab.now c.requires.kept c.requires.ranged
    c.requires.groups time)
