use Rattle.std.proofs.Common.{rules, FitsSigned, w32}
use Rattle.std.proofs.lemmas.Int.{to_z-of_z}
use Rattle.browser_driver.proofs.browser.Browser.do_verb.Goals as goal

pub returns-in-Tab : goal.returns-in-Tab
returns-in-Tab c =
    let of_window : FitsSigned w32 c.in-Tab.window = search rules in
    let of_tab : FitsSigned w32 c.in-Tab.tab = search rules in
    rw c.in-Tab.is (simp to_z-of_z at c.open_tab.ensures)
