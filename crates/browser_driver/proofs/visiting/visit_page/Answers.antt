use Rattle.std.proofs.Common.{ap, arith, FitsSigned, w32, w64, of_z}
use Rattle.std.specs.Option.{option_copied}
use Rattle.std.specs.Ordering.{int_cmp}
use Rattle.std.proofs.lemmas.Int.{to_z-of_z}
use Rattle.window_state.specs.Keys.{tab_key}
use Rattle.window_state.specs.Ranges.{IsTabInRange}
use Rattle.browser_driver.proofs.RowLaws.{of-row, shown-row}
use Rattle.browser_driver.proofs.StepLaws.{few-pages}
use Rattle.browser_driver.proofs.VisitLaws.{visit-done}
use Rattle.browser_driver.proofs.visiting.visit_page.Goals as goal

pub put_visited-requires-clause-few : goal.put_visited-requires-clause-few
put_visited-requires-clause-few c =
    let tab = c.in-Some.tab.now in
    let tabs = c.args.state.now.tabs in
    let of_id : FitsSigned w32 c.args.id = c.ranges.id in
    let here = simp to_z-of_z at c.get.ensures in
    let found = shown-row tabs c.tabs.result.now c.args.id tab (option_copied c.get.result)
    (ap option_copied c.in-Some.is) here c.tabs.ensures in
    let ranged = of-row IsTabInRange int_cmp tab_key c.args.id tab tabs found c.known.ensures.ranged.tabs in
    let few = few-pages tab.pages c.len-count.ensures.rising ranged.pages in
    let count = c.len-count.ensures.length in
    omega (arith, few, count)

pub returns : goal.returns
returns c =
    let tab = c.in-Some.tab.now in
    let s = c.args.state.now in
    let moment = c.args.moment in
    let of_id : FitsSigned w32 c.args.id = c.ranges.id in
    let time : FitsSigned w64 moment = c.ranges.moment in
    let here = simp to_z-of_z at c.get.ensures in
    let found = shown-row s.tabs c.tabs.result.now c.args.id tab (option_copied c.get.result)
    (ap option_copied c.in-Some.is) here c.tabs.ensures in
    let ranged = of-row IsTabInRange int_cmp tab_key c.args.id tab s.tabs found c.known.ensures.ranged.tabs in
    let current : FitsSigned w32 tab.current = ranged.current in
    let page = simp to_z-of_z at c.in_ok-page.ensures in
    let reached_is = simp to_z-of_z at c.reached.ensures in
    let new = simp to_z-of_z at c.in_ok-issued.ensures.ok in
    let issued = simp to_z-of_z at c.in_ok-issued.ensures.issued in
    visit-done c.args.id _ c.in_ok-page.page moment s c.put_visited.new.state tab c.reached.result c.len-count.result
    c.in_ok-issued.issued found (λ e. c.if-current-eq2147483647.false (ap (of_z w32) e)) page reached_is
    c.len-count.ensures.length new issued
