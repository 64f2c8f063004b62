use Rattle.std.proofs.Common.{◌≡◌, ◌<◌, pos, sym, ap, subst, ◌∙◌, arith, length, FitsSigned, w32, to_z}
use Rattle.std.specs.Option.{option_copied}
use Rattle.std.specs.Ordering.{int_cmp}
use Rattle.std.proofs.lemmas.Int.{to_z-of_z, to_z_pos}
use Rattle.browser_model.specs.OneTab.{reached}
use Rattle.window_state.specs.Keys.{tab_key}
use Rattle.window_state.specs.Ranges.{IsTabInRange}
use Rattle.browser_driver.specs.Plans.{Follows, shows}
use Rattle.browser_driver.proofs.RowLaws.{of-row, shown-row}
use Rattle.browser_driver.proofs.StepLaws.{few-pages, next-fits, forward-is}
use Rattle.browser_driver.proofs.pages.go_forward.Goals as goal

pub overflow_cast-next-2 : goal.overflow_cast-next-2
overflow_cast-next-2 c =
    let tab = c.in-Some.tab.now in
    let tabs = c.args.state.now.tabs in
    let of_id : FitsSigned w32 c.args.id = c.ranges.id in
    let here = simp to_z-of_z at c.get.ensures in
    let found = shown-row tabs c.tabs.result.now c.args.id tab (option_copied c.get.result)
    (ap option_copied c.in-Some.is) here c.tabs.ensures in
    let ranged = of-row IsTabInRange int_cmp tab_key c.args.id tab tabs found c.known.ensures.ranged.tabs in
    let few = few-pages tab.pages c.len.ensures.rising ranged.pages in
    let test = c.if-next-len.false in
    let count = c.len.ensures.length in
    next-fits c.reached-next.result (length tab.pages) few (omega (arith, test, count))

pub returns : goal.returns
returns c =
    let tab = c.in-Some.tab.now in
    let s = c.args.state.now in
    let next = c.reached-next.result in
    let of_id : FitsSigned w32 c.args.id = c.ranges.id in
    let here = simp to_z-of_z at c.get.ensures in
    let found = shown-row s.tabs c.tabs.result.now c.args.id tab (option_copied c.get.result)
    (ap option_copied c.in-Some.is) here c.tabs.ensures in
    let ranged = of-row IsTabInRange int_cmp tab_key c.args.id tab s.tabs found c.known.ensures.ranged.tabs in
    let few = few-pages tab.pages c.len.ensures.rising ranged.pages in
    let test = c.if-next-len.false in
    let count = c.len.ensures.length in
    let there : next < length tab.pages = omega (arith, test, count) in
    let current : FitsSigned w32 tab.current = ranged.current in
    let is : next ≡ reached tab.current = c.reached-next.ensures ∙ ap reached (to_z-of_z w32 tab.current current) in
    let place : to_z w32 next ≡ pos next = to_z_pos w32 next (omega (arith, few, there)) in
    let shown = simp to_z-of_z at c.show_page.ensures in
    subst (λ plan. Follows plan s c.show_page.new.state c.show_page.result)
    (ap (λ z. shows c.args.id z s) place ∙ sym (forward-is c.args.id s tab next found is there)) shown
