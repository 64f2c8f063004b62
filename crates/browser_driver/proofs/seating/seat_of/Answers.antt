use Rattle.std.proofs.Common.{◌≡◌, Some, sym, ap, ◌∙◌, rules, FitsSigned, w32}
use Rattle.std.specs.Option.{option_copied}
use Rattle.std.specs.Ordering.{int_cmp}
use Rattle.std.proofs.lemmas.Int.{to_z-of_z}
use Rattle.window_state.specs.Keys.{tab_key}
use Rattle.window_state.specs.RowLists.{find_row}
use Rattle.browser_driver.proofs.RowLaws.{seat-here}
use Rattle.browser_driver.proofs.seating.seat_of.Goals as goal

pub returns-clause-found : goal.returns-clause-found
returns-clause-found c =
    let tab = c.in-Some.tab.now in
    let of_id : FitsSigned w32 c.args.id = c.ranges.id in
    let of_window : FitsSigned w32 c.in-Some-window.window = search rules in
    let of_index : FitsSigned w32 tab.index = search rules in
    let here = simp to_z-of_z at c.get.ensures in
    let found : find_row int_cmp tab_key c.args.id c.args.state.now.tabs ≡ Some tab =
    sym (sym (ap option_copied c.in-Some.is) ∙ here
    ∙ ap (λ tabs. find_row int_cmp tab_key c.args.id tabs) c.tabs.ensures) in
    simp to_z-of_z (seat-here c.args.state.now.tabs c.args.orders.now c.args.id tab c.in-Some-window.window c.requires
    found c.in-Some-window.is)
