use Rattle.std.proofs.Common.{◌≡◌, ◌≤◌, Some, length, sym, ap, ◌∙◌, FitsSigned, w32, w64}
use Rattle.std.specs.Option.{option_copied}
use Rattle.std.specs.Prelude.{IfSome}
use Rattle.std.specs.Ordering.{int_cmp}
use Rattle.std.proofs.lemmas.Int.{to_z-of_z}
use Rattle.closed_entries.specs.States.{IsEntry}
use Rattle.window_state.specs.Keys.{window_key}
use Rattle.window_state.specs.Limits.{limit}
use Rattle.window_state.specs.RowLists.{find_row}
use Rattle.browser_driver.specs.Orders.{order_of}
use Rattle.browser_driver.specs.WindowEntries.{entry_in_order}
use Rattle.browser_driver.proofs.LeftLaws.{left-fits}
use Rattle.browser_driver.proofs.RowLaws.{ok-along}
use Rattle.browser_driver.proofs.closing.window_entry_of.Goals as goal

pub returns-in-Some-clause-fits : goal.returns-in-Some-clause-fits
returns-in-Some-clause-fits c =
    let s = c.args.state.now in
    let w = c.in-Some.window.now in
    let of_id : FitsSigned w32 c.args.id = c.ranges.id in
    let time : FitsSigned w64 c.args.moment = c.ranges.moment in
    let here = simp to_z-of_z at c.get.ensures in
    let found : find_row int_cmp window_key c.args.id s.windows ≡ Some w =
    sym (sym (ap option_copied c.in-Some.is) ∙ here
    ∙ ap (λ windows. find_row int_cmp window_key c.args.id windows) c.windows.ensures) in
    let order_is = simp to_z-of_z at c.of.ensures in
    let few : length (order_of c.args.id c.args.orders.now) ≤ limit = c.requires in
    let is = simp to_z-of_z at c.window_entry.ensures in
    let fits : IfSome (entry_in_order c.tabs.result.now c.groups.result.now c.args.moment w c.of.result.now) IsEntry =
    rw (c.tabs.ensures, c.groups.ensures, order_is)
    (left-fits s c.args.moment c.args.id w (order_of c.args.id c.args.orders.now) c.known.ensures time found few) in
    ok-along (λ left. IfSome left IsEntry) c.window_entry.result _ is fits
