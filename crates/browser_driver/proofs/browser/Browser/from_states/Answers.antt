use Rattle.std.proofs.Common.{ap}
use Rattle.browser_driver.proofs.ViewedLaws.{begun-holds, shown-sorted}
use Rattle.browser_driver.proofs.browser.Browser.from_states.Goals as goal

pub orders_of-requires : goal.orders_of-requires
orders_of-requires c = shown-sorted c.args.view.now c.as_slice.result.now c.requires c.as_slice.ensures

pub invariant_of-result : goal.invariant_of-result
invariant_of-result c =
    (begun-holds c.args.view.now c.args.active c.args.closed.now.entries c.in_ok-closed.closed.entries
    c.as_slice.result.now c.in_ok-state.state c.in_ok-orders.orders c.requires c.in_ok-state.ensures c.as_slice.ensures
    c.in_ok-orders.ensures (ap (λ x. x.entries) c.in_ok-closed.ensures)).is_held

pub returns : goal.returns
returns c =
    (begun-holds c.args.view.now c.args.active c.args.closed.now.entries c.in_ok-closed.closed.entries
    c.as_slice.result.now c.in_ok-state.state c.in_ok-orders.orders c.requires c.in_ok-state.ensures c.as_slice.ensures
    c.in_ok-orders.ensures (ap (λ x. x.entries) c.in_ok-closed.ensures)).is
