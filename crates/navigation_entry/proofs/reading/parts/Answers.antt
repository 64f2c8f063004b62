use Rattle.std.proofs.Common.{◌≡◌, arith, rules}
use Rattle.pickle_cells.specs.CellReading.{units_of}
use Rattle.pickle_cells.specs.PickleLayout.{pickled_at, items_at, item_at}
use Rattle.navigation_entry.specs.Layouts.{navigation_items, navigation_kinds}
use Rattle.navigation_entry.proofs.NavigationLaws.{read_fits, done}
use Rattle.navigation_entry.proofs.reading.parts.Goals as goal

pub invariant_of-result : goal.invariant_of-result
unfolding pickled_at items_at item_at
invariant_of-result c =
    let even = c.in_ok-title.ensures.found.0 in
    let read : pickled_at navigation_kinds c.args.payload.now ≡ done (navigation_items c.in_ok-tab.tab c.in_ok-index.index c.in_ok-url.url.now (units_of c.in_ok-title.title.now) c.in_ok-page_state.page_state.now c.in_ok-transition.transition, c.rest.result.now) = search rules in
    let fits = read_fits c.args.payload.now c.in_ok-tab.tab c.in_ok-index.index c.in_ok-url.url.now c.in_ok-title.title.now c.in_ok-page_state.page_state.now c.in_ok-transition.transition c.rest.result.now (λ i. omega (arith, c.type_inv.payload i)) c.requires even read in
    record { even = even; whole = fits.0; short = fits.1 }
