use Rattle.std.proofs.Common.{◌≡◌, arith, rules}
use Rattle.pickle_cells.specs.CellReading.{units_of}
use Rattle.pickle_cells.specs.PickleLayout.{pickled_at, items_at, item_at}
use Rattle.navigation_entry.specs.Layouts.{group_items, group_kinds}
use Rattle.navigation_entry.proofs.NavigationLaws.{done}
use Rattle.navigation_entry.proofs.GroupLaws.{group_fits}
use Rattle.navigation_entry.proofs.group_reading.group_parts.Goals as goal

pub invariant_of-result : goal.invariant_of-result
unfolding pickled_at items_at item_at
invariant_of-result c =
    let even = c.in_ok-title.ensures.found.0 in
    let read : pickled_at group_kinds c.args.payload.now ≡ done (group_items c.in_ok-high.high c.in_ok-low.low (units_of c.in_ok-title.title.now) c.in_ok-colour.colour, c.rest.result.now) = search rules in
    let fits = group_fits c.args.payload.now c.in_ok-high.high c.in_ok-low.low c.in_ok-title.title.now c.in_ok-colour.colour c.rest.result.now (λ i. omega (arith, c.type_inv.payload i)) c.requires even read in
    record { even = even; whole = fits.0; short = fits.1 }
