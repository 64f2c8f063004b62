use Rattle.std.proofs.Common.{◌≡◌, ◌+◌, drop}
use Rattle.browser_driver.specs.Places.{with_places}
use Rattle.browser_driver.proofs.places.set_places.Given as goal

abbrev pub invariant-loop-id : goal.invariant-loop-id
invariant-loop-id l = record {
  place : l.place ≡ l.first + l.id-index;
  all : with_places l.place (drop l.id-index l.ids) l.state ≡ with_places l.first l.ids l.fn.state;
}
