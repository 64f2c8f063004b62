use Rattle.std.proofs.Common.{◌≡◌, ◌≤◌, drop}
use Rattle.tab_pages.specs.Positions.{first_from}
use Rattle.browser_driver.specs.WindowEntries.{seen_places}
use Rattle.browser_driver.proofs.SeenLaws.{position_after}
use Rattle.browser_driver.proofs.entries.seen_position.Given as goal

abbrev pub invariant-loop-id : goal.invariant-loop-id
invariant-loop-id l = record {
  place : l.place ≡ l.id-index;
  before : l.before ≤ l.id-index;
  all : position_after l.before l.selected (seen_places l.tabs l.place (drop l.id-index l.order))
      ≡ first_from l.selected (seen_places l.tabs 0 l.order);
}
