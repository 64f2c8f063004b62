use Rattle.std.proofs.Common.{◌≡◌, ◌++◌, map, drop}
use Rattle.browser_driver.specs.SeatPlans.{closed_row}
use Rattle.browser_driver.specs.WindowEntries.{seen_rows}
use Rattle.browser_driver.proofs.entries.closed_tabs.Given as goal

abbrev pub invariant-loop-id : goal.invariant-loop-id
invariant-loop-id l =
    l.closed.items ++ map (closed_row l.groups l.moment) (seen_rows l.tabs (drop l.id-index l.order))
    ≡ map (closed_row l.groups l.moment) (seen_rows l.tabs l.order)
