use Rattle.std.proofs.Common.{◌≡◌, ◌-◌}
use Rattle.navigation_entry.specs.Display.{pairs_at}
use Rattle.navigation_entry.proofs.PairLaws.{joined}
use Rattle.navigation_entry.proofs.fields.pairs_of.Given as goal

abbrev pub invariant-loop : goal.invariant-loop
invariant-loop l = joined l.pairs.items (pairs_at (l.count - l.counter) l.left) ≡ pairs_at l.count l.bytes
