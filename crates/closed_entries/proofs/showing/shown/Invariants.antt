use Rattle.std.proofs.Common.{◌≡◌, map}
use Rattle.closed_entries.proofs.showing.shown.Given as goal

abbrev pub invariant-loop-entry : goal.invariant-loop-entry
invariant-loop-entry l = l.shown.items ≡ map (λ entry. entry.now) l.yielded
