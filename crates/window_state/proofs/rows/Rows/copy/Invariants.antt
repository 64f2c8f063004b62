use Rattle.std.proofs.Common.{◌≡◌, ◌++◌}
use Rattle.window_state.proofs.rows.Rows.copy.Given as goal

abbrev pub invariant-loop-id : goal.invariant-loop-id
invariant-loop-id g l = l.rows.entries ++ l.id-iterator ≡ l.initial.id-iterator
