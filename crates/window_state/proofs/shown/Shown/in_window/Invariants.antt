use Rattle.std.proofs.Common.{◌≡◌, ◌++◌, map}
use Rattle.std.specs.Map.{values_of}
use Rattle.std.specs.Map.Iter.{deref}
use Rattle.window_state.specs.Shown.{tabs_in}
use Rattle.window_state.proofs.shown.Shown.in_window.Given as goal

abbrev pub invariant-loop-tab : goal.invariant-loop-tab
invariant-loop-tab l = map deref l.found.items ++ map deref (values_of l.tab-iterator) ≡ tabs_in l.window l.self
