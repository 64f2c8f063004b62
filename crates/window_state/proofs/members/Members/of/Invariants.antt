use Rattle.std.proofs.Common.{◌≡◌, ◌||◌, ℤ}
use Rattle.std.specs.List.{list_any}
use Rattle.window_state.specs.Members.{has_pair, stands_in}
use Rattle.window_state.proofs.members.Members.of.Given as goal

abbrev pub invariant-loop-tab : goal.invariant-loop-tab
invariant-loop-tab l =
    (w t : ℤ) → has_pair w t l.members || list_any (stands_in w t) l.tab-iterator ≡ list_any (stands_in w t) l.tabs
