use Rattle.std.proofs.Common.{◌≡◌, map, filter, not, length}
use Rattle.std.specs.Ordering.{int_cmp}
use Rattle.std.specs.List.Sorted.{IsStrictlySortedBy}
use Rattle.window_state.specs.Keys.{tab_key}
use Rattle.window_state.specs.States.{is_in}
use Rattle.window_state.specs.Members.{AreMembers}
use Rattle.window_state.proofs.state.close_tabs.Given as goal

abbrev pub invariant-loop-tab : goal.invariant-loop-tab
invariant-loop-tab l = record {
  are : AreMembers l.members l.tabs;
  sorted : IsStrictlySortedBy int_cmp (map tab_key l.tabs);
  stay : filter (λ tab. not (is_in l.window tab.window)) l.tabs ≡ filter (λ tab. not (is_in l.window tab.window)) l.initial.tabs;
}

abbrev pub decreases-loop-tab : goal.decreases-loop-tab
decreases-loop-tab l = length l.members
