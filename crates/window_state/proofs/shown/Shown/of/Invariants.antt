use Rattle.std.proofs.Common.{◌≡◌, ◌||◌, [], fold}
use Rattle.std.specs.List.{AllByRecursion}
use Rattle.std.specs.BTreeSet.{contains}
use Rattle.std.specs.Map.{keys_of}
use Rattle.navigation_entry.specs.declared.group.GroupInfo.{GroupInfo}
use Rattle.window_state.specs.Keys.{group_key, group_cmp}
use Rattle.window_state.specs.Views.{is_used}
use Rattle.window_state.specs.Shown.{entries_of, put_shown, FitsPlace}
use Rattle.window_state.proofs.shown.Shown.of.Given as goal

abbrev pub invariant-loop-tab : goal.invariant-loop-tab
invariant-loop-tab l = record {
  tabs : fold put_shown (entries_of l.shown.tabs.entries) l.tab-iterator ≡ fold put_shown [] l.tabs;
  fits : AllByRecursion FitsPlace (keys_of l.shown.tabs.entries);
  groups : (group : GroupInfo) → contains group_cmp l.shown.groups (group_key group) || is_used l.tab-iterator group ≡ is_used l.tabs group;
}
