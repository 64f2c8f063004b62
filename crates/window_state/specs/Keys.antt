-- By what tabs, windows and groups are told apart and ordered.
use Rattle.std.specs.Prelude.{ℤ}
use Rattle.std.specs.Ordering.{nat_cmp, ordering_then}
use Rattle.std.specs.declared.cmp.Ordering.{Ordering}
use Rattle.navigation_entry.specs.declared.group.GroupInfo.{GroupInfo}
use Rattle.window_state.specs.declared.group_id.GroupId.{GroupId}
use Rattle.window_state.specs.declared.tab.Tab.{Tab}
use Rattle.window_state.specs.declared.window.Window.{Window}

abbrev pub tab_key : Tab → ℤ
tab_key tab = tab.info.id

abbrev pub window_key : Window → ℤ
window_key window = window.info.id

abbrev pub group_key : GroupInfo → GroupId
group_key group = record { high = group.high; low = group.low }

-- by the first number, then by the second
abbrev pub group_cmp : GroupId → GroupId → Ordering
group_cmp x y = ordering_then (nat_cmp x.high y.high) (nat_cmp x.low y.low)
