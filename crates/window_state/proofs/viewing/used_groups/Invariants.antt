use Rattle.std.proofs.Common.{◌≡◌, ◌++◌, filter}
use Rattle.std.specs.BTreeSet.{contains}
use Rattle.window_state.specs.Keys.{group_key, group_cmp}
use Rattle.window_state.proofs.viewing.used_groups.Given as goal

abbrev pub invariant-loop-group : goal.invariant-loop-group
invariant-loop-group l = l.used.items ++ filter (λ group. contains group_cmp l.shown.groups (group_key group)) l.group-iterator
    ≡ filter (λ group. contains group_cmp l.shown.groups (group_key group)) l.groups
