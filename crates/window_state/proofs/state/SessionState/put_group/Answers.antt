use Rattle.window_state.specs.RowLists.{put_row}
use Rattle.window_state.specs.Keys.{group_key, group_cmp}
use Rattle.window_state.specs.States.{State, IsStateInRange}
use Rattle.window_state.proofs.StateLaws.{either}
use Rattle.window_state.proofs.RangeLaws.{group-in_range}
use Rattle.window_state.proofs.state.SessionState.put_group.Goals as goal

pub invariant_of-self : goal.invariant_of-self
invariant_of-self c =
    let s : State = record { tabs = c.self.inside.tabs; windows = c.self.inside.windows; groups = c.self.inside.groups; active = c.self.inside.active } in
    let held = c.self.invariant.held in
    let kept = held.kept in
    record {
      held = record { kept = record { tabs = kept.tabs; windows = kept.windows; standing = kept.standing; each_tab = kept.each_tab; each_window = kept.each_window }; members = held.members };
      ranged = either (λ groups. IsStateInRange (record s { groups = groups })) c.put.result c.put.new.self (put_row group_cmp group_key c.args.group s.groups) s.groups c.put.ensures.ok c.put.ensures.err
          (group-in_range c.args.group s c.of_group.ensures c.self.invariant.ranged) c.self.invariant.ranged;
    }
