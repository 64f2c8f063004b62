use Rattle.std.proofs.Common.{◌≡◌, ap, subst, ◌∙◌, not, Some, FitsSigned, w32}
use Rattle.std.proofs.lemmas.Int.{to_z-of_z}
use Rattle.window_state.specs.Changes.{new_tab, new_window}
use Rattle.window_state.specs.States.{State, placed}
use Rattle.window_state.proofs.StateLaws.{full-placed_window, full-placed_tab}
use Rattle.window_state.proofs.MemberLaws.{held-placed, held-undone}
use Rattle.window_state.proofs.RangeLaws.{both-in_range}
use Rattle.window_state.proofs.state.SessionState.place_tab.Goals as goal

pub returns-then-is_full_for-clause-ok : goal.returns-then-is_full_for-clause-ok
returns-then-is_full_for-clause-ok c =
    let f : FitsSigned w32 c.args.window = c.ranges.window in
    let full = simp to_z-of_z at (c.is_full_for.ensures (new_window c.args.window) (λ w. w)) in
    let s : State = record { tabs = c.self.inside.tabs; windows = c.self.inside.windows; groups = c.self.inside.groups; active = c.self.inside.active } in
    subst (λ s. s ≡ placed c.args.window c.args.tab s) c.self.view_is (full-placed_window c.args.window c.args.tab s (full ∙ ap not c.if-is_full_for.true))

pub returns-then-is_full_for-2-clause-ok : goal.returns-then-is_full_for-2-clause-ok
returns-then-is_full_for-2-clause-ok c =
    let f : FitsSigned w32 c.args.tab = c.ranges.tab in
    let full = simp to_z-of_z at (c.is_full_for-2.ensures (new_tab c.args.tab) (λ t. record t { window = Some c.args.window })) in
    let s : State = record { tabs = c.self.inside.tabs; windows = c.self.inside.windows; groups = c.self.inside.groups; active = c.self.inside.active } in
    subst (λ s. s ≡ placed c.args.window c.args.tab s) c.self.view_is (full-placed_tab c.args.window c.args.tab s (full ∙ ap not c.if-is_full_for-2.true))

pub invariant_of-self-in-Ok : goal.invariant_of-self-in-Ok
invariant_of-self-in-Ok c =
    let f : FitsSigned w32 c.args.window = c.ranges.window in
    let g : FitsSigned w32 c.args.tab = c.ranges.tab in
    let room_window = simp to_z-of_z at (c.is_full_for.ensures (new_window c.args.window) (λ w. w)) in
    let room_tab = simp to_z-of_z at (c.is_full_for-2.ensures (new_tab c.args.tab) (λ t. record t { window = Some c.args.window })) in
    let put = simp to_z-of_z at c.in_ok-insert.ensures.ok in
    let own = simp to_z-of_z at c.window_of-own.ensures in
    let leave = rw own at (simp to_z-of_z at c.leave.ensures) in
    let windows = simp to_z-of_z at c.in-Ok.ensures.windows in
    let tabs = simp to_z-of_z at c.in-Ok.ensures.tabs in
    let s : State = record { tabs = c.self.inside.tabs; windows = c.self.inside.windows; groups = c.self.inside.groups; active = c.self.inside.active } in
    rw (windows, tabs) (record {
      held = held-placed c.args.window c.args.tab c.self.inside.members c.insert.new.self c.leave.new.self s put leave (room_window ∙ ap not c.if-is_full_for.false) (room_tab ∙ ap not c.if-is_full_for-2.false) c.len-len.ensures.ordered c.self.invariant.held;
      ranged = both-in_range c.args.window c.args.tab s f g c.self.invariant.ranged;
    })

pub invariant_of-self-in-Err : goal.invariant_of-self-in-Err
invariant_of-self-in-Err c =
    let f : FitsSigned w32 c.args.window = c.ranges.window in
    let g : FitsSigned w32 c.args.tab = c.ranges.tab in
    let put = simp to_z-of_z at c.in_ok-insert.ensures.ok in
    let own = simp to_z-of_z at c.window_of-own.ensures in
    let leave = rw own at (simp to_z-of_z at c.leave-in-Err.ensures) in
    let s : State = record { tabs = c.self.inside.tabs; windows = c.self.inside.windows; groups = c.self.inside.groups; active = c.self.inside.active } in
    rw (c.in-Err.ensures.err.0, c.in-Err.ensures.err.1) (record {
      held = held-undone c.args.window c.args.tab c.self.inside.members c.insert.new.self c.leave-in-Err.new.self s put leave c.self.invariant.held;
      ranged = c.self.invariant.ranged;
    })
