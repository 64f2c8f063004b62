use Rattle.std.proofs.Common.{◌≡◌, ap, subst, ◌∙◌, not, FitsSigned, w32}
use Rattle.std.specs.Ordering.{int_cmp}
use Rattle.std.proofs.lemmas.Int.{to_z-of_z}
use Rattle.window_state.specs.RowLists.{step_row}
use Rattle.window_state.specs.Keys.{window_key}
use Rattle.window_state.specs.Changes.{new_window, changed_window}
use Rattle.window_state.specs.States.{State, IsKept, IsStateInRange, on_window}
use Rattle.window_state.proofs.StateLaws.{either, kept-window, full-window}
use Rattle.window_state.proofs.ChangeLaws.{kept-changed_window, window_key_stays}
use Rattle.window_state.proofs.RangeLaws.{changed_window-in_range, window-in_range}
use Rattle.window_state.proofs.state.SessionState.change_window.Goals as goal

pub returns-then-is_full_for-clause-ok : goal.returns-then-is_full_for-clause-ok
returns-then-is_full_for-clause-ok c =
    let f : FitsSigned w32 c.args.id = c.ranges.id in
    let full = simp to_z-of_z at (c.is_full_for.ensures (new_window c.args.id) (changed_window c.args.change)) in
    let s : State = record { tabs = c.self.inside.tabs; windows = c.self.inside.windows; groups = c.self.inside.groups; active = c.self.inside.active } in
    subst (λ s. s ≡ on_window c.args.id (changed_window c.args.change) s) c.self.view_is (full-window c.args.id (changed_window c.args.change) s (full ∙ ap not c.if-is_full_for.true))

pub invariant_of-self : goal.invariant_of-self
invariant_of-self c =
    let f : FitsSigned w32 c.args.id = c.ranges.id in
    let room = simp to_z-of_z at (c.is_full_for.ensures (new_window c.args.id) (changed_window c.args.change)) in
    let ok = simp to_z-of_z at c.step.ensures.ok in
    let s : State = record { tabs = c.self.inside.tabs; windows = c.self.inside.windows; groups = c.self.inside.groups; active = c.self.inside.active } in
    let windows = step_row int_cmp window_key c.args.id (new_window c.args.id) (changed_window c.args.change) s.windows in
    let held = c.self.invariant.held in
    record {
      held = record {
        kept = either (λ windows. IsKept (record s { windows = windows })) c.step.result c.step.new.self windows s.windows ok c.step.ensures.err
            (kept-window c.args.id (changed_window c.args.change) s (λ w. kept-changed_window c.args.change w c.requires) (window_key_stays c.args.change) (room ∙ ap not c.if-is_full_for.false) held.kept) held.kept;
        members = held.members;
      };
      ranged = either (λ windows. IsStateInRange (record s { windows = windows })) c.step.result c.step.new.self windows s.windows ok c.step.ensures.err
          (window-in_range c.args.id (changed_window c.args.change) s f (λ w. changed_window-in_range c.args.change w c.known_in_range.ensures) c.self.invariant.ranged) c.self.invariant.ranged;
    }
