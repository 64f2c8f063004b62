use Rattle.std.proofs.Common.{◌≡◌, ap, subst, ◌∙◌, not, FitsSigned, w32}
use Rattle.std.specs.Ordering.{int_cmp}
use Rattle.std.proofs.lemmas.Int.{to_z-of_z}
use Rattle.window_state.specs.RowLists.{step_row}
use Rattle.window_state.specs.Keys.{tab_key}
use Rattle.window_state.specs.Changes.{new_tab, changed_tab}
use Rattle.window_state.specs.States.{State, IsStateInRange, on_tab}
use Rattle.window_state.specs.Members.{IsHeld}
use Rattle.window_state.proofs.StateLaws.{either, full-tab}
use Rattle.window_state.proofs.ChangeLaws.{kept-changed_tab, tab_stays}
use Rattle.window_state.proofs.MemberLaws.{held-changed}
use Rattle.window_state.proofs.RangeLaws.{changed_tab-in_range, tab-in_range}
use Rattle.window_state.proofs.state.SessionState.change_tab.Goals as goal

pub returns-then-is_full_for-clause-ok : goal.returns-then-is_full_for-clause-ok
returns-then-is_full_for-clause-ok c =
    let f : FitsSigned w32 c.args.id = c.ranges.id in
    let full = simp to_z-of_z at (c.is_full_for.ensures (new_tab c.args.id) (changed_tab c.args.change)) in
    let s : State = record { tabs = c.self.inside.tabs; windows = c.self.inside.windows; groups = c.self.inside.groups; active = c.self.inside.active } in
    subst (λ s. s ≡ on_tab c.args.id (changed_tab c.args.change) s) c.self.view_is (full-tab c.args.id (changed_tab c.args.change) s (full ∙ ap not c.if-is_full_for.true))

pub invariant_of-self : goal.invariant_of-self
invariant_of-self c =
    let f : FitsSigned w32 c.args.id = c.ranges.id in
    let room = simp to_z-of_z at (c.is_full_for.ensures (new_tab c.args.id) (changed_tab c.args.change)) in
    let ok = simp to_z-of_z at c.step.ensures.ok in
    let s : State = record { tabs = c.self.inside.tabs; windows = c.self.inside.windows; groups = c.self.inside.groups; active = c.self.inside.active } in
    let tabs = step_row int_cmp tab_key c.args.id (new_tab c.args.id) (changed_tab c.args.change) s.tabs in
    record {
      held = either (λ tabs. IsHeld c.self.inside.members (record s { tabs = tabs })) c.step.result c.step.new.self tabs s.tabs ok c.step.ensures.err
          (held-changed c.args.id (changed_tab c.args.change) c.self.inside.members s (λ t. kept-changed_tab c.args.change t c.requires) (tab_stays c.args.change) (room ∙ ap not c.if-is_full_for.false) c.len-len.ensures.ordered c.self.invariant.held) c.self.invariant.held;
      ranged = either (λ tabs. IsStateInRange (record s { tabs = tabs })) c.step.result c.step.new.self tabs s.tabs ok c.step.ensures.err
          (tab-in_range c.args.id (changed_tab c.args.change) s f (λ t. changed_tab-in_range c.args.change t c.known_in_range.ensures) c.self.invariant.ranged) c.self.invariant.ranged;
    }
