use Rattle.std.proofs.Common.{◌≡◌, true, false, subst, FitsSigned, w32}
use Rattle.std.proofs.lemmas.Int.{to_z-of_z}
use Rattle.window_state.specs.Changes.{edited_window}
use Rattle.window_state.specs.States.{State, stands, on_window}
use Rattle.window_state.proofs.RowLaws.{is_none}
use Rattle.window_state.proofs.StateEditLaws.{absent-window, held-window, standing-window}
use Rattle.window_state.proofs.state.SessionState.edit_window.Goals as goal

pub invariant_of-self : goal.invariant_of-self
invariant_of-self c =
    let f : FitsSigned w32 c.args.id = c.ranges.id in
    let edited = simp to_z-of_z at c.edit.ensures in
    let s : State = record {
      tabs = c.self.inside.tabs;
      windows = c.self.inside.windows;
      groups = c.self.inside.groups;
      active = c.self.inside.active;
    } in
    rw edited (held-window c.args.id c.args.edit s c.len-len.ensures.ordered c.self.inside.members f
    c.known_in_range.ensures c.self.invariant)

pub returns-clause-stands : goal.returns-clause-stands
returns-clause-stands c =
    let f : FitsSigned w32 c.args.id = c.ranges.id in
    let edited = simp to_z-of_z at c.edit.ensures in
    let s : State = record {
      tabs = c.self.inside.tabs;
      windows = c.self.inside.windows;
      groups = c.self.inside.groups;
      active = c.self.inside.active;
    } in
    subst (λ old. stands c.args.id old.windows ≡ true
    → record s { windows = c.edit.new.self } ≡ on_window c.args.id (edited_window c.args.edit) old) c.self.view_is
    (λ found. rw edited (standing-window c.args.id c.args.edit s c.len-len.ensures.ordered found
    c.self.invariant.held.kept))

pub returns-clause-absent : goal.returns-clause-absent
returns-clause-absent c =
    let f : FitsSigned w32 c.args.id = c.ranges.id in
    let edited = simp to_z-of_z at c.edit.ensures in
    let s : State = record {
      tabs = c.self.inside.tabs;
      windows = c.self.inside.windows;
      groups = c.self.inside.groups;
      active = c.self.inside.active;
    } in
    subst (λ old. stands c.args.id old.windows ≡ false
    → record s { windows = c.edit.new.self } ≡ old) c.self.view_is
    (λ absent. rw edited (absent-window c.args.id c.args.edit s (is_none _ absent)))
