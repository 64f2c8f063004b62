use Rattle.std.proofs.Common.{◌≡◌, None, true, is_some, subst, FitsSigned, w32}
use Rattle.std.specs.Ordering.{int_cmp}
use Rattle.std.proofs.lemmas.Int.{to_z-of_z}
use Rattle.window_state.specs.RowLists.{find_row}
use Rattle.window_state.specs.Keys.{tab_key}
use Rattle.window_state.specs.Changes.{edited_tab}
use Rattle.window_state.specs.States.{State, on_tab}
use Rattle.window_state.proofs.StateEditLaws.{absent-tab, held-tab, standing-tab}
use Rattle.window_state.proofs.state.SessionState.edit_tab.Goals as goal

pub invariant_of-self : goal.invariant_of-self
invariant_of-self c =
    let f : FitsSigned w32 c.args.id = c.ranges.id in
    let edited = simp to_z-of_z at c.edit.ensures in
    let s : State = record {
      tabs = c.self.inside.tabs;
      windows = c.self.inside.windows;
      groups = c.self.inside.groups;
      active = c.self.inside.active;
    } in
    rw edited (held-tab c.args.id c.args.edit s c.len-len.ensures.ordered c.self.inside.members f
    c.known_in_range.ensures c.self.invariant)

pub returns-clause-stands : goal.returns-clause-stands
returns-clause-stands c =
    let f : FitsSigned w32 c.args.id = c.ranges.id in
    let edited = simp to_z-of_z at c.edit.ensures in
    let s : State = record {
      tabs = c.self.inside.tabs;
      windows = c.self.inside.windows;
      groups = c.self.inside.groups;
      active = c.self.inside.active;
    } in
    subst (λ old. is_some (find_row int_cmp tab_key c.args.id old.tabs) ≡ true
    → record s { tabs = c.edit.new.self } ≡ on_tab c.args.id (edited_tab c.args.edit) old) c.self.view_is
    (λ found. rw edited (standing-tab c.args.id c.args.edit s c.len-len.ensures.ordered found
    c.self.invariant.held.kept))

pub returns-clause-absent : goal.returns-clause-absent
returns-clause-absent c =
    let f : FitsSigned w32 c.args.id = c.ranges.id in
    let edited = simp to_z-of_z at c.edit.ensures in
    let s : State = record {
      tabs = c.self.inside.tabs;
      windows = c.self.inside.windows;
      groups = c.self.inside.groups;
      active = c.self.inside.active;
    } in
    subst (λ old. find_row int_cmp tab_key c.args.id old.tabs ≡ None
    → record s { tabs = c.edit.new.self } ≡ old) c.self.view_is
    (λ absent. rw edited (absent-tab c.args.id c.args.edit s absent))
