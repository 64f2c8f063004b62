use Rattle.std.proofs.Common.{FitsSigned, w32}
use Rattle.std.proofs.lemmas.Int.{to_z-of_z}
use Rattle.window_state.specs.States.{State}
use Rattle.window_state.proofs.StateLaws.{kept-without_window}
use Rattle.window_state.proofs.RangeLaws.{without_window-in_range}
use Rattle.window_state.proofs.state.SessionState.close_window.Goals as goal

pub invariant_of-self : goal.invariant_of-self
invariant_of-self c =
    let f : FitsSigned w32 c.args.id = c.ranges.id in
    let gone = simp to_z-of_z at c.remove.ensures in
    let left = simp to_z-of_z at c.close_tabs.ensures.tabs in
    let s : State = record { tabs = c.self.inside.tabs; windows = c.self.inside.windows; groups = c.self.inside.groups; active = c.self.inside.active } in
    record {
      held = record { kept = rw (gone, left) (kept-without_window c.args.id s c.self.invariant.held.kept); members = c.close_tabs.ensures.members };
      ranged = rw (gone, left) (without_window-in_range c.args.id s c.self.invariant.ranged);
    }
