use Rattle.std.proofs.Common.{FitsSigned, w32}
use Rattle.std.proofs.lemmas.Int.{to_z-of_z}
use Rattle.window_state.specs.States.{State}
use Rattle.window_state.proofs.MemberLaws.{held-closed}
use Rattle.window_state.proofs.RangeLaws.{closed-in_range}
use Rattle.window_state.proofs.state.SessionState.close_tab.Goals as goal

pub invariant_of-self : goal.invariant_of-self
invariant_of-self c =
    let f : FitsSigned w32 c.args.id = c.ranges.id in
    let gone = simp to_z-of_z at c.remove.ensures in
    let own = simp to_z-of_z at c.window_of-own.ensures in
    let leave = rw own at (simp to_z-of_z at c.leave.ensures) in
    let s : State = record { tabs = c.self.inside.tabs; windows = c.self.inside.windows; groups = c.self.inside.groups; active = c.self.inside.active } in
    rw gone (record {
      held = held-closed c.args.id c.self.inside.members c.leave.new.self s leave c.len-len.ensures.ordered c.self.invariant.held;
      ranged = closed-in_range c.args.id s c.self.invariant.ranged;
    })
