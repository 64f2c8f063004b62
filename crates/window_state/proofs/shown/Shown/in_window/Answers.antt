use Rattle.std.proofs.Common.{to_z, of_z, w32}
use Rattle.std.specs.Map.Iter.{deref}
use Rattle.window_state.proofs.WindowRange.{values-between}
use Rattle.window_state.proofs.shown.Shown.in_window.Goals as goal

pub loop-tab-init : goal.loop-tab-init
loop-tab-init c =
    let found = c.new-found.ensures.items in
    let start = c.into_iter-tab-iterator.ensures.into_iter_gives in
    let between = rw (c.new.ensures.start, c.new.ensures.end, c.first.ensures, c.last.ensures) at (c.range-tab-items.ensures.between c.new.ensures.exhausted) in
    rw (found, start, between) (values-between deref (to_z w32 (of_z w32 c.args.window)) c.args.self.now.tabs.entries c.requires)
