use Rattle.std.proofs.Common.{rules, FitsSigned, w32, arith}
use Rattle.std.specs.Map.Iter.{deref}
use Rattle.std.proofs.lemmas.Int.{to_z-of_z}
use Rattle.std.proofs.lemmas.Map.Iter.{rest_more}
use Rattle.window_state.specs.Shown.{tabs_in}
use Rattle.window_state.proofs.ShownLaws.{few_in}
use Rattle.window_state.proofs.ViewLaws.{next-window}
use Rattle.window_state.proofs.viewing.shown_windows.Goals as goal

pub push_shown-requires : goal.push_shown-requires
push_shown-requires c =
    let fewer = few_in deref c.in_ok-tabs.tabs.items _ c.args.shown.now c.in_ok-tabs.ensures in
    let few = c.requires.few in
    rw c.as_slice.ensures.value (omega arith)

pub loop-window-preserved : goal.loop-window-preserved
loop-window-preserved c =
    let f : FitsSigned w32 c.in-Some.window.now.info.id = search rules in
    let left = rest_more deref c.loop-window.window-iterator c.next.new.self c.next.result c.in-Some.window c.in-Some.is c.next.ensures.steps in
    let tabs = simp to_z-of_z at c.in_ok-tabs.ensures in
    let put = rw (c.as_slice.ensures.value, tabs) at c.in_ok-push_shown.ensures in
    next-window (λ id. tabs_in id c.args.shown.now) c.loop-window.views.items c.push_shown.new.views.items _ c.loop-window.window-iterator c.next.new.self c.in-Some.window.now c.loop-window.invariant left put
