use Rattle.std.proofs.Common.{rules, FitsSigned, w32, arith}
use Rattle.std.specs.Map.Iter.{deref}
use Rattle.std.proofs.lemmas.Int.{to_z-of_z}
use Rattle.std.proofs.lemmas.Map.Iter.{rest_more}
use Rattle.window_state.specs.Shown.{tabs_in}
use Rattle.window_state.proofs.ShownLaws.{few_in}
use Rattle.session_tidying.proofs.WindowLaws.{tidied-more}
use Rattle.session_tidying.proofs.window.push_shown.Goals as goal

pub push_window-requires : goal.push_window-requires
push_window-requires c =
    let fewer = few_in deref c.in_ok-tabs.tabs.items _ c.args.shown.now c.in_ok-tabs.ensures in
    let few = c.requires.few in
    rw c.as_slice.ensures.value (omega arith)

pub loop-window-preserved : goal.loop-window-preserved
loop-window-preserved c =
    let f : FitsSigned w32 c.in-Some.window.now.info.id = search rules in
    let left = rest_more deref c.loop-window.window-iterator c.next.new.self c.next.result c.in-Some.window
    c.in-Some.is c.next.ensures.steps in
    let tabs = simp to_z-of_z at c.in_ok-tabs.ensures in
    let put = rw (c.as_slice.ensures.value, tabs) at c.in_ok-push_window.ensures in
    tidied-more (λ id. tabs_in id c.args.shown.now) c.loop-window.out.items c.push_window.new.out.items _
    c.loop-window.window-iterator c.next.new.self c.in-Some.window.now left c.loop-window.invariant put
