use Rattle.std.proofs.Common.{rules, FitsSigned, w32, sym, ◌∙◌}
use Rattle.std.specs.Map.Iter.{deref}
use Rattle.std.proofs.lemmas.Int.{to_z-of_z}
use Rattle.std.proofs.lemmas.Map.Iter.{rest_more}
use Rattle.window_state.specs.Shown.{tabs_in}
use Rattle.session_tidying.proofs.WindowLaws.{closed-more}
use Rattle.session_tidying.proofs.window.close_hidden.Goals as goal

pub loop-window-preserved-in_ok-push : goal.loop-window-preserved-in_ok-push
loop-window-preserved-in_ok-push c =
    let f : FitsSigned w32 c.in-Some.window.now.info.id = search rules in
    let left = rest_more deref c.loop-window.window-iterator c.next.new.self c.next.result c.in-Some.window
    c.in-Some.is c.next.ensures.steps in
    let has = simp to_z-of_z at c.in_ok-has_shown.ensures in
    let put = simp to_z-of_z at c.in_ok-push.ensures.items in
    closed-more (λ id. tabs_in id c.args.shown.now) c.loop-window.out.items c.push.new.self.items _
    c.loop-window.window-iterator c.next.new.self c.in-Some.window.now left
    (sym has ∙ c.if-not-branch.true) c.loop-window.invariant put
