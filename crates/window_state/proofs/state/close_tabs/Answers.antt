use Rattle.std.proofs.Common.{rules, sym, ◌∙◌, FitsSigned, w32}
use Rattle.std.proofs.lemmas.Int.{to_z-of_z}
use Rattle.window_state.proofs.MemberLaws.{closed-window, left-tabs, taken-members, taken-tabs}
use Rattle.window_state.proofs.state.close_tabs.Goals as goal

pub loop-tab-preserved : goal.loop-tab-preserved
loop-tab-preserved c =
    let f : FitsSigned w32 c.args.window = c.ranges.window in
    let g : FitsSigned w32 c.in-Some.tab = search rules in
    let gone = simp to_z-of_z at c.remove.ensures in
    let had = simp to_z-of_z at c.in-Some.ensures.had in
    let take = simp to_z-of_z at c.in-Some.ensures.gone in
    let set = closed-window c.in-Some.tab c.loop-tab.tabs c.loop-tab.invariant.sorted in
    record {
      are = rw gone (taken-members c.args.window c.in-Some.tab c.loop-tab.members c.take.new.self c.loop-tab.tabs _ had take set c.loop-tab.invariant.are);
      sorted = c.len-len-in-Some.ensures.ordered;
      stay = rw gone (simp to_z-of_z (taken-tabs c.args.window c.in-Some.tab c.loop-tab.members c.loop-tab.tabs had c.loop-tab.invariant.are ∙ simp to_z-of_z at c.loop-tab.invariant.stay));
    }

pub returns-clause-tabs : goal.returns-clause-tabs
returns-clause-tabs c =
    let f : FitsSigned w32 c.args.window = c.ranges.window in
    let none = simp to_z-of_z at c.in_default.ensures.none in
    sym (left-tabs c.args.window c.loop-tab.members c.loop-tab.tabs none c.loop-tab.invariant.are c.loop-tab.invariant.sorted) ∙ simp to_z-of_z at c.loop-tab.invariant.stay
