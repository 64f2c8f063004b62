use Rattle.std.specs.Map.Iter.{deref}
use Rattle.std.proofs.lemmas.Map.Iter.{rest_all}
use Rattle.window_state.proofs.MemberLaws.{listed-members}
use Rattle.window_state.proofs.members.Members.of.Goals as goal

pub returns : goal.returns
returns c =
    let none =
    rest_all deref c.loop-tab.tab-iterator c.next.new.self c.next.result c.in-None.is c.next.ensures.steps in
    listed-members c.loop-tab.members c.loop-tab.tab-iterator c.args.tabs.now none c.iter-tab-items.ensures.ordered
    c.loop-tab.invariant
