use Rattle.std.proofs.Common.{rules, w32, pos, negsuc}
use Rattle.std.proofs.lemmas.Int.{to_z-of_z}
use Rattle.window_state.proofs.PairLaws.{first_pair, no_pair, bounds}
use Rattle.window_state.proofs.members.Members.first.Goals as goal

pub returns-in-Some-clause-some : goal.returns-in-Some-clause-some
returns-in-Some-clause-some c =
    let first = first_pair c.args.window _ (negsuc 2147483647) (pos 2147483647) _ _ c.in-Some.pair.now c.next.new.self c.range.result c.self.inside.pairs (to_z-of_z w32 c.args.window c.ranges.window) c.new.ensures.start c.new.ensures.end c.in-Some.ensures.steps (c.range.ensures.in_range (search rules)).1 in
    let f = c.self.invariant c.args.window c.in-Some.pair.now.1 first in
    rw (to_z-of_z w32 c.in-Some.pair.now.1 f, ← c.self.view_is) first

pub returns-in-None-clause-none : goal.returns-in-None-clause-none
returns-in-None-clause-none c =
    no_pair c.args.window _ (negsuc 2147483647) (pos 2147483647) _ _ c.self.inside.pairs.keys c.args.self.now (to_z-of_z w32 c.args.window c.ranges.window) c.new.ensures.start c.new.ensures.end bounds c.self.invariant ((c.range.ensures.in_range (search rules)).5 c.in-None.ensures.steps.0) c.self.view_is
