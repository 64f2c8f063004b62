use Rattle.std.proofs.Common.{true, w32, subst}
use Rattle.std.proofs.lemmas.Int.{to_z-of_z}
use Rattle.window_state.specs.Members.{SetsPair}
use Rattle.window_state.proofs.PairLaws.{in_range-set, sets-pair}
use Rattle.window_state.proofs.members.Members.insert.Goals as goal

pub invariant_of-self-2 : goal.invariant_of-self-2
invariant_of-self-2 c =
    let set = sets-pair c.args.window c.args.tab _ _ true c.self.inside.pairs c.insert.new.self (to_z-of_z w32 c.args.window c.ranges.window) (to_z-of_z w32 c.args.tab c.ranges.tab) c.in_ok-insert.ensures.updates in
    in_range-set c.args.window c.args.tab true c.self.inside.pairs.keys c.insert.new.self.keys c.ranges.tab set c.self.invariant

pub returns-clause-ok : goal.returns-clause-ok
returns-clause-ok c =
    let set = sets-pair c.args.window c.args.tab _ _ true c.self.inside.pairs c.insert.new.self (to_z-of_z w32 c.args.window c.ranges.window) (to_z-of_z w32 c.args.tab c.ranges.tab) c.in_ok-insert.ensures.updates in
    subst (λ old. SetsPair c.args.window c.args.tab true old c.insert.new.self.keys) c.self.view_is set
