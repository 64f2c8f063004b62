use Rattle.std.proofs.Common.{rules, false, FitsSigned, w32, sym, ◌∙◌}
use Rattle.std.proofs.lemmas.Int.{to_z-of_z}
use Rattle.window_state.proofs.PairLaws.{in_range-set, leaves-window, sets-pair}
use Rattle.window_state.proofs.members.Members.leave.Goals as goal

pub invariant_of-self : goal.invariant_of-self
invariant_of-self c =
    let f : FitsSigned w32 c.in-Some.window = search rules in
    let set = sets-pair c.in-Some.window c.args.tab _ _ false c.self.inside.pairs c.remove.new.self (to_z-of_z w32 c.in-Some.window f) (to_z-of_z w32 c.args.tab c.ranges.tab) c.remove.ensures.updates in
    in_range-set c.in-Some.window c.args.tab false c.self.inside.pairs.keys c.remove.new.self.keys c.ranges.tab set c.self.invariant

pub returns-then-ne : goal.returns-then-ne
returns-then-ne c =
    let f : FitsSigned w32 c.in-Some.window = search rules in
    let set = sets-pair c.in-Some.window c.args.tab _ _ false c.self.inside.pairs c.remove.new.self (to_z-of_z w32 c.in-Some.window f) (to_z-of_z w32 c.args.tab c.ranges.tab) c.remove.ensures.updates in
    leaves-window c.args.tab c.in-Some.window c.args.from c.args.to c.self.inside.pairs.keys c.args.self.now c.remove.new.self.keys c.in-Some.is c.self.view_is (sym c.ne.ensures ∙ c.if-ne.true) set
