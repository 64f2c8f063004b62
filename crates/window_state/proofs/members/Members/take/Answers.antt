use Rattle.std.proofs.Common.{rules, false, FitsSigned, w32}
use Rattle.std.proofs.lemmas.Int.{to_z-of_z}
use Rattle.window_state.proofs.PairLaws.{in_range-set, sets-pair}
use Rattle.window_state.proofs.members.Members.take.Goals as goal

pub invariant_of-self : goal.invariant_of-self
invariant_of-self c =
    let f : FitsSigned w32 c.in-Some.tab = search rules in
    let set = sets-pair c.args.window c.in-Some.tab _ _ false c.self.inside.pairs c.remove.new.self (to_z-of_z w32 c.args.window c.ranges.window) (to_z-of_z w32 c.in-Some.tab f) c.remove.ensures.updates in
    in_range-set c.args.window c.in-Some.tab false c.self.inside.pairs.keys c.remove.new.self.keys f set c.self.invariant

pub returns-in-Some-clause-gone : goal.returns-in-Some-clause-gone
returns-in-Some-clause-gone c =
    let f : FitsSigned w32 c.in-Some.tab = search rules in
    let set = sets-pair c.args.window c.in-Some.tab _ _ false c.self.inside.pairs c.remove.new.self (to_z-of_z w32 c.args.window c.ranges.window) (to_z-of_z w32 c.in-Some.tab f) c.remove.ensures.updates in
    rw (to_z-of_z w32 c.in-Some.tab f, ← c.self.view_is) set

pub returns-in-Some-clause-fewer : goal.returns-in-Some-clause-fewer
returns-in-Some-clause-fewer c =
    let f : FitsSigned w32 c.in-Some.tab = search rules in
    let g : FitsSigned w32 c.args.window = c.ranges.window in
    let had = rw (← c.self.view_is) at (simp to_z-of_z at c.in-Some.ensures.some) in
    let test = simp to_z-of_z at c.remove.ensures.test in
    let len = rw (test, had) at c.remove.ensures.len in
    rw (← c.self.view_is) len
