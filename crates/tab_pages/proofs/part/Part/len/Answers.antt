use Rattle.std.proofs.Common.{rules, FitsSigned, w32, ◌-◌, arith, length}
use Rattle.std.proofs.lemmas.Int.{ints}
use Rattle.tab_pages.proofs.PartLaws.{are_low}
use Rattle.tab_pages.proofs.part.Part.len.Goals as goal

pub returns-in-Some-clause-low : goal.returns-in-Some-clause-low
returns-in-Some-clause-low c =
    let k : FitsSigned w32 c.in-Some.last.now.0 = search rules in
    rw (← c.self.view_is) (are_low c.self.inside.fall c.self.inside.fall c.self.inside.pages.items (length c.self.inside.pages.items - 1) c.in-Some.last.now (omega arith) c.self.invariant.1 c.self.invariant.0 (grind (arith, ints)) (search rules))
