use Rattle.std.proofs.Common.{rules, FitsSigned, w32, ◌∙◌, pos, arith}
use Rattle.std.proofs.lemmas.Int.{ints, to_z-of_z}
use Rattle.std.proofs.lemmas.Result.{err_from_is_err_and}
use Rattle.tab_pages.proofs.PartLaws.{rising-applied, rising-take, rising-drop, shifted-none, split-whole}
use Rattle.tab_pages.proofs.part.Part.split.Goals as goal

pub invariant_of-self : goal.invariant_of-self
invariant_of-self c =
    let f : FitsSigned w32 c.self.inside.fall = search rules in
    let applied = simp to_z-of_z at c.apply_fall.ensures in
    let rising = rising-applied c.self.inside.fall c.self.inside.pages.items c.self.invariant.1 in
    let same = c.in_err-pages.ensures.err in
    (omega (arith, ints), rw (same, applied) rising)

pub returns-in_err-pages-clause-err : goal.returns-in_err-pages-clause-err
returns-in_err-pages-clause-err c =
    let f : FitsSigned w32 c.self.inside.fall = search rules in
    let applied = simp to_z-of_z at c.apply_fall.ensures in
    let seen = applied ∙ c.self.view_is in
    let same = c.in_err-pages.ensures.err in
    let p = err_from_is_err_and c.from_residual.result c.from_residual.ensures.1 in
    rw (p.1, same) (shifted-none c.apply_fall.new.pages.items ∙ seen)

pub invariant_of-result : goal.invariant_of-result
invariant_of-result c =
    let f : FitsSigned w32 c.self.inside.fall = search rules in
    let applied = simp to_z-of_z at c.apply_fall.ensures in
    let rising = rising-applied c.self.inside.fall c.self.inside.pages.items c.self.invariant.1 in
    let back = c.in_ok-pages.ensures.tail in
    (omega (arith, ints), rw (back, applied) (rising-drop (pos 0) _ _ rising))

pub invariant_of-self-2 : goal.invariant_of-self-2
invariant_of-self-2 c =
    let f : FitsSigned w32 c.self.inside.fall = search rules in
    let applied = simp to_z-of_z at c.apply_fall.ensures in
    let rising = rising-applied c.self.inside.fall c.self.inside.pages.items c.self.invariant.1 in
    let front = c.in_ok-pages.ensures.items in
    (omega (arith, ints), rw (front, applied) (rising-take (pos 0) _ _ rising))

pub returns-clause-ok : goal.returns-clause-ok
returns-clause-ok c =
    let f : FitsSigned w32 c.self.inside.fall = search rules in
    let applied = simp to_z-of_z at c.apply_fall.ensures in
    let seen = applied ∙ c.self.view_is in
    split-whole _ c.apply_fall.new.pages.items c.args.self.now c.split_off.new.self.items c.in_ok-pages.pages.items c.in_ok-pages.ensures.items c.in_ok-pages.ensures.tail seen
