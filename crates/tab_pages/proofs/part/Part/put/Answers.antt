use Rattle.std.proofs.Common.{rules, FitsSigned, w32, ◌∙◌, pos, ap, arith}
use Rattle.std.proofs.lemmas.Int.{ints, to_z-of_z}
use Rattle.std.proofs.lemmas.Result.{on_ok_weaker, on_err_weaker}
use Rattle.std.specs.Ordering.{int_cmp}
use Rattle.std.specs.BTreeMap.{insert_entry}
use Rattle.tab_pages.specs.PageLists.{IsRising}
use Rattle.tab_pages.proofs.PageLaws.{rising-put}
use Rattle.tab_pages.proofs.PartLaws.{rising-applied, shifted-none, either}
use Rattle.tab_pages.proofs.part.Part.put.Goals as goal

pub put-requires : goal.put-requires
put-requires c =
    let f : FitsSigned w32 c.self.inside.fall = search rules in
    let applied = simp to_z-of_z at c.apply_fall.ensures in
    let raised = rising-applied c.self.inside.fall c.self.inside.pages.items c.self.invariant.1 in
    let rising : IsRising (pos 0) c.apply_fall.new.pages.items = rw applied raised in
    rising

pub invariant_of-self : goal.invariant_of-self
invariant_of-self c =
    let g : FitsSigned w32 c.args.index = c.ranges.index in
    let f : FitsSigned w32 c.self.inside.fall = search rules in
    let applied = simp to_z-of_z at c.apply_fall.ensures in
    let raised = rising-applied c.self.inside.fall c.self.inside.pages.items c.self.invariant.1 in
    let rising : IsRising (pos 0) c.apply_fall.new.pages.items = rw applied raised in
    let ok = simp to_z-of_z at c.put.ensures.ok in
    let put = rising-put (pos 0) c.args.index c.args.navigation c.apply_fall.new.pages.items c.requires rising in
    (omega (arith, ints), either c.put.result (IsRising (pos 0) c.put.new.pages.items) (on_ok_weaker c.put.result (λ same. rw same put) ok) (on_err_weaker c.put.result (λ same. rw same rising) c.put.ensures.err))

pub returns-clause-ok : goal.returns-clause-ok
returns-clause-ok c =
    let g : FitsSigned w32 c.args.index = c.ranges.index in
    let f : FitsSigned w32 c.self.inside.fall = search rules in
    let applied = simp to_z-of_z at c.apply_fall.ensures in
    let seen = applied ∙ c.self.view_is in
    let ok = simp to_z-of_z at c.put.ensures.ok in
    on_ok_weaker c.put.result (λ same. shifted-none c.put.new.pages.items ∙ same ∙ ap (λ qs. insert_entry int_cmp qs c.args.index c.args.navigation) seen) ok

pub returns-clause-err : goal.returns-clause-err
returns-clause-err c =
    let f : FitsSigned w32 c.self.inside.fall = search rules in
    let applied = simp to_z-of_z at c.apply_fall.ensures in
    let seen = applied ∙ c.self.view_is in
    on_err_weaker c.put.result (λ same. shifted-none c.put.new.pages.items ∙ same ∙ seen) c.put.ensures.err
