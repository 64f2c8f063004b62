use Rattle.std.proofs.Common.{rules, ap, ◌+◌, pos, ◌+ℤ◌, FitsSigned, w32, w64, to_z, arith}
use Rattle.std.proofs.lemmas.Int.{ints, to_z-of_z}
use Rattle.std.proofs.lemmas.Map.Iter.{rest_more}
use Rattle.tab_pages.specs.PartLists.{page_shown}
use Rattle.session_tidying.proofs.GapLaws.{next-page}
use Rattle.session_tidying.proofs.gaps.push.Goals as goal

pub loop-page-preserved : goal.loop-page-preserved
loop-page-preserved c =
    let left = rest_more page_shown c.loop-page.page-iterator c.next.new.self c.next.result c.in-Some.page
    c.in-Some.is c.next.ensures.steps in
    let id : FitsSigned w32 c.args.tab.now.info.id = search rules in
    let index : FitsSigned w32 c.in-Some.page.0 = search rules in
    let from = simp to_z-of_z at c.from-next.ensures in
    let wide : FitsSigned w64 c.from-next.result = search rules in
    let sum : FitsSigned w64 (c.from-next.result +ℤ pos 1) = search (rules, ints, from) in
    let put = simp to_z-of_z at c.in_ok-push_gap.ensures in
    next-page c.args.tab.now.info.id c.loop-page.place (c.loop-page.place + 1) (to_z w64 c.loop-page.next-bits) _
    c.loop-page.out.items c.push_gap.new.out.items _
    c.loop-page.page-iterator c.next.new.self (page_shown c.in-Some.page) c.loop-page.invariant left put (omega arith)
    (simp to_z-of_z (ap (λ i. i +ℤ pos 1) from))
