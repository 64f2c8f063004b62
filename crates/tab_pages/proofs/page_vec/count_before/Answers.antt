use Rattle.std.proofs.Common.{rules, of_calls, FitsSigned, w32, ◌∙◌, ◌+ℤ◌, int_lt, sym}
use Rattle.std.proofs.lemmas.Fn.{always_returns_same}
use Rattle.tab_pages.proofs.PageLaws.{place_is, rising_partitioned}
use Rattle.tab_pages.proofs.CountLaws.{count-shifted, place_of-count}
use Rattle.tab_pages.proofs.page_vec.count_before.Goals as goal

pub returns : goal.returns
returns c =
    let f : FitsSigned w32 c.args.fall = c.ranges.fall in
    let g : FitsSigned w32 c.args.index = c.ranges.index in
    let bound = c.args.index +ℤ c.args.fall in
    let point = c.partition_point.ensures.partitioned (λ page. int_lt page.0 (c.args.index +ℤ c.args.fall)) (always_returns_same _ _ _ (λ a r f k. search (rules, of_calls))) (rising_partitioned c.args.fall (c.args.index +ℤ c.args.fall) c.args.pages.now c.requires) in
    place_is (c.args.index +ℤ c.args.fall) c.args.pages.now c.partition_point.result c.partition_point.ensures.bound point
    ∙ place_of-count c.args.fall (c.args.index +ℤ c.args.fall) c.args.pages.now c.requires
    ∙ sym (count-shifted c.args.fall c.args.index c.args.pages.now)
