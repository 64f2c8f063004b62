use Rattle.std.proofs.Common.{rules, of_calls, pos, int_lt}
use Rattle.std.proofs.lemmas.Fn.{always_returns_same}
use Rattle.tab_pages.proofs.PageLaws.{place_is, rising_partitioned}
use Rattle.tab_pages.proofs.page_vec.place_of.Goals as goal

pub returns-clause-place : goal.returns-clause-place
returns-clause-place c =
    let point = c.partition_point.ensures.partitioned (λ page. int_lt page.0 c.args.index) (always_returns_same _ _ _ (λ a r f k. search (rules, of_calls))) (rising_partitioned (pos 0) c.args.index c.args.pages.now c.requires) in
    place_is c.args.index c.args.pages.now c.partition_point.result c.partition_point.ensures.bound point
