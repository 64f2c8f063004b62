use Rattle.std.proofs.Common.{rules, not, FitsSigned, w32}
use Rattle.std.proofs.lemmas.Fn.{filter_same}
use Rattle.std.proofs.lemmas.Int.{to_z-of_z}
use Rattle.tab_pages.specs.PageLists.{is_pruned, lowered}
use Rattle.tab_pages.proofs.PageLaws.{written_over}
use Rattle.tab_pages.proofs.page_vec.prune.Goals as goal

pub returns : goal.returns
returns c =
    let first : FitsSigned w32 c.args.first = c.ranges.first in
    let count : FitsSigned w32 c.args.count = c.ranges.count in
    let kept = filter_same _ (λ page. not (is_pruned c.args.first c.args.count page.0)) _ (λ x b f k. search rules) _ _ c.retain.ensures.filtered in
    let fallen = simp to_z-of_z at c.lower_all.ensures in
    rw (← kept) (written_over (lowered c.args.first c.args.count) c.retain.new.self.items c.lower_all.new.pages c.retain.new.self.len (c.retain.new.self.ok.0) (rw c.as_mut_slice.ensures.value at fallen))
