use Rattle.std.proofs.Common.{rules, FitsSigned, w32, ◌∙◌, ap, sym, map, filter, not}
use Rattle.std.proofs.lemmas.Fn.{filter_same}
use Rattle.std.proofs.lemmas.Int.{to_z-of_z}
use Rattle.tab_pages.specs.PageLists.{has_page, is_pruned, lowered, pruned}
use Rattle.tab_pages.specs.PartLists.{joined}
use Rattle.tab_pages.proofs.PageLaws.{written_over}
use Rattle.tab_pages.proofs.PartLaws.{none-pruned}
use Rattle.tab_pages.proofs.JoinLaws.{joined-kept, joined-map_filter}
use Rattle.tab_pages.proofs.parts.prune.Goals as goal

pub returns-then-end_before : goal.returns-then-end_before
returns-then-end_before c =
    let f : FitsSigned w32 c.args.first = c.ranges.first in
    let g : FitsSigned w32 c.args.count = c.ranges.count in
    let all = simp (to_z-of_z, c.as_slice.ensures.value) at (c.end_before.ensures c.if-end_before.true) in
    sym (none-pruned c.args.first c.args.count (joined c.args.parts.now.items) all)

pub returns : goal.returns
returns c =
    let first : FitsSigned w32 c.args.first = c.ranges.first in
    let count : FitsSigned w32 c.args.count = c.ranges.count in
    let kept = filter_same _ has_page _ (λ x b f k. search rules) _ _ c.retain.ensures.filtered in
    let fallen = simp to_z-of_z at c.prune_all.ensures in
    let whole = written_over (pruned c.args.first c.args.count) c.args.parts.now.items c.prune_all.new.parts c.args.parts.now.len (c.args.parts.now.ok.0) (rw c.as_mut_slice.ensures.value at fallen) in
    ap joined (kept ∙ ap (filter has_page) whole)
    ∙ joined-kept (map (pruned c.args.first c.args.count) c.args.parts.now.items)
    ∙ joined-map_filter (lowered c.args.first c.args.count) (λ page. not (is_pruned c.args.first c.args.count page.0)) c.args.parts.now.items
