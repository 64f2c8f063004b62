use Rattle.std.proofs.Common.{rules, FitsSigned, w32, ◌∙◌, ap, sym, map, filter, int_lt}
use Rattle.std.proofs.lemmas.Fn.{filter_same}
use Rattle.std.proofs.lemmas.Int.{to_z-of_z}
use Rattle.tab_pages.specs.PageLists.{has_page, prune_back}
use Rattle.tab_pages.specs.PartLists.{joined}
use Rattle.tab_pages.proofs.PageLaws.{written_over}
use Rattle.tab_pages.proofs.PartLaws.{none-cut}
use Rattle.tab_pages.proofs.JoinLaws.{joined-kept, joined-filter}
use Rattle.tab_pages.proofs.parts.prune_back.Goals as goal

pub returns-then-end_before : goal.returns-then-end_before
returns-then-end_before c =
    let f : FitsSigned w32 c.args.index = c.ranges.index in
    let all = simp (to_z-of_z, c.as_slice.ensures.value) at (c.end_before.ensures c.if-end_before.true) in
    sym (none-cut c.args.index (joined c.args.parts.now.items) all)

pub returns : goal.returns
returns c =
    let index : FitsSigned w32 c.args.index = c.ranges.index in
    let kept = filter_same _ has_page _ (λ x b f k. search rules) _ _ c.retain.ensures.filtered in
    let fallen = simp to_z-of_z at c.prune_back_all.ensures in
    let whole = written_over (prune_back c.args.index) c.args.parts.now.items c.prune_back_all.new.parts c.args.parts.now.len (c.args.parts.now.ok.0) (rw c.as_mut_slice.ensures.value at fallen) in
    ap joined (kept ∙ ap (filter has_page) whole)
    ∙ joined-kept (map (prune_back c.args.index) c.args.parts.now.items)
    ∙ joined-filter (λ page. int_lt page.0 c.args.index) c.args.parts.now.items
