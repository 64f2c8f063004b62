use Rattle.std.proofs.Common.{rules, int_lt}
use Rattle.std.proofs.lemmas.Fn.{filter_same}
use Rattle.tab_pages.proofs.page_vec.prune_back.Goals as goal

pub returns : goal.returns
returns c = filter_same _ (λ page. int_lt page.0 c.args.index) _ (λ x b f k. search rules) _ _ c.retain.ensures.filtered
