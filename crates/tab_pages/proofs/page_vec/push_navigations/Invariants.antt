use Rattle.std.proofs.Common.{◌≡◌, ◌++◌, map, take}
use Rattle.tab_pages.proofs.page_vec.push_navigations.Given as goal

abbrev pub invariant-loop-page : goal.invariant-loop-page
invariant-loop-page l = l.navigations.items ≡ l.initial.navigations.items ++ map (λ page. page.1) (take l.page-index l.pages)
