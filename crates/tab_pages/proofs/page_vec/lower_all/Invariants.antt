use Rattle.std.proofs.Common.{◌≡◌, ◌++◌, map, take, drop}
use Rattle.tab_pages.specs.PageLists.{lowered}
use Rattle.tab_pages.proofs.page_vec.lower_all.Given as goal

abbrev pub invariant-loop-page : goal.invariant-loop-page
invariant-loop-page l = l.pages ≡ map (lowered l.first l.count) (take l.page-index l.initial.pages) ++ drop l.page-index l.initial.pages
