use Rattle.std.proofs.Common.{◌≡◌, take}
use Rattle.tab_pages.proofs.page_vec.copy.Given as goal

abbrev pub invariant-loop-page : goal.invariant-loop-page
invariant-loop-page l = l.copied.items ≡ take l.page-index l.pages
