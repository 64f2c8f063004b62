use Rattle.std.proofs.Common.{pos, ◌++◌, map}
use Rattle.browser_model.specs.Tidying.{gaps}
use Rattle.session_tidying.specs.Gaps.{gap_pruned}
use Rattle.session_tidying.proofs.GapLaws.{IsUnderWay}
use Rattle.session_tidying.proofs.gaps.push.Given as goal

abbrev pub invariant-loop-page : goal.invariant-loop-page
invariant-loop-page l =
    IsUnderWay l.tab.info.id l.place l.next l.out.items
    (l.fn.out.items ++ map (gap_pruned l.tab.info.id) (gaps 0 (pos 0) l.tab.pages)) l.page-iterator
