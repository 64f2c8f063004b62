use Rattle.std.proofs.Common.{◌≤◌, ◌++◌, map}
use Rattle.serde_json.specs.View.{items_of}
use Rattle.serde_json.specs.Written.{compact_text, items_text}
use Rattle.view_reports.specs.PageValue.{page_value, pages_value}
use Rattle.view_reports.proofs.StreamLaws.{IsMadeUpTo}
use Rattle.view_reports.proofs.arrays.put_closed_pages.Given as goal

abbrev pub invariant-loop-page : goal.invariant-loop-page
invariant-loop-page g l = record {
  made : IsMadeUpTo (g.K.Sink.written l.fn.out) (g.K.Sink.written l.out) l.waiting.items
      (items_text l.later (items_of (map page_value (map (λ page. page.1) l.page-iterator)))) (l.fn.waiting.items ++ compact_text (pages_value (map (λ page. page.1) l.pages)));
  later : g.K.Sink.faults l.fn.out ≤ g.K.Sink.faults l.out;
}
