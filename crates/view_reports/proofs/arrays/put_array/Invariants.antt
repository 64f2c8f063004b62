use Rattle.std.proofs.Common.{◌≤◌, ◌++◌, drop, map}
use Rattle.serde_json.specs.View.{items_of}
use Rattle.serde_json.specs.Written.{items_text}
use Rattle.view_reports.proofs.JsonTexts.{list_text}
use Rattle.view_reports.proofs.StreamLaws.{IsMadeUpTo}
use Rattle.view_reports.proofs.arrays.put_array.Given as goal

abbrev pub invariant-loop-item : goal.invariant-loop-item
invariant-loop-item g l = record {
  made : IsMadeUpTo (g.K.Sink.written l.fn.out) (g.K.Sink.written l.out) l.waiting.items
      (items_text l.later (items_of (map g.T.Json.value (drop l.item-index l.items)))) (l.fn.waiting.items ++ list_text g.T.Json.value l.items);
  later : g.K.Sink.faults l.fn.out ≤ g.K.Sink.faults l.out;
}
