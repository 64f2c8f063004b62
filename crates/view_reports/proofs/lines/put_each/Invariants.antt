use Rattle.std.proofs.Common.{◌≤◌, ◌++◌, drop}
use Rattle.std.specs.List.{flat_map}
use Rattle.view_reports.proofs.StreamLaws.{IsMadeUpTo}
use Rattle.view_reports.proofs.lines.put_each.Given as goal

abbrev pub invariant-loop-item : goal.invariant-loop-item
invariant-loop-item g l = record {
  made : IsMadeUpTo (g.K.Sink.written l.fn.out) (g.K.Sink.written l.out) l.waiting.items
      (flat_map g.T.Lines.lines (drop l.item-index l.items)) (l.fn.waiting.items ++ flat_map g.T.Lines.lines l.items);
  later : g.K.Sink.faults l.fn.out ≤ g.K.Sink.faults l.out;
}
