use Rattle.std.proofs.Common.{rules}
use Rattle.report_lines.proofs.ReportLaws.{refused}
use Rattle.view_reports.proofs.StreamLaws.{next_item, adds, stops_in}
use Rattle.view_reports.proofs.lines.put_each.Goals as goal

pub returns-in_err-put-clause-report : goal.returns-in_err-put-clause-report
returns-in_err-put-clause-report g c =
    let next = next_item g.T.Lines.lines c.args.items.now c.loop-item.item-index _ _ _ _ _ c.loop-item-test.true c.item-item.is c.loop-item.invariant.made in
    refused _ _ _ _ _ c.from_residual.ensures.0 (stops_in _ _ _ _ _ _ _ next c.in_err-put.ensures.report)

pub loop-item-preserved : goal.loop-item-preserved
loop-item-preserved g c =
    let next = next_item g.T.Lines.lines c.args.items.now c.loop-item.item-index _ _ _ _ _ c.loop-item-test.true c.item-item.is c.loop-item.invariant.made in
    record {
      made = adds _ _ _ _ _ _ _ _ next c.in_ok-put.ensures.report;
      later = search rules;
    }
