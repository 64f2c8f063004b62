use Rattle.view_reports.specs.RecoveredLines.{recovered_lines}
use Rattle.report_lines.proofs.ReportLaws.{refused}
use Rattle.view_reports.proofs.StreamLaws.{begins, appends, adds, adds_last, stops, stops_in, stops_in_last}
use Rattle.view_reports.proofs.lines.put_lines.Goals as goal

pub returns-in_err-put_each-clause-report : goal.returns-in_err-put_each-clause-report
returns-in_err-put_each-clause-report g c =
    let whole = begins (g.K.Sink.written c.args.out.now) c.args.waiting.now.items (recovered_lines c.args.view.now c.args.entries.now) in
    refused _ _ _ _ _ c.from_residual.ensures.0 (stops_in _ _ _ _ _ _ _ whole (rw c.as_slice.ensures at c.in_err-put_each.ensures.report))

pub returns-in_err-append_active-clause-report : goal.returns-in_err-append_active-clause-report
returns-in_err-append_active-clause-report g c =
    let whole = begins (g.K.Sink.written c.args.out.now) c.args.waiting.now.items (recovered_lines c.args.view.now c.args.entries.now) in
    let windows = adds _ _ _ _ _ _ _ _ whole (rw c.as_slice.ensures at c.in_ok-put_each.ensures.report) in
    refused _ _ _ _ _ c.from_residual-in_err-append_active.ensures.0 (stops _ _ _ _ _ windows)

pub returns-in_err-put_each-2-clause-report : goal.returns-in_err-put_each-2-clause-report
returns-in_err-put_each-2-clause-report g c =
    let whole = begins (g.K.Sink.written c.args.out.now) c.args.waiting.now.items (recovered_lines c.args.view.now c.args.entries.now) in
    let windows = adds _ _ _ _ _ _ _ _ whole (rw c.as_slice.ensures at c.in_ok-put_each.ensures.report) in
    let active = appends _ _ _ _ _ _ _ windows c.in_ok-append_active.ensures in
    refused _ _ _ _ _ c.from_residual-in_err-put_each-2.ensures.0 (stops_in_last _ _ _ _ _ _ active c.in_err-put_each-2.ensures.report)

pub returns-clause-report : goal.returns-clause-report
returns-clause-report g c =
    let whole = begins (g.K.Sink.written c.args.out.now) c.args.waiting.now.items (recovered_lines c.args.view.now c.args.entries.now) in
    let windows = adds _ _ _ _ _ _ _ _ whole (rw c.as_slice.ensures at c.in_ok-put_each.ensures.report) in
    let active = appends _ _ _ _ _ _ _ windows c.in_ok-append_active.ensures in
    adds_last _ _ _ _ _ _ _ active c.in_ok-put_each-2.ensures.report
