use Rattle.view_reports.proofs.JsonTexts.{view_text}
use Rattle.report_lines.proofs.ReportLaws.{refused, refused_at_once}
use Rattle.view_reports.proofs.StreamLaws.{begins_as, appends, appends_last, adds, stops, stops_in}
use Rattle.view_reports.proofs.json.put_json.Goals as goal

pub returns-in_err-append_view_start-clause-report : goal.returns-in_err-append_view_start-clause-report
returns-in_err-append_view_start-clause-report g c = refused_at_once _ _ _ _ c.from_residual.ensures.0

pub returns-in_err-put_array-clause-report : goal.returns-in_err-put_array-clause-report
returns-in_err-put_array-clause-report g c =
    let begun = begins_as (g.K.Sink.written c.args.out.now) c.args.waiting.now.items _ _ (view_text c.args.view.now c.args.entries.now) in
    let start = appends _ _ _ _ _ _ _ begun c.in_ok-append_view_start.ensures in
    refused _ _ _ _ _ c.from_residual-in_err-put_array.ensures.0 (stops_in _ _ _ _ _ _ _ start c.in_err-put_array.ensures.report)

pub returns-in_err-extend_from_slice-clause-report : goal.returns-in_err-extend_from_slice-clause-report
returns-in_err-extend_from_slice-clause-report g c =
    let begun = begins_as (g.K.Sink.written c.args.out.now) c.args.waiting.now.items _ _ (view_text c.args.view.now c.args.entries.now) in
    let start = appends _ _ _ _ _ _ _ begun c.in_ok-append_view_start.ensures in
    let closed = adds _ _ _ _ _ _ _ _ start c.in_ok-put_array.ensures.report in
    refused _ _ _ _ _ c.from_residual-in_err-extend_from_slice.ensures.0 (stops _ _ _ _ _ closed)

pub returns-in_err-put_array-2-clause-report : goal.returns-in_err-put_array-2-clause-report
returns-in_err-put_array-2-clause-report g c =
    let begun = begins_as (g.K.Sink.written c.args.out.now) c.args.waiting.now.items _ _ (view_text c.args.view.now c.args.entries.now) in
    let start = appends _ _ _ _ _ _ _ begun c.in_ok-append_view_start.ensures in
    let closed = adds _ _ _ _ _ _ _ _ start c.in_ok-put_array.ensures.report in
    let between = appends _ _ _ _ _ _ _ closed c.in_ok-extend_from_slice.ensures.items in
    refused _ _ _ _ _ c.from_residual-in_err-put_array-2.ensures.0 (stops_in _ _ _ _ _ _ _ between (rw c.as_slice.ensures at c.in_err-put_array-2.ensures.report))

pub returns-in_err-extend_from_slice-2-clause-report : goal.returns-in_err-extend_from_slice-2-clause-report
returns-in_err-extend_from_slice-2-clause-report g c =
    let begun = begins_as (g.K.Sink.written c.args.out.now) c.args.waiting.now.items _ _ (view_text c.args.view.now c.args.entries.now) in
    let start = appends _ _ _ _ _ _ _ begun c.in_ok-append_view_start.ensures in
    let closed = adds _ _ _ _ _ _ _ _ start c.in_ok-put_array.ensures.report in
    let between = appends _ _ _ _ _ _ _ closed c.in_ok-extend_from_slice.ensures.items in
    let windows = adds _ _ _ _ _ _ _ _ between (rw c.as_slice.ensures at c.in_ok-put_array-2.ensures.report) in
    refused _ _ _ _ _ c.from_residual-in_err-extend_from_slice-2.ensures.0 (stops _ _ _ _ _ windows)

pub returns-clause-report : goal.returns-clause-report
returns-clause-report g c =
    let begun = begins_as (g.K.Sink.written c.args.out.now) c.args.waiting.now.items _ _ (view_text c.args.view.now c.args.entries.now) in
    let start = appends _ _ _ _ _ _ _ begun c.in_ok-append_view_start.ensures in
    let closed = adds _ _ _ _ _ _ _ _ start c.in_ok-put_array.ensures.report in
    let between = appends _ _ _ _ _ _ _ closed c.in_ok-extend_from_slice.ensures.items in
    let windows = adds _ _ _ _ _ _ _ _ between (rw c.as_slice.ensures at c.in_ok-put_array-2.ensures.report) in
    appends_last _ _ _ _ _ _ windows c.in_ok-extend_from_slice-2.ensures.items
