use Rattle.std.proofs.Common.{rules, ◌≡◌, ◌++◌}
use Rattle.view_reports.specs.ObjectTexts.{window_start}
use Rattle.view_reports.proofs.JsonTexts.{window_text}
use Rattle.report_lines.proofs.ReportLaws.{refused, refused_at_once}
use Rattle.view_reports.proofs.StreamLaws.{stops_in_list, stops_behind_list, ends_behind_list}
use Rattle.view_reports.proofs.json.ViewWindowJson.put.Goals as goal

pub returns-in_err-append_window_start-clause-report : goal.returns-in_err-append_window_start-clause-report
returns-in_err-append_window_start-clause-report g c = refused_at_once _ _ _ _ c.from_residual.ensures.0

pub returns-in_err-put_array-clause-report : goal.returns-in_err-put_array-clause-report
returns-in_err-put_array-clause-report g c =
    let start : c.append_window_start.new.waiting.items ≡ c.args.waiting.now.items ++ window_start c.args.self.now.info.id c.args.self.now.selected = search rules in
    refused _ _ _ _ _ c.from_residual-in_err-put_array.ensures.0
    (stops_in_list _ _ _ _ _ _ _ _ (window_text c.args.self.now) start (rw c.as_slice.ensures at c.in_err-put_array.ensures.report))

pub returns-in_err-extend_from_slice-clause-report : goal.returns-in_err-extend_from_slice-clause-report
returns-in_err-extend_from_slice-clause-report g c =
    let start : c.append_window_start.new.waiting.items ≡ c.args.waiting.now.items ++ window_start c.args.self.now.info.id c.args.self.now.selected = search rules in
    refused _ _ _ _ _ c.from_residual-in_err-extend_from_slice.ensures.0
    (stops_behind_list _ _ _ _ _ _ _ _ (window_text c.args.self.now) start _ (rw c.as_slice.ensures at c.in_ok-put_array.ensures.report))

pub returns-clause-report : goal.returns-clause-report
returns-clause-report g c =
    let start : c.append_window_start.new.waiting.items ≡ c.args.waiting.now.items ++ window_start c.args.self.now.info.id c.args.self.now.selected = search rules in
    ends_behind_list _ _ _ _ _ _ _ _ (window_text c.args.self.now) start _ _ (rw c.as_slice.ensures at c.in_ok-put_array.ensures.report) c.in_ok-extend_from_slice.ensures.items
