use Rattle.std.proofs.Common.{rules, ◌∙◌}
use Rattle.tab_pages.specs.PartLists.{page_shown}
use Rattle.report_lines.proofs.ReportLaws.{sent, stopped}
use Rattle.view_reports.proofs.ArrayLaws.{opened, next_page, no_page}
use Rattle.report_lines.proofs.ReportLaws.{refused, refused_at_once}
use Rattle.view_reports.proofs.StreamLaws.{appends, appends_last, adds, stops, stops_in}
use Rattle.view_reports.proofs.arrays.put_closed_pages.Goals as goal

pub returns-in_err-extend_from_slice-clause-report : goal.returns-in_err-extend_from_slice-clause-report
returns-in_err-extend_from_slice-clause-report g c = refused_at_once _ _ _ _ c.from_residual.ensures.0

pub loop-page-init : goal.loop-page-init
loop-page-init g c = record {
  made = opened c.args.pages.now _ _ _ _ (c.into_iter-page-iterator.ensures.into_iter_gives ∙ c.iter-page-items.ensures) c.in_ok-extend_from_slice.ensures.items;
  later = search rules;
}

pub returns-in_err-append_comma-clause-report : goal.returns-in_err-append_comma-clause-report
returns-in_err-append_comma-clause-report g c = refused _ _ _ _ _ c.from_residual-in_err-append_comma.ensures.0 (stops _ _ _ _ _ c.loop-page.invariant.made)

pub returns-in_err-put-clause-report : goal.returns-in_err-put-clause-report
returns-in_err-put-clause-report g c =
    let next = next_page _ _ (page_shown c.in-Some.page) c.loop-page.later _ _ _ _ c.in-Some.ensures.steps c.loop-page.invariant.made in
    let comma = appends _ _ _ _ _ _ _ next c.in_ok-append_comma.ensures in
    refused _ _ _ _ _ c.from_residual-in_err-put.ensures.0 (stops_in _ _ _ _ _ _ _ comma c.in_err-put.ensures.report)

pub loop-page-preserved : goal.loop-page-preserved
loop-page-preserved g c =
    let next = next_page _ _ (page_shown c.in-Some.page) c.loop-page.later _ _ _ _ c.in-Some.ensures.steps c.loop-page.invariant.made in
    let comma = appends _ _ _ _ _ _ _ next c.in_ok-append_comma.ensures in
    record {
      made = adds _ _ _ _ _ _ _ _ comma c.in_ok-put.ensures.report;
      later = search rules;
    }

pub returns-in_err-extend_from_slice-2-clause-report : goal.returns-in_err-extend_from_slice-2-clause-report
returns-in_err-extend_from_slice-2-clause-report g c = refused _ _ _ _ _ c.from_residual-in_err-extend_from_slice-2.ensures.0 (stops _ _ _ _ _ c.loop-page.invariant.made)

pub returns-in_err-send_piece-clause-report : goal.returns-in_err-send_piece-clause-report
returns-in_err-send_piece-clause-report g c =
    let last = no_page _ c.loop-page.later _ _ _ _ c.in-None.ensures.steps.0 c.loop-page.invariant.made in
    refused _ _ _ _ _ c.from_residual-in_err-send_piece.ensures.0
    (stopped _ _ _ _ _ (appends_last _ _ _ _ _ _ last c.in_ok-extend_from_slice-2.ensures.items) c.in_err-send_piece.ensures.report)

pub returns-clause-report : goal.returns-clause-report
returns-clause-report g c =
    let last = no_page _ c.loop-page.later _ _ _ _ c.in-None.ensures.steps.0 c.loop-page.invariant.made in
    sent _ _ _ _ _ _ (appends_last _ _ _ _ _ _ last c.in_ok-extend_from_slice-2.ensures.items) c.in_ok-send_piece.ensures.report
