use Rattle.std.proofs.Common.{rules, refl, ◌∙◌}
use Rattle.report_lines.proofs.ReportLaws.{begun}
use Rattle.file_reports.proofs.ReportLaws.{adds_refused, commands_text}
use Rattle.file_reports.proofs.WalkLaws.{ending_read}
use Rattle.file_reports.proofs.ShowLaws.{walked_more, walked_sent, walked_cut, walked_failed, walked_done}
use Rattle.file_reports.proofs.showing.send_commands.Goals as goal

pub returns-in_err-reader-clause-report : goal.returns-in_err-reader-clause-report
returns-in_err-reader-clause-report g c = λ modelled frames rest reads.
    adds_refused _ c.args.waiting.now.items _ (commands_text c.args.family frames rest) c.from_residual.result (search rules)

pub returns-in_err-frame-clause-report : goal.returns-in_err-frame-clause-report
returns-in_err-frame-clause-report g c = λ modelled.
    walked_cut _ _ _ _ _ _ _ (c.loop-reader.invariant.walked modelled) _ _ c.from_residual-in_err-frame.result (search rules) (_, begun _ _)

pub returns-in_err-put_frame_line-clause-report : goal.returns-in_err-put_frame_line-clause-report
returns-in_err-put_frame_line-clause-report g c = λ modelled.
    walked_cut _ _ _ _ _ _ _ (c.loop-reader.invariant.walked modelled) _ _ c.from_residual-in_err-put_frame_line.result (search rules) (_, begun _ _)

pub returns-in_err-send_piece-clause-report : goal.returns-in_err-send_piece-clause-report
returns-in_err-send_piece-clause-report g c = λ modelled.
    let l = c.loop-reader.invariant in
    let first = rw (l.stamp, l.unchanged, c.in-Some.is) at (c.in_ok-frame.ensures.first modelled) in
    let offset = rw c.in-Some.is at c.in_ok-frame.ensures.offset in
    let more = walked_more _ _ _ _ _ _ _ (l.walked modelled) _ _ first (rw offset at c.in_ok-put_frame_line.ensures) in
    walked_cut _ _ _ _ _ _ _ more _ _ c.from_residual-in_err-send_piece.result (search rules) c.in_err-send_piece.ensures.report

pub loop-reader-preserved : goal.loop-reader-preserved
loop-reader-preserved g c =
    let l = c.loop-reader.invariant in
    let on = c.next.follows.holds-at-none in
    record {
      stamp = on.stamp ∙ l.stamp;
      reading = rw (l.stamp, l.unchanged) at on.reading;
      unchanged = c.next.ensures.unchanged ∙ l.unchanged;
      walked = λ modelled.
          let first = rw (l.stamp, l.unchanged, c.in-Some.is) at (c.in_ok-frame.ensures.first modelled) in
          let offset = rw c.in-Some.is at c.in_ok-frame.ensures.offset in
          let more = walked_more _ _ _ _ _ _ _ (l.walked modelled) _ _ first (rw offset at c.in_ok-put_frame_line.ensures) in
          rw (rw (c.in_ok-frame.was, c.in-Some.is) at on.moved) (walked_sent _ _ _ _ _ _ _ more _ _ c.in_ok-send_piece.ensures.report);
      disk_later = search rules;
      sink_later = search rules;
    }

pub returns-in_err-send_ending-clause-report : goal.returns-in_err-send_ending-clause-report
returns-in_err-send_ending-clause-report g c = λ modelled.
    let l = c.loop-reader.invariant in
    let on = c.next.follows.holds-at-none in
    let none = rw (l.stamp, l.unchanged, c.in_default.is) at (c.in_ok-frame.ensures.first modelled) in
    let ends = (rw (l.stamp, l.unchanged, c.in_ok-frame.was, c.in_default.is) at (on.ended modelled)) refl in
    let ending = ending_read _ _ _ _ (rw (c.in_ok-frame.was, c.in_default.is) at on.moved).0 ends c.ending.ensures in
    walked_failed _ _ _ _ _ _ _ (l.walked modelled) _ _ c.from_residual-in_err-send_ending.result (search rules) none (rw ending at c.in_err-send_ending.ensures.report)

pub returns-clause-report : goal.returns-clause-report
returns-clause-report g c = λ modelled.
    let l = c.loop-reader.invariant in
    let on = c.next.follows.holds-at-none in
    let none = rw (l.stamp, l.unchanged, c.in_default.is) at (c.in_ok-frame.ensures.first modelled) in
    let ends = (rw (l.stamp, l.unchanged, c.in_ok-frame.was, c.in_default.is) at (on.ended modelled)) refl in
    let ending = ending_read _ _ _ _ (rw (c.in_ok-frame.was, c.in_default.is) at on.moved).0 ends c.ending.ensures in
    walked_done _ _ _ _ _ _ _ (l.walked modelled) _ _ none (rw ending at c.in_ok-send_ending.ensures.report)
