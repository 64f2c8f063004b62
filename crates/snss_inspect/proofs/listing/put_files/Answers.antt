use Rattle.std.proofs.Common.{rules, None, Some, refl, sym}
use Rattle.report_lines.proofs.ReportLaws.{refused, refused_at_once}
use Rattle.snss_inspect.proofs.ListingLaws.{listing_first, listing_cut, listing_line, listing_all, lined_cut, lined_sent, lined_stopped, lined_next, newest_stands}
use Rattle.snss_inspect.proofs.listing.put_files.Goals as goal

pub returns-in_err-next-clause-report : goal.returns-in_err-next-clause-report
returns-in_err-next-clause-report g c = λ modelled files chosen listed choice. refused_at_once _ _ _ _ c.from_residual.ensures.0

pub loop-next-init : goal.loop-next-init
loop-next-init g c = record {
  unchanged = search rules;
  disk_later = search rules;
  sink_later = search rules;
  in_range = search rules;
  stands = λ modelled. newest_stands (g.D.SessionDisk.history c.args.disk.now).now.standing None _ (c.in_ok-next.ensures.newest modelled);
  lists = λ modelled files chosen listed choice. listing_first _ _ _ _ _ _ _ (c.in_ok-next.ensures.newest modelled) listed;
}

pub returns-in_err-line-clause-report : goal.returns-in_err-line-clause-report
returns-in_err-line-clause-report g c = λ modelled files chosen listed choice.
    refused _ _ _ _ _ c.from_residual-in_err-line.ensures.0 (listing_cut _ _ _ _ _ _ _ _ _ _ (c.loop-next.invariant.lists modelled files chosen listed choice))

pub returns-in_err-put-clause-report : goal.returns-in_err-put-clause-report
returns-in_err-put-clause-report g c = λ modelled files chosen listed choice.
    refused _ _ _ _ _ c.from_residual-in_err-put.ensures.0 (listing_cut _ _ _ _ _ _ _ _ _ _ (c.loop-next.invariant.lists modelled files chosen listed choice))

pub returns-in_err-send_piece-clause-report : goal.returns-in_err-send_piece-clause-report
returns-in_err-send_piece-clause-report g c = λ modelled files chosen listed choice.
    let line = listing_line _ _ _ _ _ _ _ _ _ _ _ _ _ choice refl (rw c.loop-next.invariant.unchanged at (c.in_ok-line.ensures.line modelled)) (rw c.loop-next.invariant.unchanged at (c.in_ok-line.ensures.kind modelled))
    c.in_ok-put.ensures (rw c.in-Some.is at (c.loop-next.invariant.lists modelled files chosen listed choice)) in
    refused _ _ _ _ _ c.from_residual-in_err-send_piece.ensures.0 (lined_stopped _ _ _ _ _ _ _ _ _ _ _ line c.in_err-send_piece.ensures.report)

pub returns-in_err-next-2-clause-report : goal.returns-in_err-next-2-clause-report
returns-in_err-next-2-clause-report g c = λ modelled files chosen listed choice.
    let line = listing_line _ _ _ _ _ _ _ _ _ _ _ _ _ choice refl (rw c.loop-next.invariant.unchanged at (c.in_ok-line.ensures.line modelled)) (rw c.loop-next.invariant.unchanged at (c.in_ok-line.ensures.kind modelled))
    c.in_ok-put.ensures (rw c.in-Some.is at (c.loop-next.invariant.lists modelled files chosen listed choice)) in
    refused _ _ _ _ _ c.from_residual-in_err-next-2.ensures.0 (lined_cut _ _ _ _ _ _ _ _ _ _ (lined_sent _ _ _ _ _ _ _ _ _ _ _ _ line c.in_ok-send_piece.ensures.report))

pub loop-next-preserved : goal.loop-next-preserved
loop-next-preserved g c = record {
  unchanged = search rules;
  disk_later = search rules;
  sink_later = search rules;
  in_range = search rules;
  stands = λ modelled. newest_stands (g.D.SessionDisk.history c.args.disk.now).now.standing (Some c.in-Some.stamp) _
      (rw (c.in_ok-line.ensures.unchanged, c.loop-next.invariant.unchanged) at (c.in_ok-next-2.ensures.newest modelled));
  lists = λ modelled files chosen listed choice.
      let line = listing_line _ _ _ _ _ _ _ _ _ _ _ _ _ choice refl (rw c.loop-next.invariant.unchanged at (c.in_ok-line.ensures.line modelled)) (rw c.loop-next.invariant.unchanged at (c.in_ok-line.ensures.kind modelled))
      c.in_ok-put.ensures (rw c.in-Some.is at (c.loop-next.invariant.lists modelled files chosen listed choice)) in
      rw (sym c.any_lawful-has_lawful.ensures) at (lined_next _ _ _ _ _ _ _ _ _ _ _ (lined_sent _ _ _ _ _ _ _ _ _ _ _ _ line c.in_ok-send_piece.ensures.report)
      (rw (c.in_ok-line.ensures.unchanged, c.loop-next.invariant.unchanged) at (c.in_ok-next-2.ensures.newest modelled)));
}

pub returns-clause-report : goal.returns-clause-report
returns-clause-report g c = λ modelled files chosen listed choice.
    listing_all _ _ _ _ _ _ _ _ _ (rw c.in_default.is at (c.loop-next.invariant.lists modelled files chosen listed choice))
