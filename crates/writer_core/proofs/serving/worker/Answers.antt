use Rattle.std.proofs.Common.{None, refl}
use Rattle.writer_core.specs.declared.serving.Report.{Report}
use Rattle.writer_core.proofs.ServingLaws.{first_report, last_turn, no_turn, one_turn_more}
use Rattle.writer_core.proofs.serving.worker.Goals as goal

pub loop-init : goal.loop-init
loop-init g c =
    let r : Report g.row.S.Denot g.row.T.Denot g.row.D.Denot g.row.S-State.Denot g.row.S-Command.Denot g.row.T-State.Denot g.row.T-Command.Denot g.S.Machine g.T.Machine g.D.SessionDisk = record { writers = c.args.writers; pass = c.args.pass; seat = c.args.seat; stopped = None } in (
      first_report c.args.queue.now c.args.board.now r c.requires.pass c.requires.seat c.requires.none_posted refl c.requires.session_works c.requires.tabs_work c.requires.session_counted c.requires.tabs_counted,
      no_turn r refl c.requires.session_works c.requires.tabs_work,
    )

pub loop-preserved : goal.loop-preserved
loop-preserved g c =
    (c.serve-next.ensures.report, one_turn_more c.args.writers c.args.pass c.loop.report c.serve-next.result.0 c.serve-next.result.1 c.loop.invariant.1 c.serve-next.ensures.served c.if-is_end.false)

pub returns-then-is_end-clause-ran : goal.returns-then-is_end-clause-ran
returns-then-is_end-clause-ran g c =
    last_turn c.args.writers c.args.pass c.loop.report c.serve-next.result.0 c.serve-next.result.1 c.loop.invariant.1 c.serve-next.ensures.served c.if-is_end.true
