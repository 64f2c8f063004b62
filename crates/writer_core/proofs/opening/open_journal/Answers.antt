use Rattle.fresh_files.specs.Rotation.{IsMomentOf}
use Rattle.log_writer.specs.Log.{log}
use Rattle.writer_core.specs.Opening.{seen}
use Rattle.writer_core.proofs.OpeningLaws.{opens, refuses}
use Rattle.writer_core.proofs.opening.open_journal.Goals as goal

pub returns-in-Ok-clause-opens : goal.returns-in-Ok-clause-opens
returns-in-Ok-clause-opens g c =
    let j = c.in-Ok.journal in
    let e = c.in-Ok.ensures in
    opens g.M.Machine.kind (IsMomentOf g.C.Clock.modelled (g.C.Clock.moment c.args.clock.now)) g.D.SessionDisk.modelled c.args.limits (seen g.D.SessionDisk.history g.D.SessionDisk.failed c.args.disk)
    (log j) (seen g.D.SessionDisk.history g.D.SessionDisk.failed j.disk) e.works.0 e.works.1 j.in_range e.later e.answers e.makes e.ok e.crash

pub returns-in-Err-clause-refuses : goal.returns-in-Err-clause-refuses
returns-in-Err-clause-refuses g c =
    let e = c.in-Err.ensures in
    refuses g.M.Machine.kind (IsMomentOf g.C.Clock.modelled (g.C.Clock.moment c.args.clock.now)) g.D.SessionDisk.modelled c.args.limits (seen g.D.SessionDisk.history g.D.SessionDisk.failed c.args.disk)
    (seen g.D.SessionDisk.history g.D.SessionDisk.failed c.in-Err.disk) c.in-Err.fault e.answers e.makes e.length e.crash
