use Rattle.session_disk.specs.Causes.{Rose}
use Rattle.snss_inspect.proofs.AnswerLaws.{of_session, of_tabs}
use Rattle.snss_inspect.proofs.inspection.put_ordered.Goals as goal

pub returns-in-Session-clause-cause : goal.returns-in-Session-clause-cause
returns-in-Session-clause-cause g c =
    of_session g.D.SessionDisk.failed (Rose (g.K.Sink.faults c.args.out.now) (g.K.Sink.faults c.put_file.new.out))
    c.args.session.now c.args.tabs.now c.put_file.new.disk c.put_file.result (rw c.in-Session.is at c.put_file.ensures.cause)

pub returns-in-Tabs-clause-cause : goal.returns-in-Tabs-clause-cause
returns-in-Tabs-clause-cause g c =
    of_tabs g.D.SessionDisk.failed (Rose (g.K.Sink.faults c.args.out.now) (g.K.Sink.faults c.put_file-in-Tabs.new.out))
    c.args.session.now c.args.tabs.now c.put_file-in-Tabs.new.disk c.put_file-in-Tabs.result (rw c.in-Tabs.is at c.put_file-in-Tabs.ensures.cause)
