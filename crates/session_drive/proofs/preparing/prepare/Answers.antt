use Rattle.std.proofs.Common.{◌≡◌, map, refl, ap}
use Rattle.std.specs.String.{string_bytes}
use Rattle.session_disk.specs.Causes.{Rose}
use Rattle.session_disk.specs.declared.family.Family.TheVariants.{Session, Tabs}
use Rattle.log_writer.specs.Log.{log}
use Rattle.writer_core.specs.Opening.{Opens, disks}
use Rattle.run_words.specs.declared.status.Status.{Status}
use Rattle.script_run.specs.Families.{kind_of}
use Rattle.script_run.specs.Runs.{logs}
use Rattle.session_drive.specs.Attempt.{IsRefused}
use Rattle.session_drive.specs.Run.{Found, found}
use Rattle.session_drive.proofs.RunLaws.{as_stopped, each, session_refused, tabs_refused, unread}
use Rattle.session_drive.proofs.preparing.prepare.Goals as goal

pub returns-in-Err-clause-refused : goal.returns-in-Err-clause-refused
returns-in-Err-clause-refused g c =
    let entry = disks g.D.SessionDisk.history g.D.SessionDisk.failed c.args.session c.args.tabs in
    unread (found (map string_bytes c.args.words.now) (g.S.Source.left c.args.script.now) g.D.SessionDisk.modelled entry entry)
    (Rose (g.S.Source.faults c.args.script.now) (g.S.Source.faults c.read.new.script)) _ _ c.in-Err.status
    (λ family. refl) refl refl c.in-Err.ensures.read

pub returns-in-Err-open_journal-clause-refused : goal.returns-in-Err-open_journal-clause-refused
returns-in-Err-open_journal-clause-refused g c =
    let entry = disks g.D.SessionDisk.history g.D.SessionDisk.failed c.args.session c.args.tabs in
    let exit = disks g.D.SessionDisk.history g.D.SessionDisk.failed c.in-Err-open_journal.session c.args.tabs in
    let here : Found = found (map string_bytes c.args.words.now) (g.S.Source.left c.args.script.now) g.D.SessionDisk.modelled entry exit in
    as_stopped (λ (s : Status). IsRefused here
    (Rose (g.S.Source.faults c.args.script.now) (g.S.Source.faults c.read.new.script))
    (c.in-Err-open_journal.session ≡ c.args.session) (c.args.tabs ≡ c.args.tabs) s)
    c.status_of.result c.in-Err-open_journal.stopped Session c.status_of.ensures c.in-Err-open_journal.ensures.family
    (session_refused here c.in-Ok.task.limits c.in-Ok.task.text.items c.in-Ok.ensures.read _ _ _
    c.in-Err-open_journal.stopped.fault c.in-Err-open_journal.ensures.refuses refl refl)

pub returns-in-Err-open_journal-2-clause-refused : goal.returns-in-Err-open_journal-2-clause-refused
returns-in-Err-open_journal-2-clause-refused g c =
    let entry = disks g.D.SessionDisk.history g.D.SessionDisk.failed c.args.session c.args.tabs in
    let exit = disks g.D.SessionDisk.history g.D.SessionDisk.failed c.close.result c.in-Err-open_journal-2.tabs in
    let here : Found = found (map string_bytes c.args.words.now) (g.S.Source.left c.args.script.now) g.D.SessionDisk.modelled entry exit in
    as_stopped (λ (s : Status). IsRefused here
    (Rose (g.S.Source.faults c.args.script.now) (g.S.Source.faults c.read.new.script))
    (c.close.result ≡ c.args.session) (c.in-Err-open_journal-2.tabs ≡ c.args.tabs) s)
    c.status_of-in-Err-open_journal-2.result c.in-Err-open_journal-2.stopped Tabs
    c.status_of-in-Err-open_journal-2.ensures c.in-Err-open_journal-2.ensures.family
    (tabs_refused here c.in-Ok.task.limits c.in-Ok.task.text.items c.in-Ok.ensures.read _ _ _
    c.in-Err-open_journal-2.stopped.fault (log c.in-Ok-open_journal.journal) c.in-Ok-open_journal.ensures.opens
    (ap g.D.SessionDisk.history c.close.ensures) c.in-Err-open_journal-2.ensures.refuses)

pub returns-clause-prepared : goal.returns-clause-prepared
returns-clause-prepared g c =
    let entry = disks g.D.SessionDisk.history g.D.SessionDisk.failed c.args.session c.args.tabs in
    let opened = logs {D = g.row.D.Denot} {d = g.D.SessionDisk}
    (record { session = c.in-Ok-open_journal.journal; tabs = c.in-Ok-open_journal-2.journal }) in
    record {
      limits = c.in-Ok.task.limits;
      script = c.in-Ok.ensures.read;
      opens = each (λ family. Opens (kind_of family) g.D.SessionDisk.modelled c.in-Ok.task.limits (entry family)
          (opened family)) c.in-Ok-open_journal.ensures.opens c.in-Ok-open_journal-2.ensures.opens;
    }
