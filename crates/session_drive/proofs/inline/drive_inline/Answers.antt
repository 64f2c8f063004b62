use Rattle.std.proofs.Common.{◌≡◌, map}
use Rattle.std.specs.String.{string_bytes}
use Rattle.session_disk.specs.Causes.{Rose}
use Rattle.writer_core.specs.Opening.{disks}
use Rattle.script_run.specs.Doing.{sunk}
use Rattle.session_drive.specs.Run.{Found, found}
use Rattle.session_drive.proofs.DrivenLaws.{driven}
use Rattle.session_drive.proofs.inline.drive_inline.Goals as goal

pub returns : goal.returns
returns g c =
    let history = g.D.SessionDisk.history in
    let failed = g.D.SessionDisk.failed in
    let written = g.K.Sink.written in
    let faults = g.K.Sink.faults in
    let here : Found = found (map string_bytes c.args.words.now) (g.S.Source.left c.args.script.now)
    g.D.SessionDisk.modelled (disks history failed c.args.session c.args.tabs)
    (disks history failed c.attempt-status.result.1 c.attempt-status.result.2) in
    driven here (Rose (g.S.Source.faults c.args.script.now) (g.S.Source.faults c.attempt-status.new.script))
    (sunk written faults c.args.out.now) (sunk written faults c.attempt-status.new.out)
    (sunk written faults c.conclude-status.new.out) (c.attempt-status.new.script ≡ c.args.script.now)
    (c.attempt-status.result.1 ≡ c.args.session) (c.attempt-status.result.2 ≡ c.args.tabs) c.attempt-status.result.0
    c.conclude-status.result c.attempt-status.ensures c.conclude-status.ensures
