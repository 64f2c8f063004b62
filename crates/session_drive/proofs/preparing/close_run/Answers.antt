use Rattle.std.proofs.Common.{◌≡◌, ℕ, ◌∙◌, ap}
use Rattle.session_disk.specs.declared.family.Family.{Family}
use Rattle.writer_core.specs.Opening.{disks, seen}
use Rattle.script_run.specs.Runs.{logs}
use Rattle.session_drive.specs.Answers.{answer_by}
use Rattle.session_drive.proofs.RunLaws.{each}
use Rattle.session_drive.proofs.preparing.close_run.Goals as goal

pub returns : goal.returns
returns g c =
    let history = g.D.SessionDisk.history in
    let failed = g.D.SessionDisk.failed in
    let exit = disks history failed c.close.result c.close-2.result in
    let closed = logs {D = g.row.D.Denot} {d = g.D.SessionDisk} c.args.writers in
    record {
      is = c.answer_by-status.ensures
          ∙ ap (λ (n : ℕ). answer_by c.args.ran n c.count-2.result) c.count.ensures
          ∙ ap (λ (n : ℕ). answer_by c.args.ran c.args.writers.session.present.count n) c.count-2.ensures;
      closed = each (λ (family : Family). exit family
          ≡ record { history = (closed family).history; failures = (closed family).failures })
          (ap (seen history failed) c.close.ensures) (ap (seen history failed) c.close-2.ensures);
    }
