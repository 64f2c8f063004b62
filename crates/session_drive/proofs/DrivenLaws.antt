-- A run and its last line together.
use Rattle.std.proofs.Common.{arith}
use Rattle.session_disk.specs.Causes.{Rose}
use Rattle.run_words.specs.declared.status.Status.{Status}
use Rattle.script_run.specs.Doing.{Sunk}
use Rattle.script_run.specs.Runs.{Writes}
use Rattle.session_drive.specs.Attempt.{IsAttempted}
use Rattle.session_drive.specs.Causes.{HasCause}
use Rattle.session_drive.specs.Closing.{Concludes}
use Rattle.session_drive.specs.Driven.{IsDriven}
use Rattle.session_drive.specs.Run.{Found, HoldsScript, IsDone, SaysRun, causes}
use Rattle.session_drive.specs.Telling.{told_by_end}
use Rattle.session_drive.proofs.CauseLaws.{calls_before, closed_before, closed_cause, ended_cause, said_before}
use Rattle.session_drive.proofs.OutputLaws.{closed_said, line_weaken, rose_since, says_all}
use Rattle.session_drive.proofs.TellingLaws.{all-told}
use Rattle.session_drive.proofs.VerdictLaws.{as_verdict}

pub driven : (found : Found) (read : Type 0) (before between after : Sunk)
    (same_source same_session same_tabs : Type 0) (status answer : Status)
    → IsAttempted found read before between same_source same_session same_tabs status
    → Concludes between after status answer
    → IsDriven found read (Rose before.faults after.faults) before.written after.written same_source same_session
    same_tabs answer
driven found read before between after same_source same_session same_tabs status answer a c =
    let early = Rose before.faults between.faults in
    let late = Rose between.faults after.faults in
    let write = Rose before.faults after.faults in
    let since : late → write = rose_since before.faults between.faults after.faults a.later in
    let cause : HasCause (causes found read write) answer =
    ended_cause _ _ found read early write status c.made answer (λ rose. omega (arith, rose, c.later)) since c.closing
    c.said a.run.cause in
    let output : Writes before.written after.written (SaysRun found write answer) =
    says_all found write read early before.written between.written after.written c.made answer
    (closed_cause _ (causes found read early) status c.made c.closing a.run.cause)
    (closed_said found before.written between.written status c.made c.closing a.run.output)
    (line_weaken late write since between.written after.written c.made answer c.output) in
    let first_done : IsDone answer → IsDone status =
    λ done. closed_before _ status c.made c.closing (said_before _ c.made answer c.said done) in
    let done : HoldsScript found answer = λ done. a.run.done (first_done done) in
    record {
      cause = cause;
      output = output;
      done = done;
      picture = λ done. a.run.picture (first_done done);
      verdict = as_verdict found before.written after.written read write answer cause output done;
      crash = a.run.crash;
      tells = λ modelled firsts ready. all-told (told_by_end found) before.written between.written after.written late
          status c.made answer c.closing (a.tells modelled firsts ready) c.output;
      order = a.order;
      not_called = λ calls. a.not_called (calls_before _ _ status c.made answer c.closing c.said calls);
      not_read = a.not_read;
    }
