-- A run but for its last line: one that is refused before its script, and one whose script was run by any means.
use Rattle.std.proofs.Common.{ℕ, List, Option, Ok, Err, sym, subst, inr, arith}
use Rattle.session_disk.specs.Causes.{Rose}
use Rattle.session_disk.specs.declared.disk.SessionDisk as disk
use Rattle.session_disk.specs.declared.family.Family.{Family}
use Rattle.session_disk.specs.declared.family.Family.TheVariants.{Session, Tabs}
use Rattle.log_writer.specs.Opening.{Seen}
use Rattle.run_words.specs.declared.status.Status.{Status}
use Rattle.run_words.specs.Words.{order_of}
use Rattle.script_run.specs.declared.halt.Halt.TheVariants as halt
use Rattle.script_run.specs.Doing.{Sunk}
use Rattle.script_run.specs.Runs.{Logs, RunsScript, logs}
use Rattle.script_run.specs.Whole.{Ran, RunsOver, RunsWhole}
use Rattle.script_run.proofs.SayingLaws.{writes-nothing}
use Rattle.session_drive.specs.Answers.{IsFirstOf}
use Rattle.session_drive.specs.Attempt.{IsAttempted, IsRefused, IsRunOf, SaysFirst}
use Rattle.session_drive.specs.Prepared.{Closes, IsPrepared}
use Rattle.session_drive.specs.Run.{CallsNoDisk, Found, ReadsNone, causes, found}
use Rattle.session_drive.specs.Telling.{TellsFirst, told_by_end}
use Rattle.session_drive.proofs.CauseLaws.{cause_implied, first_fault, run_calls}
use Rattle.session_drive.proofs.RunLaws.{opened, ran}
use Rattle.session_drive.proofs.TellingLaws.{nothing-told, script-tells}

-- what is refused writes nothing
pub refused : (found : Found) (read : Type 0) (sink : Sunk) (same_source same_session same_tabs : Type 0)
    (status : Status) → IsRefused found read same_session same_tabs status
    → (ReadsNone (order_of found.words) → same_source)
    → IsAttempted found read sink sink same_source same_session same_tabs status
refused found read sink same_source same_session same_tabs status r source = record {
  run = record {
    cause = cause_implied (causes found read ⊥) (causes found read (Rose sink.faults sink.faults)) (record {
      usage = λ h. h;
      read = λ h. h;
      write = λ h. absurd h;
      long_script = λ needed h. h;
      answered = λ answer h. h;
      disk = λ family h. h;
      long_file = λ family needed h. h;
      last_stamp = λ family stamp h. h;
    }) status r.cause;
    output = writes-nothing sink.written (SaysFirst found status) r.says_none;
    done = λ done. absurd (r.undone done);
    picture = λ done. absurd (r.undone done);
    crash = r.crash;
  };
  tells = λ modelled firsts ready. nothing-told (told_by_end found) sink.written status;
  order = r.order;
  not_called = r.not_called;
  not_read = source;
  later = omega arith;
}

-- a journal that halts a run hadn't failed before it
pub first : (modelled failed : Type 0) (old new : Logs) (text : List ℕ) (before after : Sunk) (ran : Ran)
    → RunsScript modelled failed old new text before.written after.written ran → IsFirstOf ran
first modelled failed old new text before after (Ok refused) h = tt
first modelled failed old new text before after (Err (halt.Journal stopped)) h =
    first_fault (old stopped.family).limits.max_file (old stopped.family).failures (new stopped.family).failures
    stopped.fault h.cause
first modelled failed old new text before after (Err halt.Write) h = tt
first modelled failed old new text before after (Err halt.Memory) h = tt

-- The script was run over journals that were opened, which were closed behind it.
pub attempted : {D : Type 0} {d : disk.Ghosts D} (words : List (List ℕ)) (left : Option (List ℕ))
    (entry exit : Family → Seen) (read same_source same_session same_tabs : Type 0) (old new : RunsOver D d)
    (text : List ℕ) (before after : Sunk) (answer : Ran) (status : Status)
    → IsPrepared (order_of words) left text d.modelled entry (logs old) → RunsWhole old text new before after answer
    → Closes (logs new) answer exit status → (ReadsNone (order_of words) → same_source)
    → IsAttempted (found words left d.modelled entry exit) read before after same_source same_session same_tabs status
attempted {D} {d} words left entry exit read same_source same_session same_tabs old new text before after answer status p whole closes source =
    let here : Found = found words left d.modelled entry exit in
    let session = (logs new Session).present.count in
    let tabs = (logs new Tabs).present.count in
    let write = Rose before.faults after.faults in
    let account = opened here p.limits text p.script Session (logs old Session) (p.opens Session) in
    record {
      run = subst (IsRunOf here read write before.written after.written) (sym closes.is)
          (ran here p.limits text p.script (logs old) (logs new) p.opens closes.closed read write before.written
          after.written whole.crash answer whole.runs);
      tells = subst (TellsFirst here before.written after.written) (sym closes.is)
          (script-tells here p.limits (logs old) (logs new) p.opens closes.closed before.written after.written answer
          whole.tells);
      order = inr account;
      not_called = λ calls. absurd (run_calls answer session tabs (subst CallsNoDisk closes.is calls));
      not_read = source;
      later = whole.later;
    }
