-- Items that were handled and lines that were written, as steps.
use Rattle.std.proofs.Common.{◌≡◌, ℕ, ◌≤◌, List, [], ◌∷◌, map, take, Option, Some, None, Ok, Err, refl, sym, ap, ◌∙◌}
use Rattle.std.proofs.Common.{subst, arith}
use Rattle.std.proofs.lemmas.List.{append-nil, map-append}
use Rattle.machine_law.specs.declared.machine.Machine as machine
use Rattle.session_disk.specs.Causes.{HasCause}
use Rattle.session_disk.specs.Writing.{WritesAll}
use Rattle.session_disk.specs.declared.disk.SessionDisk as disk
use Rattle.session_disk.specs.declared.failure.Failed.{Failed}
use Rattle.session_disk.specs.declared.family.Family.TheVariants.{Session, Tabs}
use Rattle.session_commands.specs.declared.command.SessionCommand.{SessionCommand}
use Rattle.tab_restore_commands.specs.declared.command.TabsCommand.{TabsCommand}
use Rattle.window_state.specs.States.{State as SessionState}
use Rattle.closed_entries.specs.States.{State as ClosedState}
use Rattle.writer_core.specs.Handling.{turn_at}
use Rattle.writer_core.specs.InOrder.{AllDone, StopsAt, StopsIn}
use Rattle.writer_core.specs.Jobs.{session_job, tabs_job}
use Rattle.writer_core.specs.declared.handling.Stopped.{Stopped}
use Rattle.writer_core.proofs.InOrderLaws.{handles_none}
use Rattle.run_words.specs.Outcome.{IsPrefix, sync_line}
use Rattle.script_run.specs.declared.halt.Halt.TheVariants as halt
use Rattle.script_run.specs.Doing.{Sunk, RunWriters, StepsDone, StepsHalted, said_from}
use Rattle.script_run.specs.Families.{RunItem}
use Rattle.script_run.specs.Runs.{Writes, logs}
use Rattle.script_run.specs.Steps.{Step, Handle, Say, items_of}
use Rattle.script_run.proofs.SayingLaws.{writes-nothing}
use Rattle.script_run.proofs.StepLaws.{said-handled}
use Rattle.script_run.proofs.SyncLineLaws.{cut-tells, items-tell, line-tells, memory-tells, none-tells, stop-tells}

-- values, each as an item that is handled
pub steps-of : {C : Type 0} (item_of : C → RunItem) (cs : List C)
    → map Handle (map item_of cs) ≡ map (λ c. Handle (item_of c)) cs
steps-of item_of [] = refl
steps-of item_of (c ∷ cs) = ap (λ steps. Handle (item_of c) ∷ steps) (steps-of item_of cs)

-- a line that was made of two numbers
pub line-of : (line made : List ℕ) (session tabs s t : ℕ) → line ≡ made → made ≡ sync_line session tabs → session ≡ s
    → tabs ≡ t → line ≡ sync_line s t
line-of line made session tabs s t one two e f =
    one ∙ two ∙ ap (λ n. sync_line n tabs) e ∙ ap (λ n. sync_line s n) f

items-same : (items : List RunItem) → items_of (map Handle items) ≡ items
items-same [] = refl
items-same (item ∷ items) = ap (λ later. item ∷ later) (items-same items)

module _ {M N D : Type 0} {m : machine.Ghosts M SessionState SessionCommand}
    {n : machine.Ghosts N ClosedState TabsCommand} {d : disk.Ghosts D} where
  pub done-none : (old : RunWriters M N D m n d) (sink : Sunk) → old.session.failed ≡ None → old.tabs.failed ≡ None
      → StepsDone [] old old sink sink
  done-none old sink session_works tabs_work = record {
    all = handles_none old session_works tabs_work;
    later = omega arith;
    says = λ small. writes-nothing sink.written (λ said. said ≡ []) refl;
    tells = λ modelled run. none-tells old run sink.written;
  }

  -- memory ran out before any of them
  pub halted-first : (steps : List Step) (old : RunWriters M N D m n d) (sink : Sunk) → old.session.failed ≡ None
      → old.tabs.failed ≡ None → StepsHalted steps old old sink sink halt.Memory
  halted-first steps old sink session_works tabs_work = record {
    done = [];
    left = steps;
    parts = refl;
    journals = handles_none old session_works tabs_work;
    later = omega arith;
    cause = tt;
    says = λ small. writes-nothing sink.written (λ said. said ≡ []) refl;
    tells = λ modelled run. memory-tells old run sink.written;
  }

  pub items-done : (items : List RunItem) (old new : RunWriters M N D m n d) (sink : Sunk) → AllDone items old new
      → StepsDone (map Handle items) old new sink sink
  items-done items old new sink all = record {
    all = subst (λ said. AllDone said old new) (sym (items-same items)) all;
    later = omega arith;
    says = λ small. writes-nothing sink.written (λ said. said ≡ said_from (logs old) (map Handle items))
        (sym (said-handled (λ item. item) old.session.present.count old.tabs.present.count items));
    tells = λ modelled run. items-tell old new modelled run items sink.written all;
  }

  pub items-stopped : (items : List RunItem) (old new : RunWriters M N D m n d) (sink : Sunk) (stopped : Stopped)
      → StopsAt items old new stopped → StepsHalted (map Handle items) old new sink sink (halt.Journal stopped)
  items-stopped items old new sink stopped h = record {
    done = map Handle h.before;
    left = Handle h.item ∷ map Handle h.rest;
    parts = sym (map-append Handle h.before (h.item ∷ h.rest)) ∙ ap (map Handle) h.parts;
    journals = record {
      item = h.item;
      rest = map Handle h.rest;
      next = refl;
      session = subst (λ items. StopsIn (map session_job items) (session_job h.item) old.session new.session
          (turn_at Session stopped.family stopped.fault)) (sym (items-same h.before)) h.session;
      tabs = subst (λ items. StopsIn (map tabs_job items) (tabs_job h.item) old.tabs new.tabs
          (turn_at Tabs stopped.family stopped.fault)) (sym (items-same h.before)) h.tabs;
    };
    later = omega arith;
    cause = tt;
    says = λ small. writes-nothing sink.written (λ said. said ≡ said_from (logs old) (map Handle h.before))
        (sym (said-handled (λ item. item) old.session.present.count old.tabs.present.count h.before));
    tells = λ modelled run. stop-tells old new modelled run stopped h.before h.item sink.written h.session h.tabs;
  }

  -- the line of a sync, with the numbers that the journals count, where all of them are told
  module _ (old : RunWriters M N D m n d) (before after : Sunk) (session_works : old.session.failed ≡ None)
      (tabs_work : old.tabs.failed ≡ None) (session_told : old.session.present.told ≡ old.session.present.count)
      (tabs_told : old.tabs.present.told ≡ old.tabs.present.count) (line : List ℕ)
      (counts : line ≡ sync_line old.session.present.count old.tabs.present.count) where
    says-line : line ≡ said_from (logs old) (Say ∷ [])
    says-line = counts ∙ sym (append-nil (sync_line old.session.present.count old.tabs.present.count))

    whole : (T : Type 0) (x : T) (old new : Option (List ℕ)) → WritesAll old new line (Ok x)
        → Writes old new (λ said. said ≡ line)
    whole T x None new h = h
    whole T x (Some before) new h = (line, h, refl)

    cut : (T : Type 0) (e : Failed) (old new : Option (List ℕ)) → WritesAll {T = T} old new line (Err e)
        → Writes old new (λ said. IsPrefix said line)
    cut T e None new h = h
    cut T e (Some before) new (count, within, is) = (take count line, is, (count, within, refl))

    pub line-said : {T : Type 0} (x : T) → WritesAll before.written after.written line (Ok x)
        → before.faults ≤ after.faults → StepsDone (Say ∷ []) old old before after
    line-said {T} x bytes later = record {
      all = handles_none old session_works tabs_work;
      later = later;
      says = λ small. subst (λ said. Writes before.written after.written (λ x. x ≡ said)) says-line
          (whole T x before.written after.written bytes);
      tells = λ modelled run. line-tells old run session_told tabs_told line counts before.written after.written
          (whole T x before.written after.written bytes);
    }

    pub line-cut : (T : Type 0) (e : Failed) → WritesAll {T = T} before.written after.written line (Err e)
        → HasCause {T = T} before.faults after.faults (Err e)
        → StepsHalted (Say ∷ []) old old before after halt.Write
    line-cut T e bytes cause = record {
      done = [];
      left = Say ∷ [];
      parts = refl;
      journals = handles_none old session_works tabs_work;
      later = cause.later;
      cause = cause.failed;
      says = λ small. subst (λ said. Writes before.written after.written (λ x. IsPrefix x said)) says-line
          (cut T e before.written after.written bytes);
      tells = λ modelled run. cut-tells old run session_told tabs_told line counts before.written after.written
          (cut T e before.written after.written bytes);
    }
