-- A whole run: the steps of tidying, those of its lines with the last sync, and all that is said of both.
use Rattle.std.proofs.Common.{◌≡◌, ℕ, ◌<◌, ◌≤◌, ◌^◌, List, [], length, Option, Result, Ok, Err, IfOk, OnOk}
use Rattle.std.proofs.Common.{sym, ap, subst, arith}
use Rattle.std.proofs.lemmas.List.{length-map}
use Rattle.compactor.specs.contracts.session.machine.SessionMachineMachine.TheImpl.{ghosts as session_ghosts}
use Rattle.compactor.specs.declared.session.machine.SessionMachine.{SessionMachine}
use Rattle.tabs_compactor.specs.contracts.machine.TabsMachineMachine.TheImpl.{ghosts as tabs_ghosts}
use Rattle.tabs_compactor.specs.declared.machine.TabsMachine.{TabsMachine}
use Rattle.session_disk.specs.declared.disk.SessionDisk as disk
use Rattle.session_disk.specs.declared.family.Family.TheVariants.{Session, Tabs}
use Rattle.window_state.specs.States as window_state
use Rattle.closed_entries.specs.States as closed_entries
use Rattle.browser_model.specs.Browsers.{Browser}
use Rattle.script_lines.specs.Lines.{lines}
use Rattle.writer_core.specs.Jobs.{session_job, tabs_job}
use Rattle.writer_core.specs.Synced.{BothSynced}
use Rattle.writer_core.specs.Working.{HoldsCommands}
use Rattle.writer_core.proofs.AnswerLaws.{later_still}
use Rattle.writer_core.proofs.SyncedLaws.{both_synced_then}
use Rattle.run_words.specs.Outcome.{start_line}
use Rattle.run_words.specs.declared.why.Why.{Why}
use Rattle.script_run.specs.declared.halt.Halt.{Halt}
use Rattle.script_run.specs.declared.run_state.RunState.{RunState}
use Rattle.script_run.specs.Closed.{LeadsClosed}
use Rattle.script_run.specs.Counts.{counts_of}
use Rattle.script_run.specs.Doing.{DoesSteps, RunWriters, StepsDone, StepsHalted, Sunk}
use Rattle.script_run.specs.Families.{kind_of}
use Rattle.script_run.specs.Runs.{HoldsRun, logs, states_of}
use Rattle.script_run.specs.Script.{Course, course_from, course_of, first_browser, steps_of, synced_course}
use Rattle.script_run.specs.Script.{tidying_steps}
use Rattle.script_run.specs.SegmentWriting.{CanWrite}
use Rattle.script_run.specs.Starting.{Starts}
use Rattle.script_run.specs.Steps.{Step, issued_to, items_of, jobs_of}
use Rattle.script_run.specs.SyncLines.{told_of}
use Rattle.script_run.specs.Whole.{HasStarted, Ran, RunsLines, RunsOver, RunsWhole}
use Rattle.script_run.proofs.DoingLaws.{does-later, does-then, halted-longer}
use Rattle.script_run.proofs.EndLaws.{left-start, run-ends, start-halted}
use Rattle.script_run.proofs.FamilyLaws.{each}
use Rattle.script_run.proofs.FewLaws.{few-steps}
use Rattle.script_run.proofs.PictureLaws.{picture-shown}
use Rattle.script_run.proofs.RunLaws.{left-run, run-lasts}
use Rattle.script_run.proofs.SyncLineLaws.{run-tells, start-tells}
use Rattle.script_run.proofs.StepLaws.{items-append}

module _ {D : Type 0} {d : disk.Ghosts D} where
  -- both disks hold the commands of steps behind which both journals are synced
  holds-synced : (steps : List Step) (old new : RunWriters SessionMachine TabsMachine D session_ghosts tabs_ghosts d)
      → length (items_of steps) < 2 ^ 61 → BothSynced (items_of steps) old new
      → HoldsRun d.modelled (logs old) (logs new) steps
  holds-synced steps old new few synced = λ modelled b same on.
      each (λ family. HoldsCommands (kind_of family) (b family) (logs new family).history (jobs_of family steps))
      (synced.session.holds modelled (b Session) [] (same Session)
      (omega (arith, few, length-map (items_of steps) session_job)) (on Session))
      (synced.tabs.holds modelled (b Tabs) [] (same Tabs)
      (omega (arith, few, length-map (items_of steps) tabs_job)) (on Tabs))

  module _ (old : RunWriters SessionMachine TabsMachine D session_ghosts tabs_ghosts d) (text : List ℕ) (b : Browser)
      (begun : b ≡ first_browser (states_of (logs old))) where
    abbrev tidying : List Step
    tidying = tidying_steps (states_of (logs old))

    abbrev course : Course
    course = course_of (states_of (logs old)) text

    pub same-course : course_from 1 b (lines text) ≡ course_of (states_of (logs old)) text
    same-course = ap (λ x. course_from 1 x (lines text)) begun

    module _ (mid new : RunWriters SessionMachine TabsMachine D session_ghosts tabs_ghosts d) (before after : Sunk)
        (tidied : StepsDone (tidying_steps (states_of (logs old))) old mid before before)
        (ran : Result (Option (ℕ × Why)) Halt) where
      pub all-did : DoesSteps (synced_course (course_from 1 b (lines text))) mid new before after ran
          → DoesSteps (steps_of (states_of (logs old)) text) old new before after ran
      all-did h =
          does-then tidying (synced_course course) old mid new before before after ran tidied
          (subst (λ c. DoesSteps (synced_course c) mid new before after ran) same-course h)

      pub all-held : length (items_of (steps_of (states_of (logs old)) text)) < 2 ^ 61
          → OnOk ran (BothSynced (items_of (synced_course (course_from 1 b (lines text)))) mid new)
          → OnOk ran (HoldsRun d.modelled (logs old) (logs new) (steps_of (states_of (logs old)) text))
      all-held few = by ran
        where
          by : (ran : Result (Option (ℕ × Why)) Halt)
              → OnOk ran (BothSynced (items_of (synced_course (course_from 1 b (lines text)))) mid new)
              → OnOk ran (HoldsRun d.modelled (logs old) (logs new) (steps_of (states_of (logs old)) text))
          by (Ok refused) synced =
              holds-synced (steps_of (states_of (logs old)) text) old new few
              (subst (λ items. BothSynced items old new) (sym (items-append tidying (synced_course course)))
              (both_synced_then (items_of tidying) (items_of (synced_course course)) old mid new tidied.all
              (subst (λ c. BothSynced (items_of (synced_course c)) mid new) same-course synced)))
          by (Err why) synced = tt

  -- all that is said of a run
  module _ (old : RunsOver D d) (before : Sunk) where
    abbrev line : List ℕ
    line = start_line (counts_of (states_of (logs old)))

    -- it halts before its steps
    pub start-halts : (after : Sunk) (why : Halt)
        → Starts {T = Unit {0}} (start_line (counts_of (states_of (logs old)))) before after (Err why)
        → (text : List ℕ) → RunsWhole old text old before after (Err why)
    start-halts after why starts text = record {
      later = starts.later;
      session_later = later_still (logs old Session);
      tabs_later = later_still (logs old Tabs);
      runs = start-halted old old text before after why starts;
      tells = λ modelled run. start-tells line (told_of (logs old)) (Option (ℕ × Why)) why before after starts;
      crash = left-start old old text;
    }

    module _ (session_empty : old.session.present.count ≡ 0) (tabs_empty : old.tabs.present.count ≡ 0)
        (between after : Sunk)
        (starts : Starts {T = Unit {0}} (start_line (counts_of (states_of (logs old)))) before between (Ok tt))
        (session_is : window_state.IsState (states_of (logs old) Session))
        (tabs_is : closed_entries.IsState (states_of (logs old) Tabs)) (text : List ℕ)
        (short : length text ≤ 2 ^ 30) (new : RunsOver D d) where
      runs-steps : (ran : Ran) → DoesSteps (steps_of (states_of (logs old)) text) old new between after ran
          → IfOk ran (λ refused. refused ≡ (course_of (states_of (logs old)) text).refused)
          → OnOk ran (HoldsRun d.modelled (logs old) (logs new) (steps_of (states_of (logs old)) text))
          → OnOk ran (LeadsClosed (first_browser (states_of (logs old)))
          (issued_to Tabs (course_of (states_of (logs old)) text).steps) (course_of (states_of (logs old)) text).last)
          → RunsWhole old text new before after ran
      runs-steps ran steps refused holds closed =
          let firsts = states_of (logs old) in
          let few = few-steps firsts text session_is short in
          let lasts = run-lasts old new (steps_of firsts text) between after ran steps in record {
            later = omega (arith, starts.later, does-later (steps_of firsts text) old new between after ran steps);
            session_later = lasts.0;
            tabs_later = lasts.1;
            runs = run-ends old new text few session_empty tabs_empty before between after starts ran steps refused
                holds (picture-shown firsts text session_is tabs_is ran closed);
            tells = λ modelled run. run-tells line old new modelled run before.written between after starts.says
                (steps_of firsts text) ran steps;
            crash = left-run old new (steps_of firsts text) few between after ran steps;
          }

      -- it halts while both states are tidied
      pub tidying-halts : (why : Halt) → StepsHalted (tidying_steps (states_of (logs old))) old new between after why
          → RunsWhole old text new before after (Err why)
      tidying-halts why halted =
          runs-steps (Err why)
          (halted-longer (tidying_steps (states_of (logs old))) (synced_course (course_of (states_of (logs old)) text))
          old new between after why halted) tt tt tt

  -- a run that has started, and all its lines behind that
  module _ (old : RunsOver D d) (session_empty : old.session.present.count ≡ 0)
      (tabs_empty : old.tabs.present.count ≡ 0) (state : RunState D d) (before between : Sunk)
      (started : HasStarted old state before between) (text : List ℕ) (short : length text ≤ 2 ^ 30) where
    pub can-begin : old.session.present.told ≡ 0 → old.tabs.present.told ≡ 0 → CanWrite state text
    can-begin session_untold tabs_untold =
        let did = started.tidied between in record {
          session_works = did.all.session.answers.0;
          tabs_work = did.all.tabs.answers.0;
          session_counted = did.all.session.counted (omega (arith, session_untold), omega (arith, session_empty));
          tabs_counted = did.all.tabs.counted (omega (arith, tabs_untold), omega (arith, tabs_empty));
          short = omega (arith, short, started.none_read);
        }

    pub lines-whole : (new : RunsOver D d) (after : Sunk) (ran : Ran)
        → RunsLines text state.browser state.writers new between after ran → RunsWhole old text new before after ran
    lines-whole new after ran lines_run =
        let firsts = states_of (logs old) in
        let begun = started.browser in
        let few = few-steps firsts text started.session_is short in
        runs-steps old before session_empty tabs_empty between after started.starts started.session_is started.tabs_is
        text short new ran
        (all-did old text state.browser begun state.writers new between after (started.tidied between) ran
        lines_run.steps)
        (subst (λ (course : Course). IfOk ran (λ refused. refused ≡ course.refused))
        (same-course old text state.browser begun) lines_run.refused)
        (all-held old text state.browser begun state.writers new between after (started.tidied between) ran few
        lines_run.synced)
        (subst (λ b. OnOk ran (LeadsClosed b (issued_to Tabs (course_from 1 b (lines text)).steps)
        (course_from 1 b (lines text)).last)) begun lines_run.closed)
