-- How a whole run ends: its line of a start, and its steps behind it.
use Rattle.std.proofs.Common.{◌≡◌, ◌⊎◌, ℕ, ◌+◌, ◌<◌, ◌≤◌, ◌^◌, List, [], ◌++◌, length, Option, Result, Ok, Err}
use Rattle.std.proofs.Common.{IfOk, OnOk, refl, sym, ap, ◌∙◌, subst, inl, inr, arith}
use Rattle.std.proofs.lemmas.List.{append-nil}
use Rattle.compactor.specs.contracts.session.machine.SessionMachineMachine.TheImpl.{ghosts as session_ghosts}
use Rattle.compactor.specs.declared.session.machine.SessionMachine.{SessionMachine}
use Rattle.tabs_compactor.specs.contracts.machine.TabsMachineMachine.TheImpl.{ghosts as tabs_ghosts}
use Rattle.tabs_compactor.specs.declared.machine.TabsMachine.{TabsMachine}
use Rattle.session_disk.specs.Causes.{Rose}
use Rattle.session_disk.specs.declared.disk.SessionDisk as disk
use Rattle.session_disk.specs.declared.family.Family.{Family}
use Rattle.session_disk.specs.declared.family.Family.TheVariants.{Session, Tabs}
use Rattle.writer_core.specs.Working.{HoldsCommands}
use Rattle.writer_core.proofs.WorkLaws.{left_longer}
use Rattle.run_words.specs.Outcome.{IsPrefix, start_line}
use Rattle.run_words.specs.declared.why.Why.{Why}
use Rattle.script_run.specs.declared.halt.Halt.{Halt}
use Rattle.script_run.specs.declared.halt.Halt.TheVariants as halt
use Rattle.script_run.specs.Counts.{counts_of}
use Rattle.script_run.specs.Doing.{Count, DoesSteps, HaltsBehind, RunWriters, SaysDone, StepsDone, StepsHalted, Sunk}
use Rattle.script_run.specs.Doing.{said_from}
use Rattle.script_run.specs.Families.{Firsts, kind_of}
use Rattle.script_run.specs.Runs.{EndsBy, HasHalted, HasRun, HoldsRun, LeavesRun, Logs, RunHalted, RunsScript}
use Rattle.script_run.specs.Runs.{SaysHalted, ShowsPicture, WhereOpened, Writes, logs, said_behind_start, states_of}
use Rattle.script_run.specs.Script.{course_of, steps_of}
use Rattle.script_run.specs.Starting.{Starts}
use Rattle.script_run.specs.Steps.{Step, issued_to, items_of, jobs_of, said_behind, said_by}
use Rattle.script_run.proofs.FamilyLaws.{each}
use Rattle.script_run.proofs.FewLaws.{few-issued}
use Rattle.script_run.proofs.RunLaws.{all-go, cut-at, halted-cause, halted-ends}
use Rattle.script_run.proofs.SayingLaws.{prefix-behind, prefix-of-first, writes-then, writes-weaken}

-- what halts later halts since an earlier moment
halted-since : (old new : Logs) (before between after : ℕ) (why : Halt) → before ≤ between
    → HasHalted (Rose between after) old new why → HasHalted (Rose before after) old new why
halted-since old new before between after (halt.Journal stopped) later h = h
halted-since old new before between after halt.Write later h = omega (arith, later, h)
halted-since old new before between after halt.Memory later h = tt

module _ {D : Type 0} {d : disk.Ghosts D}
    (old new : RunWriters SessionMachine TabsMachine D session_ghosts tabs_ghosts d) (text : List ℕ) where
  abbrev firsts : Firsts
  firsts = states_of (logs old)

  abbrev steps : List Step
  steps = steps_of (states_of (logs old)) text

  -- a run that doesn't come to its steps
  module _ (before after : Sunk) where
    start-says : (why : Halt) → Starts {T = Unit {0}} (start_line (counts_of firsts)) before after (Err why)
        → Writes before.written after.written (SaysHalted d.modelled (logs old) firsts steps why)
    start-says (halt.Journal stopped) h = absurd h.says
    start-says halt.Write h =
        let line = start_line (counts_of firsts) in
        writes-weaken before.written after.written (λ said. IsPrefix said line)
        (SaysHalted d.modelled (logs old) firsts steps halt.Write)
        (λ said cut. prefix-of-first said line (said_by steps) cut) h.says.0
    start-says halt.Memory h =
        let line = start_line (counts_of firsts) in
        writes-weaken before.written after.written (λ said. (said ≡ []) ⊎ (said ≡ line))
        (SaysHalted d.modelled (logs old) firsts steps halt.Memory) (λ said either. by said either) h.says
      where
        by : (said : List ℕ) → (said ≡ []) ⊎ (said ≡ start_line (counts_of firsts))
            → SaysHalted d.modelled (logs old) firsts steps halt.Memory said
        by said (inl none) = inl none
        by said (inr whole) = inr ([], steps, refl, whole ∙ sym (append-nil (start_line (counts_of firsts))))

    start-cause : (why : Halt) → Starts {T = Unit {0}} (start_line (counts_of firsts)) before after (Err why)
        → HasHalted (Rose before.faults after.faults) (logs old) (logs old) why
    start-cause (halt.Journal stopped) h = absurd h.says
    start-cause halt.Write h = h.says.1
    start-cause halt.Memory h = tt

    start-ends : (why : Halt) → Starts {T = Unit {0}} (start_line (counts_of firsts)) before after (Err why)
        → EndsBy d.modelled (logs old) steps why
    start-ends (halt.Journal stopped) h = absurd h.says
    start-ends halt.Write h = tt
    start-ends halt.Memory h = tt

    pub start-halted : (why : Halt) → Starts {T = Unit {0}} (start_line (counts_of firsts)) before after (Err why)
        → RunHalted d.modelled (Rose before.faults after.faults) (logs old) (logs old) text before.written
        after.written why
    start-halted why h = record { cause = start-cause why h; ends = start-ends why h; says = start-says why h }

  pub left-start : LeavesRun d.modelled (logs old) (logs old) text
  left-start = λ modelled b same on family.
      left_longer (kind_of family) (b family) (logs old family).history [] (jobs_of family steps) (on family).left

  -- a run behind its line of a start
  module _ (few : length (items_of (steps_of (states_of (logs old)) text)) < 2 ^ 61)
      (session_empty : old.session.present.count ≡ 0) (tabs_empty : old.tabs.present.count ≡ 0) where
    counts-fit : Count (logs old) steps
    counts-fit = each (λ family. (logs old family).present.count + length (issued_to family steps) < 2 ^ 64)
        (omega (arith, few, few-issued Session steps)) (omega (arith, few, few-issued Tabs steps))

    said-all : (done : List Step) → said_from (logs old) done ≡ said_by done
    said-all done = ap (λ n. said_behind n old.tabs.present.count done) session_empty
        ∙ ap (λ n. said_behind 0 n done) tabs_empty

    module _ (before between after : Sunk)
        (start : Starts {T = Unit {0}} (start_line (counts_of (states_of (logs old)))) before between (Ok tt)) where
      behind-start : (P Q : List ℕ → Type 0) → ((more : List ℕ) → P more → Q (start_line (counts_of firsts) ++ more))
          → Writes between.written after.written P → Writes before.written after.written Q
      behind-start P Q f h =
          writes-then before.written between.written after.written (start_line (counts_of firsts)) P Q f start.says h

      has-run : (refused : Option (ℕ × Why)) → refused ≡ (course_of firsts text).refused
          → StepsDone steps old new between after
          → WhereOpened d.modelled (logs old) (λ b. (family : Family) → HoldsCommands (kind_of family) (b family)
          (logs new family).history (jobs_of family steps)) → ShowsPicture firsts text
          → HasRun d.modelled (logs old) (logs new) text before.written after.written refused
      has-run refused is done holds shows = record {
        refused_is = is;
        says = behind-start (λ said. said ≡ said_from (logs old) steps) (λ said. said ≡ said_behind_start firsts steps)
            (λ more e. ap (λ x. start_line (counts_of firsts) ++ x) (e ∙ said-all steps)) (done.says counts-fit);
        counts = each (λ family. (logs new family).present.count ≡ length (issued_to family steps))
            (omega (arith, done.all.session.answers.1 (counts-fit Session)))
            (omega (arith, done.all.tabs.answers.1 (counts-fit Tabs)));
        holds = holds;
        none_ends = all-go old new steps few done.all;
        shows = shows;
      }

      halted-says : (why : Halt) (done left : List Step) → done ++ left ≡ steps → HaltsBehind why done left old new
          → Writes between.written after.written (SaysDone why (logs old) done left)
          → Writes before.written after.written (SaysHalted d.modelled (logs old) firsts steps why)
      halted-says (halt.Journal stopped) done left parts h says =
          behind-start (λ said. said ≡ said_from (logs old) done)
          (SaysHalted d.modelled (logs old) firsts steps (halt.Journal stopped))
          (λ more e. (
            done,
            cut-at old new steps few stopped done left parts h,
            ap (λ x. start_line (counts_of firsts) ++ x) (e ∙ said-all done),
          )) says
      halted-says halt.Write done left parts h says =
          behind-start (λ said. IsPrefix said (said_from (logs old) (done ++ left)))
          (SaysHalted d.modelled (logs old) firsts steps halt.Write)
          (λ more cut. prefix-behind (start_line (counts_of firsts)) more (said_by steps)
          (subst (IsPrefix more) (ap (said_from (logs old)) parts ∙ said-all steps) cut)) says
      halted-says halt.Memory done left parts h says =
          behind-start (λ said. said ≡ said_from (logs old) done)
          (SaysHalted d.modelled (logs old) firsts steps halt.Memory)
          (λ more e. inr (done, left, parts, ap (λ x. start_line (counts_of firsts) ++ x) (e ∙ said-all done))) says

      run-halted : (why : Halt) → StepsHalted steps old new between after why
          → RunHalted d.modelled (Rose before.faults after.faults) (logs old) (logs new) text before.written
          after.written
          why
      run-halted why h = record {
        cause = halted-since (logs old) (logs new) before.faults between.faults after.faults why start.later
            (halted-cause old new steps between after why h);
        ends = halted-ends old new steps few between after why h;
        says = halted-says why h.done h.left h.parts h.journals (h.says counts-fit);
      }

      -- whatever it answers
      pub run-ends : (ran : Result (Option (ℕ × Why)) Halt)
          → DoesSteps (steps_of (states_of (logs old)) text) old new between after ran
          → IfOk ran (λ refused. refused ≡ (course_of (states_of (logs old)) text).refused)
          → OnOk ran (HoldsRun d.modelled (logs old) (logs new) (steps_of (states_of (logs old)) text))
          → OnOk ran (ShowsPicture (states_of (logs old)) text)
          → RunsScript d.modelled (Rose before.faults after.faults) (logs old) (logs new) text before.written
          after.written ran
      run-ends (Ok refused) did is holds shows = has-run refused is did holds shows
      run-ends (Err why) halted is holds shows = run-halted why halted
