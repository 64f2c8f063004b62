-- A whole run: its start, its lines, and all that is said of both.
use Rattle.std.specs.Prelude.{◌≡◌, ℕ, ◌≤◌, List, Option, Result, Ok, IfOk, OnOk}
use Rattle.session_disk.specs.Causes.{Rose}
use Rattle.session_disk.specs.declared.disk.SessionDisk as disk
use Rattle.session_disk.specs.declared.family.Family.TheVariants.{Session, Tabs}
use Rattle.compactor.specs.contracts.session.machine.SessionMachineMachine.TheImpl.{ghosts as session_ghosts}
use Rattle.compactor.specs.declared.session.machine.SessionMachine.{SessionMachine}
use Rattle.tabs_compactor.specs.contracts.machine.TabsMachineMachine.TheImpl.{ghosts as tabs_ghosts}
use Rattle.tabs_compactor.specs.declared.machine.TabsMachine.{TabsMachine}
use Rattle.window_state.specs.States as window_state
use Rattle.closed_entries.specs.States as closed_entries
use Rattle.browser_model.specs.Browsers.{Browser}
use Rattle.log_writer.specs.Answers.{Lasts}
use Rattle.script_lines.specs.Lines.{lines}
use Rattle.writer_core.specs.Synced.{BothSynced}
use Rattle.run_words.specs.declared.why.Why.{Why}
use Rattle.run_words.specs.Outcome.{start_line}
use Rattle.script_run.specs.declared.halt.Halt.{Halt}
use Rattle.script_run.specs.declared.run_state.RunState.{RunState}
use Rattle.script_run.specs.Closed.{LeadsClosed}
use Rattle.script_run.specs.Counts.{counts_of}
use Rattle.script_run.specs.Doing.{DoesSteps, RunWriters, StepsDone, Sunk}
use Rattle.script_run.specs.Runs.{LeavesRun, RunsScript, logs, states_of}
use Rattle.script_run.specs.Script.{course_from, first_browser, synced_course, tidying_steps}
use Rattle.script_run.specs.Starting.{Starts}
use Rattle.script_run.specs.Steps.{issued_to, items_of}
use Rattle.script_run.specs.SyncLines.{TellsRun}

-- the first line that is refused, with the reason, or why a run halts
abbrev pub Ran : Type 0
Ran = Result (Option (ℕ × Why)) Halt

-- the journals of both families over disks of one type
abbrev pub RunsOver : (D : Type 0) → disk.Ghosts D → Type 0
RunsOver D d = RunWriters SessionMachine TabsMachine D session_ghosts tabs_ghosts d

module _ {D : Type 0} {d : disk.Ghosts D} where
  -- the line of a start was written, and both states were tidied
  pub record HasStarted (old : RunsOver D d) (state : RunState D d) (before after : Sunk) : Type 0 where
    pub starts : Starts {T = Unit {0}} (start_line (counts_of (states_of (logs old)))) before after (Ok tt)
    pub tidied : (sink : Sunk) → StepsDone (tidying_steps (states_of (logs old))) old state.writers sink sink
    pub browser : state.browser ≡ first_browser (states_of (logs old))
    pub none_read : state.number ≡ 0
    pub session_is : window_state.IsState (states_of (logs old) Session)
    pub tabs_is : closed_entries.IsState (states_of (logs old) Tabs)

  -- the lines of a script were acted on and written from this browser on, with a last sync
  pub record RunsLines (text : List ℕ) (first : Browser) (old new : RunsOver D d) (before after : Sunk) (ran : Ran)
      : Type 0 where
    pub steps : DoesSteps (synced_course (course_from 1 first (lines text))) old new before after ran
    pub synced : OnOk ran (BothSynced (items_of (synced_course (course_from 1 first (lines text)))) old new)
    pub refused : IfOk ran (λ refused. refused ≡ (course_from 1 first (lines text)).refused)
    pub closed : OnOk ran (LeadsClosed first (issued_to Tabs (course_from 1 first (lines text)).steps)
        (course_from 1 first (lines text)).last)

  -- A script was run, over journals that had counted and told nothing.
  pub record RunsWhole (old : RunsOver D d) (text : List ℕ) (new : RunsOver D d) (before after : Sunk) (ran : Ran)
      : Type 0 where
    pub later : before.faults ≤ after.faults
    pub session_later : Lasts old.session new.session
    pub tabs_later : Lasts old.tabs new.tabs
    -- What was done, written and told, or why the run halts; a journal refuses exactly where its account says so.
    pub runs : RunsScript d.modelled (Rose before.faults after.faults) (logs old) (logs new) text before.written
        after.written ran
    -- No line of a sync says more than the disks have been told, whatever the answer is.
    pub tells : TellsRun d.modelled (logs old) (logs new) before.written after.written ran
    -- A crash at any moment of the call leaves on each disk files that read to the state after some prefix of the
    -- family's commands, with every told one in it, and each foreign file.
    pub crash : LeavesRun d.modelled (logs old) (logs new) text
