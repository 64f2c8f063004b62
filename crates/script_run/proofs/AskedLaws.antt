-- Commands of the session, those of the tabs, and further steps behind them: all are done, or the run halts among them.
use Rattle.std.proofs.Common.{◌≡◌, Bool, true, false, List, [], ◌++◌, map, append_assoc, refl, subst}
use Rattle.machine_law.specs.declared.machine.Machine as machine
use Rattle.session_disk.specs.declared.disk.SessionDisk as disk
use Rattle.session_disk.specs.declared.family.Family.TheVariants.{Tabs}
use Rattle.session_commands.specs.declared.command.SessionCommand.{SessionCommand}
use Rattle.tab_restore_commands.specs.declared.command.TabsCommand.{TabsCommand}
use Rattle.window_state.specs.States.{State as SessionState}
use Rattle.closed_entries.specs.States.{State as ClosedState}
use Rattle.writer_core.specs.InOrder.{AllDone, StopsAt}
use Rattle.writer_core.specs.declared.handling.Stopped.{Stopped}
use Rattle.writer_core.specs.declared.item.Item.TheVariants as item
use Rattle.script_run.specs.declared.asking.Work.{Work}
use Rattle.script_run.specs.declared.halt.Halt.{Halt}
use Rattle.script_run.specs.declared.halt.Halt.TheVariants as halt
use Rattle.script_run.specs.Acting.{command_steps, compaction_steps, work_steps}
use Rattle.script_run.specs.Doing.{Sunk, RunWriters, StepsDone, StepsHalted}
use Rattle.script_run.specs.Families.{RunItem}
use Rattle.script_run.specs.Steps.{Step, Handle, issued_to}
use Rattle.script_run.proofs.DoingLaws.{done-then, halted-then, halted-longer}
use Rattle.script_run.proofs.HandledLaws.{items-done, items-stopped, steps-of}
use Rattle.script_run.proofs.OutcomeSteps.{tabs-commands}

compaction-none : (compacts : Bool) → issued_to Tabs (compaction_steps compacts) ≡ []
compaction-none true = refl
compaction-none false = refl

pub work-tabs : (work : Work) → issued_to Tabs (work_steps work) ≡ work.tabs.items
work-tabs work = tabs-commands work.session.items work.tabs.items (compaction_steps work.compacts)
    (compaction-none work.compacts)

abbrev pub steps_of_session : List SessionCommand → List Step
steps_of_session commands = map (λ command. Handle (item.Session command)) commands

abbrev pub steps_of_tabs : List TabsCommand → List Step
steps_of_tabs commands = map (λ command. Handle (item.Tabs command)) commands

module _ {M N D : Type 0} {m : machine.Ghosts M SessionState SessionCommand}
    {n : machine.Ghosts N ClosedState TabsCommand} {d : disk.Ghosts D} where
  -- values, each as an item
  module _ {C : Type 0} (item_of : C → RunItem) (cs : List C) (old new : RunWriters M N D m n d) (sink : Sunk) where
    pub each-done : AllDone (map item_of cs) old new → StepsDone (map (λ c. Handle (item_of c)) cs) old new sink sink
    each-done all = subst (λ steps. StepsDone steps old new sink sink) (steps-of item_of cs)
        (items-done (map item_of cs) old new sink all)

    pub each-stopped : (stopped : Stopped) → StopsAt (map item_of cs) old new stopped
        → StepsHalted (map (λ c. Handle (item_of c)) cs) old new sink sink (halt.Journal stopped)
    each-stopped stopped h = subst (λ steps. StepsHalted steps old new sink sink (halt.Journal stopped))
        (steps-of item_of cs) (items-stopped (map item_of cs) old new sink stopped h)

  module _ (session : List SessionCommand) (tabs : List TabsCommand) where
    pub session-stopped : (old new : RunWriters M N D m n d) (sink : Sunk) (stopped : Stopped)
        → StopsAt (map item.Session session) old new stopped
        → StepsHalted (command_steps session tabs) old new sink sink (halt.Journal stopped)
    session-stopped old new sink stopped h =
        halted-longer (steps_of_session session) (steps_of_tabs tabs) old new sink sink (halt.Journal stopped)
        (each-stopped item.Session session old new sink stopped h)

    pub tabs-stopped : (old mid new : RunWriters M N D m n d) (sink : Sunk) (stopped : Stopped)
        → AllDone (map item.Session session) old mid → StopsAt (map item.Tabs tabs) mid new stopped
        → StepsHalted (command_steps session tabs) old new sink sink (halt.Journal stopped)
    tabs-stopped old mid new sink stopped one h =
        halted-then (steps_of_session session) (steps_of_tabs tabs) old mid new sink sink sink (halt.Journal stopped)
        (each-done item.Session session old mid sink one) (each-stopped item.Tabs tabs mid new sink stopped h)

    pub both-done : (old mid new : RunWriters M N D m n d) (sink : Sunk) → AllDone (map item.Session session) old mid
        → AllDone (map item.Tabs tabs) mid new → StepsDone (command_steps session tabs) old new sink sink
    both-done old mid new sink one two =
        done-then (steps_of_session session) (steps_of_tabs tabs) old mid new sink sink sink
        (each-done item.Session session old mid sink one) (each-done item.Tabs tabs mid new sink two)

    -- and further steps behind them
    module _ (more : List Step) (old mid new : RunWriters M N D m n d) (before after : Sunk) where
      all-steps : command_steps session tabs ++ more ≡ steps_of_session session ++ (steps_of_tabs tabs ++ more)
      all-steps = append_assoc (steps_of_session session) (steps_of_tabs tabs) more

      pub commands-halted : (why : Halt) → StepsHalted (command_steps session tabs) old mid before before why
          → StepsHalted (steps_of_session session ++ (steps_of_tabs tabs ++ more)) old mid before before why
      commands-halted why h = subst (λ steps. StepsHalted steps old mid before before why) all-steps
          (halted-longer (command_steps session tabs) more old mid before before why h)

      pub asked-done : StepsDone (command_steps session tabs) old mid before before
          → StepsDone more mid new before after
          → StepsDone (steps_of_session session ++ (steps_of_tabs tabs ++ more)) old new before after
      asked-done one two = subst (λ steps. StepsDone steps old new before after) all-steps
          (done-then (command_steps session tabs) more old mid new before before after one two)

      pub asked-halted : (why : Halt) → StepsDone (command_steps session tabs) old mid before before
          → StepsHalted more mid new before after why
          → StepsHalted (steps_of_session session ++ (steps_of_tabs tabs ++ more)) old new before after why
      asked-halted why one two = subst (λ steps. StepsHalted steps old new before after why) all-steps
          (halted-then (command_steps session tabs) more old mid new before before after why one two)
