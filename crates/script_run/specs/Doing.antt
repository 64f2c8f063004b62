-- What steps make of the journals and of the sink: all are done, or the run halts behind some of them.
use Rattle.std.specs.Prelude.{◌≡◌, ℕ, ◌+◌, ◌<◌, ◌≤◌, ◌^◌, List, ◌∷◌, ◌++◌, length, map, Option, Result, Ok, Err}
use Rattle.machine_law.specs.declared.machine.Machine as machine
use Rattle.session_disk.specs.Causes.{Rose}
use Rattle.session_disk.specs.declared.disk.SessionDisk as disk
use Rattle.session_disk.specs.declared.family.Family.{Family}
use Rattle.session_disk.specs.declared.family.Family.TheVariants.{Session, Tabs}
use Rattle.session_commands.specs.declared.command.SessionCommand.{SessionCommand}
use Rattle.tab_restore_commands.specs.declared.command.TabsCommand.{TabsCommand}
use Rattle.window_state.specs.States.{State as SessionState}
use Rattle.closed_entries.specs.States.{State as ClosedState}
use Rattle.writer_core.specs.Handling.{turn_at}
use Rattle.writer_core.specs.InOrder.{AllDone, StopsIn}
use Rattle.writer_core.specs.Jobs.{session_job, tabs_job}
use Rattle.writer_core.specs.declared.handling.Stopped.{Stopped}
use Rattle.writer_core.specs.declared.handling.Writers.{Writers}
use Rattle.run_words.specs.Outcome.{IsPrefix}
use Rattle.script_run.specs.declared.halt.Halt.{Halt}
use Rattle.script_run.specs.declared.halt.Halt.TheVariants as halt
use Rattle.script_run.specs.Families.{RunItem}
use Rattle.script_run.specs.Runs.{Logs, Writes, logs}
use Rattle.script_run.specs.Steps.{Step, Handle, issued_to, items_of, said_behind}
use Rattle.script_run.specs.SyncLines.{BothRun, TellsDone, TellsHalted}

-- a sink, by what its type says of it
pub record Sunk : Type 0 where
  pub written : Option (List ℕ)
  pub faults : ℕ

abbrev pub sunk : {K : Type 0} → (K → Option (List ℕ)) → (K → ℕ) → K → Sunk
sunk written faults sink = record { written = written sink; faults = faults sink }

-- the lines of these steps, behind what the journals took before
abbrev pub said_from : Logs → List Step → List ℕ
said_from old steps = said_behind (old Session).present.count (old Tabs).present.count steps

-- the journals count all commands of these steps
abbrev pub Count : Logs → List Step → Type 0
Count old steps = (family : Family) → (old family).present.count + length (issued_to family steps) < 2 ^ 64

-- what was said behind done steps, where these were to follow
abbrev pub SaysDone : Halt → Logs → List Step → List Step → List ℕ → Type 0
SaysDone (halt.Journal stopped) old done left said = said ≡ said_from old done
SaysDone halt.Write old done left said = IsPrefix said (said_from old (done ++ left))
SaysDone halt.Memory old done left said = said ≡ said_from old done

-- a sink fails where its count of failures rises
abbrev pub HaltCause : Sunk → Sunk → Halt → Type 0
HaltCause before after (halt.Journal stopped) = Unit {0}
HaltCause before after halt.Write = Rose before.faults after.faults
HaltCause before after halt.Memory = Unit {0}

-- the journals of a run, over machines that are known by their families
abbrev pub RunWriters : (M N D : Type 0) → machine.Ghosts M SessionState SessionCommand
    → machine.Ghosts N ClosedState TabsCommand → disk.Ghosts D → Type 0
RunWriters M N D m n d = Writers M N D SessionState SessionCommand ClosedState TabsCommand m n d

module _ {M N D : Type 0} {m : machine.Ghosts M SessionState SessionCommand}
    {n : machine.Ghosts N ClosedState TabsCommand} {d : disk.Ghosts D} where
  -- all were done
  pub record StepsDone (steps : List Step) (old new : RunWriters M N D m n d) (before after : Sunk) : Type 0 where
    pub all : AllDone (items_of steps) old new
    pub later : before.faults ≤ after.faults
    pub says : Count (logs old) steps →
        Writes before.written after.written (λ said. said ≡ said_from (logs old) steps)
    pub tells : d.modelled → BothRun m.kind n.kind (logs old) →
        TellsDone m.kind n.kind (logs old) (logs new) before.written after.written

  -- the items of these steps were done, and the next one was refused
  pub record StopsBehind (stopped : Stopped) (done left : List Step) (old new : RunWriters M N D m n d) : Type 0 where
    pub item : RunItem
    pub rest : List Step
    pub next : left ≡ Handle item ∷ rest
    pub session : StopsIn (map session_job (items_of done)) (session_job item) old.session new.session
        (turn_at Session stopped.family stopped.fault)
    pub tabs : StopsIn (map tabs_job (items_of done)) (tabs_job item) old.tabs new.tabs
        (turn_at Tabs stopped.family stopped.fault)

  -- what a halt behind done steps leaves of the journals
  abbrev pub HaltsBehind : Halt → List Step → List Step → RunWriters M N D m n d → RunWriters M N D m n d → Type 0
  HaltsBehind (halt.Journal stopped) done left old new = StopsBehind stopped done left old new
  HaltsBehind halt.Write done left old new = AllDone (items_of done) old new
  HaltsBehind halt.Memory done left old new = AllDone (items_of done) old new

  -- the run halts behind some of them
  pub record StepsHalted (steps : List Step) (old new : RunWriters M N D m n d) (before after : Sunk) (why : Halt) :
      Type 0 where
    pub done : List Step
    pub left : List Step
    pub parts : done ++ left ≡ steps
    pub journals : HaltsBehind why done left old new
    pub later : before.faults ≤ after.faults
    pub cause : HaltCause before after why
    pub says : Count (logs old) steps → Writes before.written after.written (SaysDone why (logs old) done left)
    pub tells : d.modelled → BothRun m.kind n.kind (logs old) →
        TellsHalted why (logs old) (logs new) before.written after.written

  abbrev pub DoesSteps : {T : Type 0} → List Step → RunWriters M N D m n d → RunWriters M N D m n d → Sunk → Sunk
      → Result T Halt → Type 0
  DoesSteps steps old new before after (Ok x) = StepsDone steps old new before after
  DoesSteps steps old new before after (Err why) = StepsHalted steps old new before after why

  -- nothing is written, whatever the sink is
  abbrev pub DoesUnsaid : {T : Type 0} → List Step → RunWriters M N D m n d → RunWriters M N D m n d
      → Result T Halt → Type 0
  DoesUnsaid steps old new result = (sink : Sunk) → DoesSteps steps old new sink sink result
