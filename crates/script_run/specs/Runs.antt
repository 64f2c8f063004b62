-- What a script makes of journals that were opened, of the sink, and of what is said.
use Rattle.std.specs.Prelude.{◌≡◌, ◌⊎◌, ℕ, List, [], ◌∷◌, ◌++◌, length, Option, None, Some, Result, Ok, Err}
use Rattle.machine_law.specs.Kind.{fold}
use Rattle.machine_law.specs.declared.machine.Machine as machine
use Rattle.session_disk.specs.declared.disk.SessionDisk as disk
use Rattle.session_disk.specs.declared.family.Family.{Family}
use Rattle.session_disk.specs.declared.family.Family.TheVariants.{Session, Tabs}
use Rattle.log_writer.specs.Log.{Log, log}
use Rattle.session_commands.specs.declared.command.SessionCommand.{SessionCommand}
use Rattle.tab_restore_commands.specs.declared.command.TabsCommand.{TabsCommand}
use Rattle.window_state.specs.States.{State as SessionState}
use Rattle.window_state.specs.Views.{view}
use Rattle.closed_entries.specs.States.{State as ClosedState}
use Rattle.closed_entries.specs.Shown.{shown}
use Rattle.browser_model.specs.Pictures.{picture}
use Rattle.writer_core.specs.Accounts.{StopsAs}
use Rattle.writer_core.specs.Course.{options}
use Rattle.writer_core.specs.Working.{FaultCause, HoldsCommands, LeftSince, WritesOn}
use Rattle.writer_core.specs.declared.handling.Stopped.{Stopped}
use Rattle.writer_core.specs.declared.handling.Writers.{Writers}
use Rattle.run_words.specs.declared.why.Why.{Why}
use Rattle.run_words.specs.Outcome.{IsPrefix, start_line}
use Rattle.script_run.specs.declared.halt.Halt.{Halt}
use Rattle.script_run.specs.declared.halt.Halt.TheVariants as halt
use Rattle.script_run.specs.Counts.{counts_of}
use Rattle.script_run.specs.Families.{CommandOf, Firsts, RunItem, StateOf, kind_of}
use Rattle.script_run.specs.Script.{course_of, steps_of}
use Rattle.script_run.specs.Steps.{Step, Handle, issued_to, items_of, jobs_of, said_by}
use Rattle.script_run.specs.Verdict.{Beginnings, end_of, run_accounts}

-- what the journal of each family has and knows
abbrev pub Logs : Type 0
Logs = (family : Family) → Log (StateOf family) (CommandOf family)

module _ {M N D : Type 0} {m : machine.Ghosts M SessionState SessionCommand}
    {n : machine.Ghosts N ClosedState TabsCommand} {d : disk.Ghosts D} where
  abbrev pub logs : Writers M N D SessionState SessionCommand ClosedState TabsCommand m n d → Logs
  logs writers Session = log writers.session
  logs writers Tabs = log writers.tabs

-- the states of both journals
abbrev pub states_of : Logs → Firsts
states_of logs family = (logs family).present.state

-- on modelled disks, wherever the journals began, with nothing done yet
abbrev pub WhereOpened : Type 0 → Logs → (Beginnings → Type 0) → Type 0
WhereOpened modelled old P = modelled → (b : Beginnings) →
    ((family : Family) → (b family).options ≡ options (old family).limits) →
    ((family : Family) → WritesOn (kind_of family) (b family) (old family) []) → P b

-- the state of a family after all commands of a run
abbrev pub last_state : (family : Family) → Firsts → List ℕ → StateOf family
last_state family firsts text = fold (kind_of family) (firsts family) (issued_to family (steps_of firsts text))

-- and then both states show the picture of the browser, which its lists alone make
pub record ShowsPicture (firsts : Firsts) (text : List ℕ) : Type 0 where
  pub view : view (last_state Session firsts text) ≡ (picture (course_of firsts text).last).view
  pub closed : shown (last_state Tabs firsts text) ≡ (picture (course_of firsts text).last).closed

-- all that a run says before its last line, and what it has said behind some of its steps
abbrev pub said_behind_start : Firsts → List Step → List ℕ
said_behind_start firsts steps = start_line (counts_of firsts) ++ said_by steps

-- these steps were done and an item of the next one was refused, as the accounts say
pub record CutAt (modelled : Type 0) (old : Logs) (steps done : List Step) (stopped : Stopped) : Type 0 where
  pub item : RunItem
  pub rest : List Step
  pub parts : done ++ Handle item ∷ rest ≡ steps
  pub goes : WhereOpened modelled old (λ b. end_of b (items_of done) ≡ None)
  pub stops : WhereOpened modelled old (λ b. StopsAs (run_accounts b (items_of (done ++ Handle item ∷ []))) stopped)

-- what was said, where the run halted so
abbrev pub SaysHalted : Type 0 → Logs → Firsts → List Step → Halt → List ℕ → Type 0
SaysHalted modelled old firsts steps (halt.Journal stopped) said =
    (done : List Step) × CutAt modelled old steps done stopped × (said ≡ said_behind_start firsts done)
SaysHalted modelled old firsts steps halt.Write said = IsPrefix said (said_behind_start firsts steps)
SaysHalted modelled old firsts steps halt.Memory said =
    (said ≡ []) ⊎ ((done : List Step) × (left : List Step) × (done ++ left ≡ steps) × (said
    ≡ said_behind_start firsts done))

-- what stands at the end of what was written before, where the sink is modelled
abbrev pub Writes : Option (List ℕ) → Option (List ℕ) → (List ℕ → Type 0) → Type 0
Writes None new says = new ≡ None
Writes (Some before) new says = (said : List ℕ) × (new ≡ Some (before ++ said)) × says said

-- why a run halts, where the sink failed so
abbrev pub HasHalted : Type 0 → Logs → Logs → Halt → Type 0
HasHalted failed old new (halt.Journal stopped) = FaultCause (old stopped.family).limits.max_file
    (old stopped.family).failures (new stopped.family).failures stopped.fault
HasHalted failed old new halt.Write = failed
HasHalted failed old new halt.Memory = Unit {0}

-- the journal of a family that refused ends the run, as the accounts say
abbrev pub EndsBy : Type 0 → Logs → List Step → Halt → Type 0
EndsBy modelled old steps (halt.Journal stopped) =
    WhereOpened modelled old (λ b. StopsAs (run_accounts b (items_of steps)) stopped)
EndsBy modelled old steps halt.Write = Unit {0}
EndsBy modelled old steps halt.Memory = Unit {0}

-- each disk holds the commands of these steps
abbrev pub HoldsRun : Type 0 → Logs → Logs → List Step → Type 0
HoldsRun modelled old new steps = WhereOpened modelled old (λ b. (family : Family) → HoldsCommands (kind_of family)
    (b family) (new family).history (jobs_of family steps))

-- A script was run to its end or to its first refused line, and both journals were synced.
pub record HasRun (modelled : Type 0) (old new : Logs) (text : List ℕ) (written printed : Option (List ℕ))
    (refused : Option (ℕ × Why)) : Type 0 where
  pub refused_is : refused ≡ (course_of (states_of old) text).refused
  pub says : Writes written printed (λ said. said ≡ said_behind_start (states_of old) (steps_of (states_of old) text))
  pub counts : (family : Family) →
      (new family).present.count ≡ length (issued_to family (steps_of (states_of old) text))
  pub holds : HoldsRun modelled old new (steps_of (states_of old) text)
  pub none_ends : WhereOpened modelled old (λ b. end_of b (items_of (steps_of (states_of old) text)) ≡ None)
  pub shows : ShowsPicture (states_of old) text

-- A script's run halted.
pub record RunHalted (modelled failed : Type 0) (old new : Logs) (text : List ℕ) (written printed : Option (List ℕ))
    (why : Halt) : Type 0 where
  pub cause : HasHalted failed old new why
  pub ends : EndsBy modelled old (steps_of (states_of old) text) why
  pub says : Writes written printed (SaysHalted modelled old (states_of old) (steps_of (states_of old) text) why)

abbrev pub RunsScript : Type 0 → Type 0 → Logs → Logs → List ℕ → Option (List ℕ) → Option (List ℕ)
    → Result (Option (ℕ × Why)) Halt → Type 0
RunsScript modelled failed old new text written printed (Ok refused) =
    HasRun modelled old new text written printed refused
RunsScript modelled failed old new text written printed (Err why) =
    RunHalted modelled failed old new text written printed why

-- whatever it answers, a crash leaves what is good for each family's commands
abbrev pub LeavesRun : Type 0 → Logs → Logs → List ℕ → Type 0
LeavesRun modelled old new text = WhereOpened modelled old (λ b. (family : Family)
    → LeftSince (kind_of family) (b family)
    (new family).history (jobs_of family (steps_of (states_of old) text)))
