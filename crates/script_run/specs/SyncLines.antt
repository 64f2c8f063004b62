-- Lines of syncs that say no more than the disks have been told, and how journals that write on keep to that.
use Rattle.std.specs.Prelude.{◌≡◌, ◌⊎◌, ℕ, ◌<◌, ◌≤◌, ◌^◌, List, [], ◌∷◌, ◌++◌, Option, Result, Err}
use Rattle.std.specs.List.{AllByRecursion}
use Rattle.machine_law.specs.Kind.{Kind}
use Rattle.session_disk.specs.declared.family.Family.{Family}
use Rattle.session_disk.specs.declared.family.Family.TheVariants.{Session, Tabs}
use Rattle.session_commands.specs.declared.command.SessionCommand.{SessionCommand}
use Rattle.tab_restore_commands.specs.declared.command.TabsCommand.{TabsCommand}
use Rattle.window_state.specs.States.{State as SessionState}
use Rattle.closed_entries.specs.States.{State as ClosedState}
use Rattle.writer_core.specs.Telling.{Runs, told_by}
use Rattle.run_words.specs.Outcome.{IsPrefix, start_line, sync_line}
use Rattle.script_run.specs.declared.halt.Halt.{Halt}
use Rattle.script_run.specs.declared.halt.Halt.TheVariants as halt
use Rattle.script_run.specs.Counts.{counts_of}
use Rattle.script_run.specs.Families.{kind_of}
use Rattle.script_run.specs.Runs.{Logs, Writes, states_of}

-- how many commands the disk of each family was told
abbrev pub told_of : Logs → Family → ℕ
told_of logs family = told_by (logs family)

-- numbers of 64 bits, each no more than the disk of its family was told
abbrev pub AreTold : (Family → ℕ) → (Family → ℕ) → Type 0
AreTold told numbers = (family : Family) → (numbers family < 2 ^ 64) × (numbers family ≤ told family)

-- the lines of syncs with these numbers
abbrev pub sync_lines : List (Family → ℕ) → List ℕ
sync_lines [] = []
sync_lines (numbers ∷ others) = sync_line (numbers Session) (numbers Tabs) ++ sync_lines others

-- lines of syncs, and nothing else, which say no more than this was told
abbrev pub SaysTold : (Family → ℕ) → List ℕ → Type 0
SaysTold told said = (lines : List (Family → ℕ)) × AllByRecursion (AreTold told) lines × (said ≡ sync_lines lines)

-- what a halt leaves of such lines: a sink that failed has cut them
abbrev pub SaysToldAt : Halt → (Family → ℕ) → List ℕ → Type 0
SaysToldAt (halt.Journal stopped) told said = SaysTold told said
SaysToldAt halt.Write told said = (all : List ℕ) × SaysTold told all × IsPrefix said all
SaysToldAt halt.Memory told said = SaysTold told said

-- The same behind the line of a start, which want of memory may leave unwritten.
abbrev pub SaysToldBehind : {T : Type 0} → Result T Halt → List ℕ → (Family → ℕ) → List ℕ → Type 0
SaysToldBehind (Err halt.Write) start told said =
    (more : List ℕ) × SaysTold told more × IsPrefix said (start ++ more)
SaysToldBehind result start told said = (said ≡ []) ⊎ ((more : List ℕ) × SaysTold told more × (said ≡ start ++ more))

module _ (session : Kind SessionState SessionCommand) (tabs : Kind ClosedState TabsCommand) where
  -- both journals write on
  pub record BothRun (logs : Logs) : Type 0 where
    pub session_runs : Runs session (logs Session)
    pub tabs_run : Runs tabs (logs Tabs)

  -- what steps that were done make of what is told, and say of it
  pub record TellsDone (old new : Logs) (before after : Option (List ℕ)) : Type 0 where
    pub run : BothRun new
    pub stays : (family : Family) → told_of old family ≤ told_of new family
    pub says : Writes before after (SaysTold (told_of new))

-- and steps behind some of which a run halts
pub record TellsHalted (why : Halt) (old new : Logs) (before after : Option (List ℕ)) : Type 0 where
  pub stays : (family : Family) → told_of old family ≤ told_of new family
  pub says : Writes before after (SaysToldAt why (told_of new))

-- On modelled disks, where both journals write on: what a run writes has the line of its start, and no line of a sync
-- that says more than the disks have been told at the end, whatever the run answers.
abbrev pub TellsRun : {T : Type 0} → Type 0 → Logs → Logs → Option (List ℕ) → Option (List ℕ) → Result T Halt → Type 0
TellsRun modelled old new written printed result = modelled → BothRun (kind_of Session) (kind_of Tabs) old →
    Writes written printed (SaysToldBehind result (start_line (counts_of (states_of old))) (told_of new))
