-- The steps of a run behind its first line: what is done to the journals, and the lines of the verb `sync`.
use Rattle.std.specs.Prelude.{ℕ, ◌+◌, List, [], ◌∷◌, ◌++◌, map, length}
use Rattle.session_disk.specs.declared.family.Family.{Family}
use Rattle.session_disk.specs.declared.family.Family.TheVariants.{Session, Tabs}
use Rattle.writer_core.specs.declared.item.Job.{Job}
use Rattle.writer_core.specs.Jobs.{commands, commands_of}
use Rattle.run_words.specs.Outcome.{sync_line}
use Rattle.script_run.specs.Families.{CommandOf, RunItem, job_of}

-- an item is handled, or the line of a sync is written
pub data Step : Type 0 where
  Handle : RunItem → Step
  Say : Step

abbrev pub items_of : List Step → List RunItem
items_of [] = []
items_of (Handle item ∷ steps) = item ∷ items_of steps
items_of (Say ∷ steps) = items_of steps

-- what the steps ask of a family's journal, and the commands that they issue to it
abbrev pub jobs_of : (family : Family) → List Step → List (Job (CommandOf family))
jobs_of family steps = map (job_of family) (items_of steps)

abbrev pub issued_to : (family : Family) → List Step → List (CommandOf family)
issued_to family steps = commands (jobs_of family steps)

-- the lines that the steps write, where so many commands were issued to each family before
abbrev pub said_behind : ℕ → ℕ → List Step → List ℕ
said_behind session tabs [] = []
said_behind session tabs (Handle item ∷ steps) =
    said_behind (session + length (commands_of (job_of Session item))) (tabs + length (commands_of (job_of Tabs
    item))) steps
said_behind session tabs (Say ∷ steps) = sync_line session tabs ++ said_behind session tabs steps

abbrev pub said_by : List Step → List ℕ
said_by steps = said_behind 0 0 steps
