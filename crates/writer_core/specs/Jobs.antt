-- The job of each journal by an item, and the commands among jobs.
use Rattle.std.specs.Prelude.{List, [], ◌∷◌}
use Rattle.std.specs.List.{flat_map}
use Rattle.writer_core.specs.declared.item.Item.{Item}
use Rattle.writer_core.specs.declared.item.Item.TheVariants as item
use Rattle.writer_core.specs.declared.item.Job.{Job}
use Rattle.writer_core.specs.declared.item.Job.TheVariants as job

abbrev pub session_job : {A B : Type 0} → Item A B → Job A
session_job (item.Session command) = job.Write command
session_job (item.Tabs command) = job.Nothing
session_job item.Sync = job.Sync
session_job item.Compact = job.Compact
session_job item.End = job.Nothing

abbrev pub tabs_job : {A B : Type 0} → Item A B → Job B
tabs_job (item.Session command) = job.Nothing
tabs_job (item.Tabs command) = job.Write command
tabs_job item.Sync = job.Sync
tabs_job item.Compact = job.Compact
tabs_job item.End = job.Nothing

-- the commands that a job writes, and those that jobs write, in order
abbrev pub commands_of : {C : Type 0} → Job C → List C
commands_of (job.Write command) = command ∷ []
commands_of job.Sync = []
commands_of job.Compact = []
commands_of job.Nothing = []

abbrev pub commands : {C : Type 0} → List (Job C) → List C
commands jobs = flat_map commands_of jobs

-- what a job writes is a command
abbrev pub IsJob : {C : Type 0} → (C → Type 0) → Job C → Type 0
IsJob IsCommand (job.Write command) = IsCommand command
IsJob IsCommand job.Sync = Unit {0}
IsJob IsCommand job.Compact = Unit {0}
IsJob IsCommand job.Nothing = Unit {0}

-- so is what an item asks of both journals
abbrev pub AreJobs : {A B : Type 0} → (A → Type 0) → (B → Type 0) → Item A B → Type 0
AreJobs IsFirst IsSecond item = IsJob IsFirst (session_job item) × IsJob IsSecond (tabs_job item)
