-- What bounds how many files a run makes: how many compactions its jobs ask for, and that its commands fit into one
-- file, so that no length makes a rotation due.
use Rattle.std.specs.Prelude.{ℕ, ◌+◌, ◌≤◌, List, [], ◌∷◌, length, take}
use Rattle.machine_law.specs.Kind.{Kind, fold}
use Rattle.fresh_files.specs.Fresh.{fresh, frames}
use Rattle.writer_core.specs.declared.item.Job.{Job}
use Rattle.writer_core.specs.declared.item.Job.TheVariants as job

-- how many compactions a job asks for, and how many jobs ask for
abbrev pub compactions_of : {C : Type 0} → Job C → ℕ
compactions_of (job.Write command) = 0
compactions_of job.Sync = 0
compactions_of job.Compact = 1
compactions_of job.Nothing = 0

abbrev pub compactions : {C : Type 0} → List (Job C) → ℕ
compactions [] = 0
compactions (todo ∷ later) = compactions_of todo + compactions later

-- A file that restates the state after any number of the first of some commands has room for the frames of all.
abbrev pub AllFit : {S C : Type 0} → Kind S C → S → List C → ℕ → Type 0
AllFit kind first q max_file =
    (j : ℕ) → length (fresh kind (fold kind first (take j q))) + length (frames kind q) ≤ max_file
