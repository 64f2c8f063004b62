-- What the lines of syncs say, and what the disks have been told.
use Rattle.std.specs.Prelude.{◌≡◌, ◌⊎◌, ℕ, ◌<◌, ◌≤◌, ◌^◌, List, [], ◌∷◌, ◌++◌, Option}
use Rattle.session_disk.specs.declared.family.Family.{Family}
use Rattle.session_disk.specs.declared.family.Family.TheVariants.{Session, Tabs}
use Rattle.log_writer.specs.Journals.{IsReady}
use Rattle.run_words.specs.declared.lines.Counts.{Counts}
use Rattle.run_words.specs.declared.status.Status.{Status}
use Rattle.run_words.specs.declared.status.Status.TheVariants.{Write}
use Rattle.run_words.specs.Outcome.{IsPrefix, start_line, sync_line}
use Rattle.script_run.specs.Families.{Firsts, kind_of}
use Rattle.script_run.specs.Runs.{Writes}
use Rattle.script_run.specs.SyncLines.{SaysTold}
use Rattle.session_drive.specs.Run.{Found}

-- a line stands in a text, behind its start or behind the end of another line
pub record HasLine (text line : List ℕ) : Type 0 where
  pub before : List ℕ
  pub after : List ℕ
  pub parts : text ≡ before ++ (line ++ after)
  pub starts : (before ≡ []) ⊎ ((lines : List ℕ) × (before ≡ lines ++ 10 ∷ []))

-- how many commands each disk has been told by the end
abbrev pub told_by_end : Found → Family → ℕ
told_by_end found family = (found.exit family).history.now.told

-- on modelled disks that are ready at entry
abbrev pub WhereReady : Found → Type 0 → Type 0
WhereReady found P = found.modelled → (firsts : Firsts) →
    ((family : Family) → IsReady (kind_of family) (found.entry family).history.now (firsts family)) → P

-- each line of a sync that stands in a text says no more of a family than this was told
abbrev pub SyncsTold : (Family → ℕ) → List ℕ → Type 0
SyncsTold told text = (session tabs : ℕ) → session < 2 ^ 64 → tabs < 2 ^ 64 → HasLine text (sync_line session tabs) →
    (session ≤ told Session) × (tabs ≤ told Tabs)

-- no line of a sync that a run has written says more than the disks have been told by its end
abbrev pub TellsScript : Found → Option (List ℕ) → Option (List ℕ) → Type 0
TellsScript found old new = WhereReady found (Writes old new (SyncsTold (told_by_end found)))

-- a run but for its last line: nothing was said, or the lines of its start and of syncs, which a sink may have cut
abbrev pub SaysWhole : (Family → ℕ) → List ℕ → Type 0
SaysWhole told said =
    (said ≡ []) ⊎ ((counts : Counts) × (more : List ℕ) × SaysTold told more × (said ≡ start_line counts ++ more))

abbrev pub SaysPart : (Family → ℕ) → List ℕ → Type 0
SaysPart told said =
    (counts : Counts) × (more : List ℕ) × SaysTold told more × IsPrefix said (start_line counts ++ more)

abbrev pub SaysFirstTold : Status → (Family → ℕ) → List ℕ → Type 0
SaysFirstTold status told said = ((status ≡ Write) × SaysPart told said) ⊎ SaysWhole told said

abbrev pub TellsFirst : Found → Option (List ℕ) → Option (List ℕ) → Status → Type 0
TellsFirst found old new status = WhereReady found (Writes old new (SaysFirstTold status (told_by_end found)))
