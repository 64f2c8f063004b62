-- The last line of a run.
use Rattle.std.specs.Prelude.{◌≡◌, ◌≢◌, ◌⊎◌, ◌++◌, ℕ, ◌≤◌, List, Option, None, Some}
use Rattle.session_disk.specs.Causes.{Rose}
use Rattle.run_words.specs.declared.status.Status.{Status}
use Rattle.run_words.specs.declared.status.Status.TheVariants.{Memory, Write}
use Rattle.run_words.specs.Outcome.{IsPrefix, last_line, unsaid}
use Rattle.script_run.specs.Doing.{Sunk}

-- a line that was made for an answer; that of want of memory needs no making
abbrev pub IsLineOf : Status → List ℕ → Type 0
IsLineOf Memory line = Unit {0}
IsLineOf status line = line ≡ last_line status

-- the last line of an answer was written, or where the sink failed some prefix of it, and another answer is given
abbrev pub WritesLine : Option (List ℕ) → Option (List ℕ) → Type 0 → Status → Status → Type 0
WritesLine None new failed status answer = new ≡ None
WritesLine (Some before) new failed status answer =
    ((answer ≡ status) × (new ≡ Some (before ++ last_line status)))
    ⊎ ((answer ≡ unsaid status) × failed
    × (said : List ℕ) × IsPrefix said (last_line status) × (new ≡ Some (before ++ said)))

-- The last line of an answer was made and written. Want of memory may have taken the answer's place, and a sink that
-- failed changes it.
pub record Concludes (before after : Sunk) (status answer : Status) : Type 0 where
  pub made : Status
  pub closing : (made ≡ status) ⊎ ((made ≡ Memory) × (status ≢ Write))
  pub said : (answer ≡ made) ⊎ ((answer ≡ unsaid made) × Rose before.faults after.faults)
  pub output : WritesLine before.written after.written (Rose before.faults after.faults) made answer
  pub later : before.faults ≤ after.faults
