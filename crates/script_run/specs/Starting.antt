-- The line of a start, written whole or cut.
use Rattle.std.specs.Prelude.{◌≡◌, ◌⊎◌, ℕ, ◌≤◌, List, [], Result, Ok, Err}
use Rattle.session_disk.specs.Causes.{Rose}
use Rattle.run_words.specs.Outcome.{IsPrefix}
use Rattle.script_run.specs.declared.halt.Halt.{Halt}
use Rattle.script_run.specs.declared.halt.Halt.TheVariants as halt
use Rattle.script_run.specs.Doing.{Sunk}
use Rattle.script_run.specs.Runs.{Writes}

-- memory may run out before it or behind it, and no journal is called
abbrev pub SaysStart : {T : Type 0} → List ℕ → Sunk → Sunk → Result T Halt → Type 0
SaysStart line before after (Ok x) = Writes before.written after.written (λ said. said ≡ line)
SaysStart line before after (Err (halt.Journal stopped)) = ⊥
SaysStart line before after (Err halt.Write) =
    Writes before.written after.written (λ said. IsPrefix said line) × Rose before.faults after.faults
SaysStart line before after (Err halt.Memory) =
    Writes before.written after.written (λ said. (said ≡ []) ⊎ (said ≡ line))

pub record Starts {T : Type 0} (line : List ℕ) (before after : Sunk) (result : Result T Halt) : Type 0 where
  pub later : before.faults ≤ after.faults
  pub says : SaysStart line before after result
