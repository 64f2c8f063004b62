-- The gap before one page, and the command that closes a gap.
use Rattle.std.specs.Prelude.{ℕ, ℤ, pos, ◌-ℤ◌, int_lt, List, [], ◌∷◌, if◌then◌else◌}
use Rattle.session_commands.specs.declared.command.SessionCommand.{SessionCommand}
use Rattle.session_commands.specs.declared.command.SessionCommand.TheVariants.{Pruned}

-- the place and the length of the gap before an index, behind so many pages, where the next index without a gap is this
abbrev pub gap_before : ℕ → ℤ → ℤ → List (ℕ × ℤ)
gap_before place next index = if int_lt next index then (place, index -ℤ next) ∷ [] else []

abbrev pub gap_pruned : ℤ → ℕ × ℤ → SessionCommand
gap_pruned tab gap = Pruned tab (pos gap.0) gap.1
