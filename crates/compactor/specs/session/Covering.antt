-- Which commands leave nothing of an earlier one: an update of a page, of an earlier update of the page at the same
-- index of the same tab.
use Rattle.std.specs.Prelude.{ℤ, Bool, false, ◌&&◌}
use Rattle.std.specs.Ordering.{int_eq}
use Rattle.session_commands.specs.declared.command.SessionCommand.{SessionCommand}
use Rattle.session_commands.specs.declared.command.SessionCommand.TheVariants.{UpdateNavigation}

-- a command updates the page at this index of this tab
abbrev pub updates : ℤ → ℤ → SessionCommand → Bool
updates tab index (UpdateNavigation other place navigation) = int_eq other tab && int_eq place index
updates tab index _ = false

-- both commands update the page at one index of one tab
abbrev pub same_place : SessionCommand → SessionCommand → Bool
same_place (UpdateNavigation tab index navigation) second = updates tab index second
same_place _ second = false
