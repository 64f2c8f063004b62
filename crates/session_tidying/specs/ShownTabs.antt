-- What is asked of the shown tabs of a state: their number, and that their places are in the ranges of their types.
use Rattle.std.specs.Prelude.{ℕ, length}
use Rattle.std.specs.List.{AllByRecursion}
use Rattle.std.specs.Map.{keys_of}
use Rattle.window_state.specs.declared.shown.Shown.{Shown}
use Rattle.window_state.specs.Shown.{FitsPlace}

abbrev pub ArePlacesInRange : Shown → Type 0
ArePlacesInRange shown = AllByRecursion FitsPlace (keys_of shown.tabs.entries)

abbrev pub shown_count : Shown → ℕ
shown_count shown = length shown.tabs.entries
