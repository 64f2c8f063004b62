-- The payloads of a navigation and of a group: which items they are, and how long they are (this profile, after
-- Chromium's components/sessions/core/serialized_navigation_entry.cc and tab groups in session_service_commands.cc).
use Rattle.std.specs.Prelude.{ℕ, ◌+◌, ℤ, List, [], ◌∷◌}
use Rattle.pickle_cells.specs.Cell.{string_size}
use Rattle.pickle_cells.specs.declared.kind.ItemKind.{ItemKind}
use Rattle.pickle_cells.specs.declared.kind.ItemKind.TheVariants.{Int as IntKind, Uint32 as Uint32Kind, Uint64 as Uint64Kind, Text as TextKind, Units as UnitsKind}
use Rattle.pickle_cells.specs.PickleLayout.{Item, Int, Uint32, Uint64, Text, Units}

-- tab, index, URL, title, page state and transition
abbrev pub navigation_items : ℤ → ℤ → List ℕ → List ℕ → List ℕ → ℤ → List Item
navigation_items tab index url title page_state transition =
    Int tab ∷ Int index ∷ Text url ∷ Units title ∷ Text page_state ∷ Int transition ∷ []

abbrev pub navigation_kinds : List ItemKind
navigation_kinds = IntKind ∷ IntKind ∷ TextKind ∷ UnitsKind ∷ TextKind ∷ IntKind ∷ []

-- high, low, title and colour
abbrev pub group_items : ℕ → ℕ → List ℕ → ℕ → List Item
group_items high low title colour = Uint64 high ∷ Uint64 low ∷ Units title ∷ Uint32 colour ∷ []

abbrev pub group_kinds : List ItemKind
group_kinds = Uint64Kind ∷ Uint64Kind ∷ UnitsKind ∷ Uint32Kind ∷ []

-- the length of a navigation's payload: the sizes of its URL, title (two bytes a unit), page state and rest
abbrev pub navigation_size : ℕ → ℕ → ℕ → ℕ → ℕ
navigation_size url title page_state rest = 16 + string_size url + string_size title + string_size page_state + rest

-- the length of a group's payload: the sizes of its title and rest
abbrev pub group_size : ℕ → ℕ → ℕ
group_size title rest = 24 + string_size title + rest
