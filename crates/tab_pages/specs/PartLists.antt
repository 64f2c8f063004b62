-- Pages in parts, one part behind the other.
use Rattle.std.specs.Prelude.{ℕ, zero, suc, ◌<◌, ℤ, pos, ◌≤ℤ◌, int_lt, int_le, Bool, true, false, ◌&&◌, if◌then◌else◌, List, [], ◌∷◌, ◌++◌, length}
use denote.Ref.{Bor}
use Rattle.navigation_entry.specs.declared.navigation.Navigation.{Navigation}

-- the pages of all parts
abbrev pub joined : List (List (ℤ × Navigation)) → List (ℤ × Navigation)
joined [] = []
joined (part ∷ parts) = part ++ joined parts

-- all pages stand before an index
abbrev pub all_before : ℤ → List (ℤ × Navigation) → Bool
all_before index [] = true
all_before index (page ∷ pages) = int_lt page.0 index && all_before index pages

-- there is a first page, which stands no later than at an index
abbrev pub begins_by : ℤ → List (ℤ × Navigation) → Bool
begins_by index [] = false
begins_by index (page ∷ pages) = int_le page.0 index

-- the part in which an index stands or belongs: the first one that doesn't end before it, else the last one
abbrev pub part_of : ℤ → List (List (ℤ × Navigation)) → ℕ
part_of index [] = zero
part_of index (part ∷ []) = zero
part_of index (part ∷ next ∷ parts) = if all_before index part then suc (part_of index (next ∷ parts)) else zero

-- a place is one of the first part, or there is no part
abbrev pub IsInFirst : ℕ → List (List (ℤ × Navigation)) → Type 0
IsInFirst place [] = Unit {0}
IsInFirst place (part ∷ parts) = place < length part

-- what is seen of a page that is lent behind its index
abbrev pub page_shown : ℤ × Bor Navigation → ℤ × Navigation
page_shown page = (page.0, page.1.now)

-- no index is beyond the greatest one
abbrev pub AreLow : List (ℤ × Navigation) → Type 0
AreLow [] = Unit {0}
AreLow (page ∷ pages) = (page.0 ≤ℤ pos 2147483647) × AreLow pages
