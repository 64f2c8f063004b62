-- The pages of a tab as a list of pairs, an index and what stands there: what a page that comes makes of it, and what
-- prunings leave of it.
use Rattle.std.specs.Prelude.{ℕ, zero, suc, ℤ, pos, ◌+ℤ◌, ◌-ℤ◌, ◌≤ℤ◌, int_lt, int_le, Bool, true, false, not, ◌&&◌, if◌then◌else◌, List, [], ◌∷◌, map, filter}
use Rattle.std.specs.Ordering.{int_cmp}
use Rattle.std.specs.BTreeMap.{insert_entry}
use Rattle.navigation_entry.specs.declared.navigation.Navigation.{Navigation}

abbrev pub is_positive : ℤ → Bool
is_positive z = int_lt (pos 0) z

abbrev pub is_natural : ℤ → Bool
is_natural z = int_le (pos 0) z

-- indices rise, the first of them at least this
abbrev pub IsRising : ℤ → List (ℤ × Navigation) → Type 0
IsRising least [] = Unit {0}
IsRising least (page ∷ pages) = (least ≤ℤ page.0) × IsRising (page.0 +ℤ pos 1) pages

abbrev pub has_page : {A : Type 0} → List A → Bool
has_page [] = false
has_page (page ∷ pages) = true

-- how many pages stand before an index
abbrev pub place_of : ℤ → List (ℤ × Navigation) → ℕ
place_of index [] = zero
place_of index (page ∷ pages) = if int_lt page.0 index then suc (place_of index pages) else zero

-- a page at an index that isn't negative takes the place of the one there, or is put in by its index
abbrev pub put_page : ℤ → Navigation → List (ℤ × Navigation) → List (ℤ × Navigation)
put_page index navigation pages = if is_natural index then insert_entry int_cmp pages index navigation else pages

-- pages before an index
abbrev pub prune_back : ℤ → List (ℤ × Navigation) → List (ℤ × Navigation)
prune_back index pages = filter (λ page. int_lt page.0 index) pages

abbrev pub shifted : ℤ → ℤ × Navigation → ℤ × Navigation
shifted count page = (page.0 -ℤ count, page.1)

-- each index falls by a positive count, and negative ones go
abbrev pub prune_front : ℤ → List (ℤ × Navigation) → List (ℤ × Navigation)
prune_front count pages =
    if is_positive count
    then filter (λ page. is_natural page.0) (map (shifted count) pages)
    else pages

-- an index among so many from a first one on
abbrev pub is_pruned : ℤ → ℤ → ℤ → Bool
is_pruned first count index = int_le first index && int_lt index (first +ℤ count)

-- an index behind the first falls by the count
abbrev pub lowered : ℤ → ℤ → ℤ × Navigation → ℤ × Navigation
lowered first count page = (if int_lt first page.0 then page.0 -ℤ count else page.0, page.1)

-- so many indices from a first one on go, and later ones fall by their number
abbrev pub pruned : ℤ → ℤ → List (ℤ × Navigation) → List (ℤ × Navigation)
pruned first count pages = map (lowered first count) (filter (λ page. not (is_pruned first count page.0)) pages)

-- the same where the first index isn't negative and the count is positive
abbrev pub prune : ℤ → ℤ → List (ℤ × Navigation) → List (ℤ × Navigation)
prune first count pages = if is_natural first && is_positive count then pruned first count pages else pages
