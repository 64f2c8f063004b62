-- The shown tabs as an ordered map holds them: by window, then by index, then by id.
use Rattle.std.specs.Prelude.{ℤ, pos, negsuc, FitsSigned, Bool, if◌then◌else◌, List, map, filter, Option, Some, None}
use Rattle.std.specs.Int.{w32}
use Rattle.std.specs.Ordering.{int_cmp, int_eq, ordering_then}
use Rattle.std.specs.declared.cmp.Ordering.{Ordering}
use Rattle.std.specs.BTreeMap.{insert_entry}
use Rattle.std.specs.Map.{values_of}
use Rattle.std.specs.Map.Iter.{deref}
use Rattle.window_state.specs.declared.shown.Place.{Place}
use Rattle.window_state.specs.declared.shown.Shown.{Shown}
use Rattle.window_state.specs.declared.tab.Tab.{Tab}
use Rattle.tab_pages.specs.PageLists.{has_page}
use denote.Ref.{Bor}

abbrev pub place_order : Place → Place → Ordering
place_order p q = ordering_then (int_cmp p.window q.window) (ordering_then (int_cmp p.index q.index) (int_cmp p.id q.id))

abbrev pub place_in : ℤ → Tab → Place
place_in window t = record { window = window; index = t.index; id = t.info.id }

-- the least and the greatest place of a window
abbrev pub first_in : ℤ → Place
first_in window = record { window = window; index = negsuc 2147483647; id = negsuc 2147483647 }

abbrev pub last_in : ℤ → Place
last_in window = record { window = window; index = pos 2147483647; id = pos 2147483647 }

abbrev pub FitsPlace : Place → Type 0
FitsPlace p = FitsSigned w32 p.index × FitsSigned w32 p.id

-- a tab in a window is put in where it has a page
abbrev pub put_in : Option ℤ → Bool → List (Place × Tab) → Tab → List (Place × Tab)
put_in None page entries t = entries
put_in (Some window) page entries t = if page then insert_entry place_order entries (place_in window t) t else entries

abbrev pub put_shown : List (Place × Tab) → Tab → List (Place × Tab)
put_shown entries t = put_in t.window (has_page t.pages) entries t

-- the entries of a window
abbrev pub entries_in : {X : Type 0} → ℤ → List (Place × X) → List (Place × X)
entries_in window entries = filter (λ e. int_eq e.0.window window) entries

-- the entries with what their references show
abbrev pub entries_of : List (Place × Bor Tab) → List (Place × Tab)
entries_of entries = map (λ e. (e.0, deref e.1)) entries

abbrev pub tabs_in : ℤ → Shown → List Tab
tabs_in window shown = values_of (entries_in window (entries_of shown.tabs.entries))
