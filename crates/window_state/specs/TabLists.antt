-- Tabs in a list in any order, told apart by their ids.
use Rattle.std.specs.Prelude.{◌≡◌, ℤ, List, [], ◌∷◌}
use Rattle.std.specs.List.{AllByRecursion}
use Rattle.std.specs.Ordering.{int_cmp}
use Rattle.std.specs.declared.cmp.Ordering.TheVariants.{Less}
use Rattle.window_state.specs.declared.tab.Tab.{Tab}
use Rattle.window_state.specs.Keys.{tab_key}
use Rattle.window_state.specs.RowLists.{only}
use Rattle.window_state.specs.Views.{place_cmp}

-- the tabs with an id
abbrev pub under : ℤ → List Tab → List Tab
under id tabs = only int_cmp tab_key id tabs

-- two lists have the same tabs under each id
abbrev pub Same : List Tab → List Tab → Type 0
Same xs ys = (id : ℤ) → under id xs ≡ under id ys

abbrev pub AtMostOne : List Tab → Type 0
AtMostOne [] = Unit {0}
AtMostOne (t ∷ ts) = ts ≡ []

-- each tab stands before all later ones, by index and then by id
abbrev pub Upward : List Tab → Type 0
Upward [] = Unit {0}
Upward (t ∷ ts) = AllByRecursion (λ u. place_cmp t u ≡ Less) ts × Upward ts
