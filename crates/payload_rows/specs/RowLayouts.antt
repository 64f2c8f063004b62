-- The layouts of the shapes, each from its values.
use Rattle.std.specs.Prelude.{ℕ, ℤ, Bool, List, [], ◌∷◌, ◌++◌}
use Rattle.pickle_cells.specs.Cell.{int}
use Rattle.pickle_cells.specs.Layout.{Int, Int64, Uint64, Flag, Free}
use Rattle.pickle_cells.specs.PickleLayout.{Item, Int as IntItem, Int64 as Int64Item, Text as TextItem}
use Rattle.navigation_entry.specs.declared.bounds.Bounds.{Bounds}
use Rattle.navigation_entry.specs.declared.navigation.Navigation.{Navigation}
use Rattle.navigation_entry.specs.declared.group.GroupInfo.{GroupInfo}
use Rattle.navigation_entry.specs.Layouts.{navigation_items, group_items}
use Rattle.payload_rows.specs.PayloadLayout.{Layout, Fixed, Pickled}
use Rattle.payload_rows.specs.declared.window_entry.WindowEntry.{WindowEntry}

abbrev pub flag_row : Bool → Layout
flag_row flag = Fixed (Flag flag ∷ [])

abbrev pub int_row : ℤ → Layout
int_row a = Fixed (Int a ∷ [])

abbrev pub two_ints_row : ℤ → ℤ → Layout
two_ints_row a b = Fixed (Int a ∷ Int b ∷ [])

abbrev pub three_ints_row : ℤ → ℤ → ℤ → Layout
three_ints_row a b c = Fixed (Int a ∷ Int b ∷ Int c ∷ [])

abbrev pub int_flag_row : ℤ → Bool → Layout
int_flag_row a flag = Fixed (Int a ∷ Flag flag ∷ Free 3 ∷ [])

abbrev pub int_time_row : ℤ → ℤ → Layout
int_time_row a time = Fixed (Int a ∷ Free 4 ∷ Int64 time ∷ [])

abbrev pub two_ints_time_row : ℤ → ℤ → ℤ → Layout
two_ints_time_row a b time = Fixed (Int a ∷ Int b ∷ Int64 time ∷ [])

abbrev pub window_bounds_row : ℤ → Bounds → Layout
window_bounds_row window b =
    Fixed (Int window ∷ Int b.x ∷ Int b.y ∷ Int b.width ∷ Int b.height ∷ Int b.show ∷ [])

abbrev pub tab_group_row : ℤ → ℕ → ℕ → Bool → Layout
tab_group_row tab high low grouped =
    Fixed (Int tab ∷ Free 4 ∷ Uint64 high ∷ Uint64 low ∷ Flag grouped ∷ Free 7 ∷ [])

abbrev pub int_rest_row : ℤ → List ℕ → Layout
int_rest_row a rest = Pickled (IntItem a ∷ []) rest

abbrev pub int_text_row : ℤ → List ℕ → List ℕ → Layout
int_text_row a text tail = Pickled (IntItem a ∷ TextItem text ∷ []) tail

abbrev pub int_two_texts_row : ℤ → List ℕ → List ℕ → List ℕ → Layout
int_two_texts_row a text other tail = Pickled (IntItem a ∷ TextItem text ∷ TextItem other ∷ []) tail

-- the cells of bounds
abbrev pub bounds_bytes : Bounds → List ℕ
bounds_bytes b = int b.x ++ (int b.y ++ (int b.width ++ (int b.height ++ int b.show)))

-- the window, the place of the tab that it showed, its number of tabs, its time and its bounds
abbrev pub window_entry_items : WindowEntry → List Item
window_entry_items e =
    IntItem e.window ∷ IntItem e.selected ∷ IntItem e.count ∷ Int64Item e.time ∷ IntItem e.bounds.x ∷ IntItem e.bounds.y
    ∷ IntItem e.bounds.width ∷ IntItem e.bounds.height ∷ IntItem e.bounds.show ∷ []

abbrev pub window_entry_row : WindowEntry → List ℕ → Layout
window_entry_row e tail = Pickled (window_entry_items e) tail

abbrev pub navigation_row : ℤ → ℤ → Navigation → Layout
navigation_row tab index n =
    Pickled (navigation_items tab index n.url n.title n.page_state n.transition) n.rest

abbrev pub group_row : GroupInfo → Layout
group_row g = Pickled (group_items g.high g.low g.title g.colour) g.rest
