-- The command of an id and a layout, by the layout's shape: a function of the values that the layout says.
use Rattle.std.proofs.Common.{◌≡◌, ℕ, ℤ, ◌*◌, ◌%◌, ◌≤◌, Bool, List, [], ◌∷◌, length, Option, Some, None, ap, ◌∙◌, arith}
use Rattle.std.proofs.Props.{props}
use Rattle.pickle_cells.specs.Layout.{Int, Int64, Uint64, Flag, Free}
use Rattle.pickle_cells.specs.PickleLayout.{Int as IntItem, Int64 as Int64Item, Uint32 as Uint32Item, Uint64 as Uint64Item, Text as TextItem, Units as UnitsItem}
use Rattle.navigation_entry.specs.declared.bounds.Bounds.{Bounds}
use Rattle.navigation_entry.specs.declared.navigation.Navigation.{Navigation}
use Rattle.navigation_entry.specs.declared.group.GroupInfo.{GroupInfo}
use Rattle.navigation_entry.specs.Layouts.{navigation_items, navigation_size, group_items, group_size}
use Rattle.payload_rows.specs.PayloadLayout.{Layout, Fixed, Pickled, shape, IsWhole}
use Rattle.payload_rows.specs.RowLayouts.{flag_row, int_row, two_ints_row, three_ints_row, int_flag_row, int_time_row, two_ints_time_row, window_bounds_row, tab_group_row, int_rest_row, int_text_row, int_two_texts_row, window_entry_row, navigation_row, group_row}
use Rattle.payload_rows.specs.Rows.{Row, Known}
use Rattle.payload_rows.specs.Shapes.{fields_of}
use Rattle.payload_rows.specs.declared.shape.Shape.{Shape as Named}
use Rattle.payload_rows.specs.declared.shape.Shape.TheVariants as named
use Rattle.payload_rows.specs.declared.window_entry.WindowEntry.{WindowEntry}

-- ---- what navigations and groups keep

abbrev NavigationFacts : List ℕ → List ℕ → List ℕ → List ℕ → Type 0
NavigationFacts url title page_state rest = (length rest % 4 ≡ 0) × (navigation_size (length url) (2 * length title) (length page_state) (length rest) ≤ 65534)

NavigationFacts-prop : (url title page_state rest : List ℕ) → IsProp (NavigationFacts url title page_state rest)
NavigationFacts-prop url title page_state rest = hlevel props

abbrev GroupFacts : List ℕ → List ℕ → Type 0
GroupFacts title rest = (length rest % 4 ≡ 0) × (group_size (2 * length title) (length rest) ≤ 65534)

GroupFacts-prop : (title rest : List ℕ) → IsProp (GroupFacts title rest)
GroupFacts-prop title rest = hlevel props

-- the same of a layout, which the rows of all commands have
abbrev pub Keeps : Layout → Type 0
Keeps (Pickled (IntItem a ∷ IntItem b ∷ TextItem url ∷ UnitsItem title ∷ TextItem page_state ∷ IntItem c ∷ []) rest) = NavigationFacts url title page_state rest
Keeps (Pickled (Uint64Item high ∷ Uint64Item low ∷ UnitsItem title ∷ Uint32Item colour ∷ []) rest) = GroupFacts title rest
Keeps _ = Unit {0}

-- a navigation is its texts, its transition and its rest
abbrev navigation_of : (url title page_state : List ℕ) (transition : ℤ) (rest : List ℕ) → NavigationFacts url title page_state rest → Navigation
navigation_of url title page_state transition rest h = record { url = url; title = title; page_state = page_state; transition = transition; rest = rest; whole = h.0; short = h.1 }

pub navigation_same : (n : Navigation) (h : NavigationFacts n.url n.title n.page_state n.rest) → navigation_of n.url n.title n.page_state n.transition n.rest h ≡ n
navigation_same n h = ap (navigation_of n.url n.title n.page_state n.transition n.rest) (NavigationFacts-prop n.url n.title n.page_state n.rest h (n.whole, n.short))

navigation_facts : (tab index : ℤ) (url title page_state : List ℕ) (transition : ℤ) (rest : List ℕ) → IsWhole (Pickled (navigation_items tab index url title page_state transition) rest) → NavigationFacts url title page_state rest
navigation_facts tab index url title page_state transition rest whole = (whole.0, omega (arith, whole.1))

-- a group is its token, its title, its colour and its rest
abbrev group_of : (high low : ℕ) (title : List ℕ) (colour : ℕ) (rest : List ℕ) → GroupFacts title rest → GroupInfo
group_of high low title colour rest h = record { high = high; low = low; title = title; colour = colour; rest = rest; whole = h.0; short = h.1 }

pub group_same : (g : GroupInfo) (h : GroupFacts g.title g.rest) → group_of g.high g.low g.title g.colour g.rest h ≡ g
group_same g h = ap (group_of g.high g.low g.title g.colour g.rest) (GroupFacts-prop g.title g.rest h (g.whole, g.short))

group_facts : (high low : ℕ) (title : List ℕ) (colour : ℕ) (rest : List ℕ) → IsWhole (Pickled (group_items high low title colour) rest) → GroupFacts title rest
group_facts high low title colour rest whole = (whole.0, omega (arith, whole.1))

-- both can be written
pub navigation_whole : (tab index : ℤ) (n : Navigation) → IsWhole (navigation_row tab index n)
navigation_whole tab index n = (n.whole, omega (arith, n.short))

pub group_whole : (g : GroupInfo) → IsWhole (group_row g)
group_whole g = (g.whole, omega (arith, g.short))

-- ---- a line of a family's table

-- a command with this id and this layout
abbrev pub RowOf : {C : Type 0} → (C → Row) → ℕ → Layout → Type 0
RowOf {C} row id layout = (c : C) × (row c ≡ Known id layout)

-- an id with the name of its shape, and the command of each layout of that shape
pub record Line {C : Type 0} (row : C → Row) : Type 0 where
  pub id : ℕ
  pub name : Named
  pub make : (layout : Layout) → Keeps layout → Option C
  pub makes : (layout : Layout) → IsWhole layout → fields_of name ≡ shape layout → RowOf row id layout

-- ---- the command of a layout, from a function of the shape's values

abbrev entry_of : (window selected count time x y width height show : ℤ) → WindowEntry
entry_of window selected count time x y width height show =
    record { window = window; selected = selected; count = count; time = time; bounds = record { x = x; y = y; width = width; height = height; show = show } }

module _ {C : Type 0} where
  abbrev make_flag : (Bool → C) → (layout : Layout) → Keeps layout → Option C
  make_flag f (Fixed (Flag a ∷ [])) keeps = Some (f a)
  make_flag f _ keeps = None

  abbrev make_int : (ℤ → C) → (layout : Layout) → Keeps layout → Option C
  make_int f (Fixed (Int a ∷ [])) keeps = Some (f a)
  make_int f _ keeps = None

  abbrev make_two_ints : (ℤ → ℤ → C) → (layout : Layout) → Keeps layout → Option C
  make_two_ints f (Fixed (Int a ∷ Int b ∷ [])) keeps = Some (f a b)
  make_two_ints f _ keeps = None

  abbrev make_three_ints : (ℤ → ℤ → ℤ → C) → (layout : Layout) → Keeps layout → Option C
  make_three_ints f (Fixed (Int a ∷ Int b ∷ Int c ∷ [])) keeps = Some (f a b c)
  make_three_ints f _ keeps = None

  abbrev make_int_flag : (ℤ → Bool → C) → (layout : Layout) → Keeps layout → Option C
  make_int_flag f (Fixed (Int a ∷ Flag b ∷ Free n ∷ [])) keeps = Some (f a b)
  make_int_flag f _ keeps = None

  abbrev make_int_time : (ℤ → ℤ → C) → (layout : Layout) → Keeps layout → Option C
  make_int_time f (Fixed (Int a ∷ Free n ∷ Int64 t ∷ [])) keeps = Some (f a t)
  make_int_time f _ keeps = None

  abbrev make_two_ints_time : (ℤ → ℤ → ℤ → C) → (layout : Layout) → Keeps layout → Option C
  make_two_ints_time f (Fixed (Int a ∷ Int b ∷ Int64 t ∷ [])) keeps = Some (f a b t)
  make_two_ints_time f _ keeps = None

  abbrev make_window_bounds : (ℤ → Bounds → C) → (layout : Layout) → Keeps layout → Option C
  make_window_bounds f (Fixed (Int a ∷ Int x ∷ Int y ∷ Int w ∷ Int h ∷ Int s ∷ [])) keeps = Some (f a (record { x = x; y = y; width = w; height = h; show = s }))
  make_window_bounds f _ keeps = None

  abbrev make_tab_group : (ℤ → ℕ → ℕ → Bool → C) → (layout : Layout) → Keeps layout → Option C
  make_tab_group f (Fixed (Int a ∷ Free n ∷ Uint64 h ∷ Uint64 l ∷ Flag b ∷ Free m ∷ [])) keeps = Some (f a h l b)
  make_tab_group f _ keeps = None

  abbrev make_int_rest : (ℤ → List ℕ → C) → (layout : Layout) → Keeps layout → Option C
  make_int_rest f (Pickled (IntItem a ∷ []) rest) keeps = Some (f a rest)
  make_int_rest f _ keeps = None

  abbrev make_int_text : (ℤ → List ℕ → List ℕ → C) → (layout : Layout) → Keeps layout → Option C
  make_int_text f (Pickled (IntItem a ∷ TextItem t ∷ []) tail) keeps = Some (f a t tail)
  make_int_text f _ keeps = None

  abbrev make_int_two_texts : (ℤ → List ℕ → List ℕ → List ℕ → C) → (layout : Layout) → Keeps layout → Option C
  make_int_two_texts f (Pickled (IntItem a ∷ TextItem t ∷ TextItem u ∷ []) tail) keeps = Some (f a t u tail)
  make_int_two_texts f _ keeps = None

  abbrev make_window_entry : (WindowEntry → List ℕ → C) → (layout : Layout) → Keeps layout → Option C
  make_window_entry f (Pickled (IntItem a ∷ IntItem b ∷ IntItem c ∷ Int64Item t ∷ IntItem x ∷ IntItem y ∷ IntItem w ∷ IntItem h ∷ IntItem s ∷ []) tail) keeps = Some (f (entry_of a b c t x y w h s) tail)
  make_window_entry f _ keeps = None

  abbrev make_navigation : (ℤ → ℤ → Navigation → C) → (layout : Layout) → Keeps layout → Option C
  make_navigation f (Pickled (IntItem a ∷ IntItem b ∷ TextItem u ∷ UnitsItem t ∷ TextItem p ∷ IntItem c ∷ []) rest) keeps = Some (f a b (navigation_of u t p c rest keeps))
  make_navigation f _ keeps = None

  abbrev make_group : (GroupInfo → C) → (layout : Layout) → Keeps layout → Option C
  make_group f (Pickled (Uint64Item h ∷ Uint64Item l ∷ UnitsItem t ∷ Uint32Item c ∷ []) rest) keeps = Some (f (group_of h l t c rest keeps))
  make_group f _ keeps = None

-- ---- the line of each shape, where the commands that the function gives have this row

module _ {C : Type 0} {row : C → Row} where
  pub flag_makes : (id : ℕ) (f : Bool → C) → ((a : Bool) → row (f a) ≡ Known id (flag_row a)) → (layout : Layout) → IsWhole layout → fields_of named.Flag ≡ shape layout → RowOf row id layout
  flag_makes id f is (Fixed (Flag a ∷ [])) whole _ = (f a, is a)
  flag_makes id f is _ whole e = absurd cc

  abbrev pub flag : (id : ℕ) (f : Bool → C) → ((a : Bool) → row (f a) ≡ Known id (flag_row a)) → Line row
  flag id f is = record { id = id; name = named.Flag; make = make_flag f; makes = flag_makes id f is }

  pub int_makes : (id : ℕ) (f : ℤ → C) → ((a : ℤ) → row (f a) ≡ Known id (int_row a)) → (layout : Layout) → IsWhole layout → fields_of named.Int ≡ shape layout → RowOf row id layout
  int_makes id f is (Fixed (Int a ∷ [])) whole _ = (f a, is a)
  int_makes id f is _ whole e = absurd cc

  abbrev pub int : (id : ℕ) (f : ℤ → C) → ((a : ℤ) → row (f a) ≡ Known id (int_row a)) → Line row
  int id f is = record { id = id; name = named.Int; make = make_int f; makes = int_makes id f is }

  pub two_ints_makes : (id : ℕ) (f : ℤ → ℤ → C) → ((a b : ℤ) → row (f a b) ≡ Known id (two_ints_row a b)) → (layout : Layout) → IsWhole layout → fields_of named.TwoInts ≡ shape layout → RowOf row id layout
  two_ints_makes id f is (Fixed (Int a ∷ Int b ∷ [])) whole _ = (f a b, is a b)
  two_ints_makes id f is _ whole e = absurd cc

  abbrev pub two_ints : (id : ℕ) (f : ℤ → ℤ → C) → ((a b : ℤ) → row (f a b) ≡ Known id (two_ints_row a b)) → Line row
  two_ints id f is = record { id = id; name = named.TwoInts; make = make_two_ints f; makes = two_ints_makes id f is }

  pub three_ints_makes : (id : ℕ) (f : ℤ → ℤ → ℤ → C) → ((a b c : ℤ) → row (f a b c) ≡ Known id (three_ints_row a b c)) → (layout : Layout) → IsWhole layout → fields_of named.ThreeInts ≡ shape layout → RowOf row id layout
  three_ints_makes id f is (Fixed (Int a ∷ Int b ∷ Int c ∷ [])) whole _ = (f a b c, is a b c)
  three_ints_makes id f is _ whole e = absurd cc

  abbrev pub three_ints : (id : ℕ) (f : ℤ → ℤ → ℤ → C) → ((a b c : ℤ) → row (f a b c) ≡ Known id (three_ints_row a b c)) → Line row
  three_ints id f is = record { id = id; name = named.ThreeInts; make = make_three_ints f; makes = three_ints_makes id f is }

  pub int_flag_makes : (id : ℕ) (f : ℤ → Bool → C) → ((a : ℤ) (b : Bool) → row (f a b) ≡ Known id (int_flag_row a b)) → (layout : Layout) → IsWhole layout → fields_of named.IntFlag ≡ shape layout → RowOf row id layout
  int_flag_makes id f is (Fixed (Int a ∷ Flag b ∷ Free n ∷ [])) whole e = let three : 3 ≡ n = cc in (f a b, is a b ∙ cc)
  int_flag_makes id f is _ whole e = absurd cc

  abbrev pub int_flag : (id : ℕ) (f : ℤ → Bool → C) → ((a : ℤ) (b : Bool) → row (f a b) ≡ Known id (int_flag_row a b)) → Line row
  int_flag id f is = record { id = id; name = named.IntFlag; make = make_int_flag f; makes = int_flag_makes id f is }

  pub int_time_makes : (id : ℕ) (f : ℤ → ℤ → C) → ((a t : ℤ) → row (f a t) ≡ Known id (int_time_row a t)) → (layout : Layout) → IsWhole layout → fields_of named.IntTime ≡ shape layout → RowOf row id layout
  int_time_makes id f is (Fixed (Int a ∷ Free n ∷ Int64 t ∷ [])) whole e = let four : 4 ≡ n = cc in (f a t, is a t ∙ cc)
  int_time_makes id f is _ whole e = absurd cc

  abbrev pub int_time : (id : ℕ) (f : ℤ → ℤ → C) → ((a t : ℤ) → row (f a t) ≡ Known id (int_time_row a t)) → Line row
  int_time id f is = record { id = id; name = named.IntTime; make = make_int_time f; makes = int_time_makes id f is }

  pub two_ints_time_makes : (id : ℕ) (f : ℤ → ℤ → ℤ → C) → ((a b t : ℤ) → row (f a b t) ≡ Known id (two_ints_time_row a b t)) → (layout : Layout) → IsWhole layout → fields_of named.TwoIntsTime ≡ shape layout → RowOf row id layout
  two_ints_time_makes id f is (Fixed (Int a ∷ Int b ∷ Int64 t ∷ [])) whole _ = (f a b t, is a b t)
  two_ints_time_makes id f is _ whole e = absurd cc

  abbrev pub two_ints_time : (id : ℕ) (f : ℤ → ℤ → ℤ → C) → ((a b t : ℤ) → row (f a b t) ≡ Known id (two_ints_time_row a b t)) → Line row
  two_ints_time id f is = record { id = id; name = named.TwoIntsTime; make = make_two_ints_time f; makes = two_ints_time_makes id f is }

  pub window_bounds_makes : (id : ℕ) (f : ℤ → Bounds → C) → ((a : ℤ) (b : Bounds) → row (f a b) ≡ Known id (window_bounds_row a b)) → (layout : Layout) → IsWhole layout → fields_of named.WindowBounds ≡ shape layout → RowOf row id layout
  window_bounds_makes id f is (Fixed (Int a ∷ Int x ∷ Int y ∷ Int w ∷ Int h ∷ Int s ∷ [])) whole _ = (f a (record { x = x; y = y; width = w; height = h; show = s }), is a (record { x = x; y = y; width = w; height = h; show = s }))
  window_bounds_makes id f is _ whole e = absurd cc

  abbrev pub window_bounds : (id : ℕ) (f : ℤ → Bounds → C) → ((a : ℤ) (b : Bounds) → row (f a b) ≡ Known id (window_bounds_row a b)) → Line row
  window_bounds id f is = record { id = id; name = named.WindowBounds; make = make_window_bounds f; makes = window_bounds_makes id f is }

  pub tab_group_makes : (id : ℕ) (f : ℤ → ℕ → ℕ → Bool → C) → ((a : ℤ) (h l : ℕ) (b : Bool) → row (f a h l b) ≡ Known id (tab_group_row a h l b)) → (layout : Layout) → IsWhole layout → fields_of named.TabGroup ≡ shape layout → RowOf row id layout
  tab_group_makes id f is (Fixed (Int a ∷ Free n ∷ Uint64 h ∷ Uint64 l ∷ Flag b ∷ Free m ∷ [])) whole e = let four : 4 ≡ n = cc in let seven : 7 ≡ m = cc in (f a h l b, is a h l b ∙ cc)
  tab_group_makes id f is _ whole e = absurd cc

  abbrev pub tab_group : (id : ℕ) (f : ℤ → ℕ → ℕ → Bool → C) → ((a : ℤ) (h l : ℕ) (b : Bool) → row (f a h l b) ≡ Known id (tab_group_row a h l b)) → Line row
  tab_group id f is = record { id = id; name = named.TabGroup; make = make_tab_group f; makes = tab_group_makes id f is }

  pub int_rest_makes : (id : ℕ) (f : ℤ → List ℕ → C) → ((a : ℤ) (rest : List ℕ) → row (f a rest) ≡ Known id (int_rest_row a rest)) → (layout : Layout) → IsWhole layout → fields_of named.IntRest ≡ shape layout → RowOf row id layout
  int_rest_makes id f is (Pickled (IntItem a ∷ []) rest) whole _ = (f a rest, is a rest)
  int_rest_makes id f is _ whole e = absurd cc

  abbrev pub int_rest : (id : ℕ) (f : ℤ → List ℕ → C) → ((a : ℤ) (rest : List ℕ) → row (f a rest) ≡ Known id (int_rest_row a rest)) → Line row
  int_rest id f is = record { id = id; name = named.IntRest; make = make_int_rest f; makes = int_rest_makes id f is }

  pub int_text_makes : (id : ℕ) (f : ℤ → List ℕ → List ℕ → C) → ((a : ℤ) (t tail : List ℕ) → row (f a t tail) ≡ Known id (int_text_row a t tail)) → (layout : Layout) → IsWhole layout → fields_of named.IntText ≡ shape layout → RowOf row id layout
  int_text_makes id f is (Pickled (IntItem a ∷ TextItem t ∷ []) tail) whole _ = (f a t tail, is a t tail)
  int_text_makes id f is _ whole e = absurd cc

  abbrev pub int_text : (id : ℕ) (f : ℤ → List ℕ → List ℕ → C) → ((a : ℤ) (t tail : List ℕ) → row (f a t tail) ≡ Known id (int_text_row a t tail)) → Line row
  int_text id f is = record { id = id; name = named.IntText; make = make_int_text f; makes = int_text_makes id f is }

  pub int_two_texts_makes : (id : ℕ) (f : ℤ → List ℕ → List ℕ → List ℕ → C) → ((a : ℤ) (t u tail : List ℕ) → row (f a t u tail) ≡ Known id (int_two_texts_row a t u tail)) → (layout : Layout) → IsWhole layout → fields_of named.IntTwoTexts ≡ shape layout → RowOf row id layout
  int_two_texts_makes id f is (Pickled (IntItem a ∷ TextItem t ∷ TextItem u ∷ []) tail) whole _ = (f a t u tail, is a t u tail)
  int_two_texts_makes id f is _ whole e = absurd cc

  abbrev pub int_two_texts : (id : ℕ) (f : ℤ → List ℕ → List ℕ → List ℕ → C) → ((a : ℤ) (t u tail : List ℕ) → row (f a t u tail) ≡ Known id (int_two_texts_row a t u tail)) → Line row
  int_two_texts id f is = record { id = id; name = named.IntTwoTexts; make = make_int_two_texts f; makes = int_two_texts_makes id f is }

  pub window_entry_makes : (id : ℕ) (f : WindowEntry → List ℕ → C) → ((e : WindowEntry) (tail : List ℕ) → row (f e tail) ≡ Known id (window_entry_row e tail)) → (layout : Layout) → IsWhole layout → fields_of named.WindowEntry ≡ shape layout → RowOf row id layout
  window_entry_makes id f is (Pickled (IntItem a ∷ IntItem b ∷ IntItem c ∷ Int64Item t ∷ IntItem x ∷ IntItem y ∷ IntItem w ∷ IntItem h ∷ IntItem s ∷ []) tail) whole _ = (f (entry_of a b c t x y w h s) tail, is (entry_of a b c t x y w h s) tail)
  window_entry_makes id f is _ whole e = absurd cc

  abbrev pub window_entry : (id : ℕ) (f : WindowEntry → List ℕ → C) → ((e : WindowEntry) (tail : List ℕ) → row (f e tail) ≡ Known id (window_entry_row e tail)) → Line row
  window_entry id f is = record { id = id; name = named.WindowEntry; make = make_window_entry f; makes = window_entry_makes id f is }

  pub navigation_makes : (id : ℕ) (f : ℤ → ℤ → Navigation → C) → ((a b : ℤ) (n : Navigation) → row (f a b n) ≡ Known id (navigation_row a b n)) → (layout : Layout) → IsWhole layout → fields_of named.Navigation ≡ shape layout → RowOf row id layout
  navigation_makes id f is (Pickled (IntItem a ∷ IntItem b ∷ TextItem u ∷ UnitsItem t ∷ TextItem p ∷ IntItem c ∷ []) rest) whole _ = let n = navigation_of u t p c rest (navigation_facts a b u t p c rest whole) in (f a b n, is a b n)
  navigation_makes id f is _ whole e = absurd cc

  abbrev pub navigation : (id : ℕ) (f : ℤ → ℤ → Navigation → C) → ((a b : ℤ) (n : Navigation) → row (f a b n) ≡ Known id (navigation_row a b n)) → Line row
  navigation id f is = record { id = id; name = named.Navigation; make = make_navigation f; makes = navigation_makes id f is }

  pub group_makes : (id : ℕ) (f : GroupInfo → C) → ((g : GroupInfo) → row (f g) ≡ Known id (group_row g)) → (layout : Layout) → IsWhole layout → fields_of named.Group ≡ shape layout → RowOf row id layout
  group_makes id f is (Pickled (Uint64Item h ∷ Uint64Item l ∷ UnitsItem t ∷ Uint32Item c ∷ []) rest) whole _ = let g = group_of h l t c rest (group_facts h l t c rest whole) in (f g, is g)
  group_makes id f is _ whole e = absurd cc

  abbrev pub group : (id : ℕ) (f : GroupInfo → C) → ((g : GroupInfo) → row (f g) ≡ Known id (group_row g)) → Line row
  group id f is = record { id = id; name = named.Group; make = make_group f; makes = group_makes id f is }
