-- A browser's state and orders are filled from a view one after another: what each more row, window and tab makes of
-- them.
use Rattle.std.proofs.Common.{◌≡◌, ℕ, zero, suc, ◌+◌, ◌<◌, ◌≤◌, Bool, true, false, if◌then◌else◌, ℤ, pos, List, [], ◌∷◌}
use Rattle.std.proofs.Common.{◌++◌, map, take, drop, get_or, length, insert, refl, sym, ap, subst, ◌∙◌, arith}
use Rattle.std.specs.declared.cmp.Ordering.{Ordering}
use Rattle.std.specs.declared.cmp.Ordering.TheVariants.{Less}
use Rattle.std.specs.Ordering.{int_cmp, int_eq, is_eq}
use Rattle.std.specs.BTreeMap.{insert_entry}
use Rattle.std.specs.List.{AllByRecursion}
use Rattle.std.specs.List.Sorted.{IsStrictlySortedBy}
use Rattle.std.proofs.lemmas.Int.{ints}
use Rattle.std.proofs.lemmas.List.{drop_more, drop_all, take_more, take_all, map-append, length-map, length-take}
use Rattle.std.proofs.lemmas.Map.Keys.{sorted_head, sorted_tail}
use Rattle.navigation_entry.specs.declared.navigation.Navigation.{Navigation}
use Rattle.tab_pages.specs.PageLists.{is_natural}
use Rattle.window_state.specs.declared.tab.Tab.{Tab}
use Rattle.window_state.specs.declared.view_parts.ViewTab.{ViewTab}
use Rattle.window_state.specs.declared.view_parts.ViewWindow.{ViewWindow}
use Rattle.window_state.specs.RowLists.{put_row}
use Rattle.window_state.specs.Keys.{tab_key}
use Rattle.window_state.proofs.IdLaws.{equals_itself, same_key, flip}
use Rattle.browser_model.specs.Browsers.{BrowserWindow, own_id, open_key, numbered, row_of, stands_in}
use Rattle.browser_model.specs.Browsers.{all_stands, rows}
use Rattle.browser_model.specs.Beginnings.{begun_tab, begun_window}
use Rattle.browser_model.specs.Tabs.{tabs_of}
use Rattle.browser_model.proofs.PageSteps.{number-put}
use Rattle.browser_driver.specs.Begun.{with_rows, with_tabs, tab_rows}
use Rattle.browser_driver.specs.Held.{AreSeated}
use Rattle.browser_driver.specs.Orders.{order_of, SetsOrder}
use Rattle.browser_driver.proofs.PutLaws.{put-append}

-- what holds of each holds of one
pub all-at : {X : Type 0} (P : X → Type 0) (xs : List X) (i : ℕ) (x : X) → AllByRecursion P xs → i < length xs
    → x ≡ get_or xs i x → P x
all-at {X} P xs i x all within is = subst P (sym is) (at xs i all within)
  where
    at : (ys : List X) (n : ℕ) → AllByRecursion P ys → n < length ys → P (get_or ys n x)
    at [] n all within = absurd (omega arith)
    at (y ∷ ys) zero all within = all.0
    at (y ∷ ys) (suc n) all within = at ys n all.1 (omega arith)

-- the rows of what is left of a list, of which the first is put in
module _ {K R X : Type 0} (cmp : K → K → Ordering) (key : R → K) (rows_of : List X → List R) (all : List R)
    (xs : List X) (i : ℕ) where
  pub row-put : (x : X) (row : R) (known new : List R) → i < length xs → x ≡ get_or xs i x
      → ((ys : List X) → rows_of (x ∷ ys) ≡ row ∷ rows_of ys) → new ≡ put_row cmp key row known
      → with_rows cmp key known (rows_of (drop i xs)) ≡ all → with_rows cmp key new (rows_of (drop (i + 1) xs)) ≡ all
  row-put x row known new within is next put before =
      let left : drop i xs ≡ x ∷ drop (i + 1) xs =
      drop_more xs i x within ∙ ap (λ y. y ∷ drop (i + 1) xs) (sym is) in
      let rest : rows_of (drop i xs) ≡ row ∷ rows_of (drop (i + 1) xs) = ap rows_of left ∙ next (drop (i + 1) xs) in
      ap (λ done. with_rows cmp key done (rows_of (drop (i + 1) xs))) put
      ∙ sym (ap (with_rows cmp key known) rest) ∙ before

  pub rows-put : (x : X) (own known new : List R) → i < length xs → x ≡ get_or xs i x
      → ((ys : List X) → rows_of (x ∷ ys) ≡ own ++ rows_of ys) → new ≡ with_rows cmp key known own
      → with_rows cmp key known (rows_of (drop i xs)) ≡ all → with_rows cmp key new (rows_of (drop (i + 1) xs)) ≡ all
  rows-put x own known new within is next put before =
      let left : drop i xs ≡ x ∷ drop (i + 1) xs =
      drop_more xs i x within ∙ ap (λ y. y ∷ drop (i + 1) xs) (sym is) in
      let rest : rows_of (drop i xs) ≡ own ++ rows_of (drop (i + 1) xs) = ap rows_of left ∙ next (drop (i + 1) xs) in
      ap (λ done. with_rows cmp key done (rows_of (drop (i + 1) xs))) put
      ∙ sym (put-append cmp key known own (rows_of (drop (i + 1) xs)))
      ∙ sym (ap (with_rows cmp key known) rest) ∙ before

  pub rows-done : (done : List R) → length xs ≤ i → rows_of [] ≡ []
      → with_rows cmp key done (rows_of (drop i xs)) ≡ all → done ≡ all
  rows-done done beyond none before =
      sym (ap (with_rows cmp key done) (ap rows_of (drop_all i xs beyond) ∙ none)) ∙ before

-- one more tab at its place
pub tab-put : (window : ℤ) (all : List Tab) (xs : List ViewTab) (i : ℕ) (x : ViewTab) (row : Tab) (known new : List Tab)
    → i < length xs → x ≡ get_or xs i x → row ≡ row_of (record { window = window; place = i; tab = begun_tab x })
    → new ≡ put_row int_cmp tab_key row known → with_tabs known (tab_rows window i (drop i xs)) ≡ all
    → with_tabs new (tab_rows window (i + 1) (drop (i + 1) xs)) ≡ all
tab-put window all xs i x row known new within is at put before =
    let left : drop i xs ≡ x ∷ drop (i + 1) xs = drop_more xs i x within ∙ ap (λ y. y ∷ drop (i + 1) xs) (sym is) in
    let next : i + 1 ≡ suc i = omega arith in
    ap (λ n. with_tabs new (tab_rows window n (drop (i + 1) xs))) next
    ∙ ap (λ done. with_tabs done (tab_rows window (suc i) (drop (i + 1) xs)))
    (put ∙ ap (λ r. put_row int_cmp tab_key r known) at)
    ∙ sym (ap (λ ys. with_tabs known (tab_rows window i ys)) left) ∙ before

-- the rows of a window and of the windows behind it
pub window-rows : (w : BrowserWindow) (ws : List BrowserWindow) → rows (w ∷ ws) ≡ map row_of (stands_in w) ++ rows ws
window-rows w ws = map-append row_of (stands_in w) (all_stands ws)

-- one more page
pub page-put : (xs : List Navigation) (i : ℕ) (x copy : Navigation) (known new : List (ℤ × Navigation)) → i < length xs
    → x ≡ get_or xs i x → copy ≡ x → new ≡ insert_entry int_cmp known (pos i) copy
    → known ≡ numbered zero (take i xs) → new ≡ numbered zero (take (i + 1) xs)
page-put xs i x copy known new within is same put before =
    let long : zero + length (take i xs) ≡ i = omega (arith, length-take i xs) in
    let more : take (i + 1) xs ≡ take i xs ++ x ∷ [] =
    take_more xs i x within ∙ ap (λ y. take i xs ++ y ∷ []) (sym is) in
    let natural : is_natural (pos i) ≡ true = grind (arith, ints) in
    let last : insert_entry int_cmp (numbered zero (take i xs)) (pos i) x ≡ numbered zero (take i xs ++ x ∷ []) =
    rw natural at (number-put zero i x (take i xs) long) in
    put ∙ ap (λ ps. insert_entry int_cmp ps (pos i) copy) before
    ∙ ap (insert_entry int_cmp (numbered zero (take i xs)) (pos i)) same ∙ last ∙ sym (ap (numbered zero) more)

-- one more tab in the order of its window
abbrev pub ids_of : List ViewTab → List ℤ
ids_of ts = map own_id (map begun_tab ts)

insert-last : (xs : List ℤ) (n : ℕ) (x : ℤ) → length xs ≡ n → insert xs n x ≡ xs ++ x ∷ []
insert-last [] n x e = let none : n ≡ zero = omega (arith, e) in rw none refl
insert-last (y ∷ ys) zero x e = absurd (omega (arith, e))
insert-last (y ∷ ys) (suc n) x e = ap (λ zs. y ∷ zs) (insert-last ys n x (omega (arith, e)))

module _ (window : ℤ) (first : List (ℤ × List ℤ)) where
  pub order-begun : order_of window first ≡ [] → SetsOrder window [] first first
  order-begun none w = by (int_eq window w) refl
    where
      by : (b : Bool) → int_eq window w ≡ b → order_of w first ≡ (if b then [] else order_of w first)
      by true e = subst (λ v. order_of v first ≡ []) (same_key window w e) none
      by false e = refl

  pub order-own : (ids : List ℤ) (orders : List (ℤ × List ℤ)) → SetsOrder window ids first orders
      → order_of window orders ≡ ids
  order-own ids orders sets =
      sets window ∙ ap (λ b. if b then ids else order_of window first) (equals_itself window)

  pub tab-seated : (ts : List ViewTab) (i : ℕ) (t : ViewTab) (orders new : List (ℤ × List ℤ)) → i < length ts
      → t ≡ get_or ts i t → SetsOrder window (insert (order_of window orders) i t.info.id) orders new
      → SetsOrder window (ids_of (take i ts)) first orders → SetsOrder window (ids_of (take (i + 1) ts)) first new
  tab-seated ts i t orders new within is put sets w = put w ∙ by (int_eq window w) refl
    where
      ids_are : insert (order_of window orders) i t.info.id ≡ ids_of (take (i + 1) ts)
      ids_are =
          let long : length (ids_of (take i ts)) ≡ i =
          length-map (map begun_tab (take i ts)) own_id ∙ length-map (take i ts) begun_tab
          ∙ omega (arith, length-take i ts) in
          let more : take (i + 1) ts ≡ take i ts ++ t ∷ [] =
          take_more ts i t within ∙ ap (λ u. take i ts ++ u ∷ []) (sym is) in
          ap (λ ids. insert ids i t.info.id) (order-own (ids_of (take i ts)) orders sets)
          ∙ insert-last (ids_of (take i ts)) i t.info.id long
          ∙ sym (ap ids_of more ∙ ap (map own_id) (map-append begun_tab (take i ts) (t ∷ []))
          ∙ map-append own_id (map begun_tab (take i ts)) (begun_tab t ∷ []))

      by : (b : Bool) → int_eq window w ≡ b
          → (if b then insert (order_of window orders) i t.info.id else order_of w orders)
          ≡ (if b then ids_of (take (i + 1) ts) else order_of w first)
      by true e = ids_are
      by false e = sets w ∙ rw e refl

  pub room-for : (ts : List ViewTab) (i : ℕ) (orders : List (ℤ × List ℤ)) → i < length ts
      → SetsOrder window (ids_of (take i ts)) first orders → i ≤ length (order_of window orders)
  room-for ts i orders within sets =
      let long = ap length (order-own (ids_of (take i ts)) orders sets)
      ∙ length-map (map begun_tab (take i ts)) own_id ∙ length-map (take i ts) begun_tab in
      omega (arith, long, length-take i ts)

  pub all-seated : (ts : List ViewTab) (i : ℕ) (orders : List (ℤ × List ℤ)) → length ts ≤ i
      → SetsOrder window (ids_of (take i ts)) first orders → SetsOrder window (ids_of ts) first orders
  all-seated ts i orders beyond sets =
      subst (λ us. SetsOrder window (ids_of us) first orders) (take_all i ts beyond) sets

-- one more window, behind those before it
module _ (w : BrowserWindow) where
  abbrev AreOthers : List BrowserWindow → Type 0
  AreOthers vs = AllByRecursion (λ v. is_eq (int_cmp w.info.id v.info.id) ≡ false) vs

  others : (vs : List BrowserWindow) → IsStrictlySortedBy int_cmp (map open_key (vs ++ w ∷ [])) → AreOthers vs
  others [] sorted = tt
  others (v ∷ vs) sorted =
      let less : int_cmp v.info.id w.info.id ≡ Less =
      last vs (sorted_head int_cmp v.info.id (map open_key (vs ++ w ∷ [])) sorted) in
      let apart : is_eq (int_cmp v.info.id w.info.id) ≡ false = rw less refl in (
        flip v.info.id w.info.id apart,
        others vs (sorted_tail int_cmp v.info.id (map open_key (vs ++ w ∷ [])) sorted),
      )
    where
      last : (us : List BrowserWindow) → AllByRecursion (λ y. int_cmp v.info.id y ≡ Less) (map open_key (us ++ w ∷ []))
          → int_cmp v.info.id w.info.id ≡ Less
      last [] all = all.0
      last (u ∷ us) all = last us all.1

  none-before : (vs : List BrowserWindow) → AreOthers vs → tabs_of w.info.id vs ≡ []
  none-before [] all = refl
  none-before (v ∷ vs) all = rw all.0 (none-before vs all.1)

  tabs-last : (q : ℤ) (vs : List BrowserWindow) → AreOthers vs
      → tabs_of q (vs ++ w ∷ []) ≡ (if int_eq w.info.id q then w.tabs else tabs_of q vs)
  tabs-last q [] all = by (int_eq w.info.id q) refl
    where
      by : (b : Bool) → int_eq w.info.id q ≡ b → tabs_of q (w ∷ []) ≡ (if int_eq w.info.id q then w.tabs else [])
      by true e =
          let own : is_eq (int_cmp q w.info.id) ≡ true =
          subst (λ j. is_eq (int_cmp j w.info.id) ≡ true) (same_key w.info.id q e) (equals_itself w.info.id) in
          rw (e, own) refl
      by false e = let apart = flip w.info.id q e in rw (e, apart) refl
  tabs-last q (v ∷ vs) all = by (tabs-last q vs all.1) (is_eq (int_cmp q v.info.id)) refl
    where
      by : tabs_of q (vs ++ w ∷ []) ≡ (if int_eq w.info.id q then w.tabs else tabs_of q vs) → (b : Bool)
          → is_eq (int_cmp q v.info.id) ≡ b
          → tabs_of q (v ∷ vs ++ w ∷ []) ≡ (if int_eq w.info.id q then w.tabs else tabs_of q (v ∷ vs))
      by rest true e =
          let apart : is_eq (int_cmp w.info.id q) ≡ false =
          subst (λ j. is_eq (int_cmp w.info.id j) ≡ false) (sym (same_key q v.info.id e)) all.0 in
          rw (e, apart) refl
      by rest false e = rw e rest

  module _ (done : List BrowserWindow) (sorted : IsStrictlySortedBy int_cmp (map open_key (done ++ w ∷ [])))
      (orders : List (ℤ × List ℤ)) (seated : AreSeated orders done) where
    pub unseated : order_of w.info.id orders ≡ []
    unseated = seated w.info.id ∙ ap (map own_id) (none-before done (others done sorted))

    pub window-seated : (new : List (ℤ × List ℤ)) → SetsOrder w.info.id (map own_id w.tabs) orders new
        → AreSeated new (done ++ w ∷ [])
    window-seated new sets q = sets q ∙ by (int_eq w.info.id q) refl
      where
        is : tabs_of q (done ++ w ∷ []) ≡ (if int_eq w.info.id q then w.tabs else tabs_of q done)
        is = tabs-last q done (others done sorted)

        by : (b : Bool) → int_eq w.info.id q ≡ b
            → (if b then map own_id w.tabs else order_of q orders) ≡ map own_id (tabs_of q (done ++ w ∷ []))
        by true e = sym (ap (map own_id) (is ∙ ap (λ b. if b then w.tabs else tabs_of q done) e))
        by false e = seated q ∙ sym (ap (map own_id) (is ∙ ap (λ b. if b then w.tabs else tabs_of q done) e))

abbrev pub shown_ids : List ViewWindow → List ℤ
shown_ids shown = map open_key (map begun_window shown)

sorted-front : (n : ℕ) (shown : List ViewWindow) → IsStrictlySortedBy int_cmp (shown_ids shown)
    → IsStrictlySortedBy int_cmp (shown_ids (take n shown))
unfolding IsStrictlySortedBy
sorted-front zero shown sorted = tt
sorted-front (suc n) [] sorted = tt
sorted-front (suc n) (w ∷ ws) sorted = (above n ws sorted.0, sorted-front n ws sorted.1)
  where
    above : (n : ℕ) (vs : List ViewWindow) → AllByRecursion (λ y. int_cmp w.info.id y ≡ Less) (shown_ids vs)
        → AllByRecursion (λ y. int_cmp w.info.id y ≡ Less) (shown_ids (take n vs))
    above zero vs all = tt
    above (suc n) [] all = tt
    above (suc n) (v ∷ vs) all = (all.0, above n vs all.1)

pub none-seated : (orders : List (ℤ × List ℤ)) → orders ≡ [] → AreSeated orders []
none-seated orders is q = ap (order_of q) is

-- the windows of a view as far as a loop has come, of which the next is this one
module _ (shown : List ViewWindow) (i : ℕ) (x : ViewWindow) (within : i < length shown) (is : x ≡ get_or shown i x)
    (sorted : IsStrictlySortedBy int_cmp (shown_ids shown)) (orders : List (ℤ × List ℤ))
    (seated : AreSeated orders (map begun_window (take i shown))) where
  more : map begun_window (take (i + 1) shown) ≡ map begun_window (take i shown) ++ begun_window x ∷ []
  more =
      ap (map begun_window) (take_more shown i x within ∙ ap (λ y. take i shown ++ y ∷ []) (sym is))
      ∙ map-append begun_window (take i shown) (x ∷ [])

  so-far : IsStrictlySortedBy int_cmp (map open_key (map begun_window (take i shown) ++ begun_window x ∷ []))
  so-far = subst (λ ws. IsStrictlySortedBy int_cmp (map open_key ws)) more (sorted-front (i + 1) shown sorted)

  pub next-unseated : order_of x.info.id orders ≡ []
  next-unseated = unseated (begun_window x) (map begun_window (take i shown)) so-far orders seated

  pub next-seated : (new : List (ℤ × List ℤ)) → SetsOrder x.info.id (ids_of x.tabs) orders new
      → AreSeated new (map begun_window (take (i + 1) shown))
  next-seated new sets = subst (AreSeated new) (sym more)
      (window-seated (begun_window x) (map begun_window (take i shown)) so-far orders seated new sets)
