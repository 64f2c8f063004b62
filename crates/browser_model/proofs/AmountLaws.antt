-- What the tabs of all windows come to by a measure of one tab, as their number or their pages, when tabs change, come
-- and go.
use Rattle.std.proofs.Common.{◌≡◌, ℕ, zero, suc, ◌+◌, ◌≤◌, Bool, true, false, not, cond, ℤ, List, [], ◌∷◌}
use Rattle.std.proofs.Common.{◌++◌, map, filter, flat_map, take, drop, length, sum_by, Some, refl, sym, ap, subst}
use Rattle.std.proofs.Common.{◌∙◌, arith}
use Rattle.std.specs.Ordering.{int_cmp, is_eq}
use Rattle.std.proofs.lemmas.List.{map-append}
use Rattle.std.proofs.lemmas.List.Elements.{filter-append}
use Rattle.std.proofs.lemmas.List.Filters.{sum_by-filter_both}
use Rattle.std.proofs.lemmas.List.Sums.{sum_by-cons, sum_by-append, sum_by-take-drop, length-filter}
use Rattle.window_state.specs.RowLists.{find_row, only, on_key}
use Rattle.window_state.proofs.IdLaws.{same_key}
use Rattle.browser_model.specs.Browsers.{BrowserWindow, BrowserTab, Stand, own_id, stand_key}
use Rattle.browser_model.specs.Browsers.{stands_from, stands_in, all_stands}
use Rattle.browser_model.specs.Tabs.{is_other, put_at, with_tabs}

abbrev pub all_tabs : List BrowserWindow → List BrowserTab
all_tabs windows = flat_map (λ w. w.tabs) windows

abbrev pub page_count : BrowserTab → ℕ
page_count t = length t.pages

-- the tabs of stands
pub tabs-from : (window : ℤ) (n : ℕ) (ts : List BrowserTab) → map (λ s. s.tab) (stands_from window n ts) ≡ ts
tabs-from window n [] = refl
tabs-from window n (t ∷ ts) = ap (λ xs. t ∷ xs) (tabs-from window (suc n) ts)

pub tabs-stand : (ws : List BrowserWindow) → map (λ s. s.tab) (all_stands ws) ≡ all_tabs ws
tabs-stand [] = refl
tabs-stand (w ∷ ws) =
    map-append (λ (s : Stand). s.tab) (stands_in w) (all_stands ws)
    ∙ ap (λ xs. xs ++ map (λ s. s.tab) (all_stands ws)) (tabs-from w.info.id zero w.tabs)
    ∙ ap (λ xs. w.tabs ++ xs) (tabs-stand ws)

pub one-each : {X : Type 0} (xs : List X) → sum_by (λ x. 1) xs ≡ length xs
one-each [] = refl
one-each (x ∷ xs) = let rest = one-each xs in let first = sum_by-cons (λ y. 1) x xs in omega arith

pub sum-map : {X Y : Type 0} (g : X → Y) (f : Y → ℕ) (xs : List X) → sum_by f (map g xs) ≡ sum_by (λ x. f (g x)) xs
sum-map g f [] = refl
sum-map g f (x ∷ xs) =
    let rest = sum-map g f xs in
    let first = sum_by-cons f (g x) (map g xs) in
    let second = sum_by-cons (λ y. f (g y)) x xs in
    omega arith

pub sum-stands : (f : BrowserTab → ℕ) (ws : List BrowserWindow)
    → sum_by (λ s. f s.tab) (all_stands ws) ≡ sum_by f (all_tabs ws)
sum-stands f ws = sym (sum-map (λ (s : Stand). s.tab) f (all_stands ws)) ∙ ap (sum_by f) (tabs-stand ws)

pub length-stands : (ws : List BrowserWindow) → length (all_stands ws) ≡ length (all_tabs ws)
length-stands ws = sym (one-each (all_stands ws)) ∙ sum-stands (λ t. 1) ws ∙ one-each (all_tabs ws)

-- a tab counts under its own id
abbrev pub count_under : ℤ → BrowserTab → ℕ
count_under id t = cond (is_eq (int_cmp id t.info.id)) 1 0

pub count-stands : (id : ℤ) (ws : List BrowserWindow)
    → length (only int_cmp stand_key id (all_stands ws)) ≡ sum_by (count_under id) (all_tabs ws)
count-stands id ws = length-filter (λ s. is_eq (int_cmp id (stand_key s))) (all_stands ws)
    ∙ sum-stands (count_under id) ws

-- a tab that is found
find-tab : (id : ℤ) (xs : List Stand) (s : Stand) → find_row int_cmp stand_key id xs ≡ Some s
    → find_row int_cmp own_id id (map (λ x. x.tab) xs) ≡ Some s.tab
find-tab id [] s found = absurd cc
find-tab id (x ∷ xs) s found = by (find-tab id xs s) (is_eq (int_cmp id x.tab.info.id)) refl
  where
    by : (find_row int_cmp stand_key id xs ≡ Some s → find_row int_cmp own_id id (map (λ x. x.tab) xs) ≡ Some s.tab)
        → (b : Bool) → is_eq (int_cmp id x.tab.info.id) ≡ b
        → find_row int_cmp own_id id (map (λ x. x.tab) (x ∷ xs)) ≡ Some s.tab
    by rest true e =
        let here : Some x ≡ Some s = rw e at found in
        let is : x ≡ s = cc in
        rw e (ap (λ (y : Stand). Some y.tab) is)
    by rest false e = rw e (rest (rw e at found))

pub found-tab : (id : ℤ) (ws : List BrowserWindow) (s : Stand) → find_row int_cmp stand_key id (all_stands ws) ≡ Some s
    → find_row int_cmp own_id id (all_tabs ws) ≡ Some s.tab
found-tab id ws s found = subst (λ ts. find_row int_cmp own_id id ts ≡ Some s.tab) (tabs-stand ws)
    (find-tab id (all_stands ws) s found)

pub found-key : (id : ℤ) (ts : List BrowserTab) (t : BrowserTab) → find_row int_cmp own_id id ts ≡ Some t
    → id ≡ t.info.id
found-key id [] t found = absurd cc
found-key id (x ∷ xs) t found = by (found-key id xs t) (is_eq (int_cmp id x.info.id)) refl
  where
    by : (find_row int_cmp own_id id xs ≡ Some t → id ≡ t.info.id) → (b : Bool) → is_eq (int_cmp id x.info.id) ≡ b
        → id ≡ t.info.id
    by rest true e =
        let here : Some x ≡ Some t = rw e at found in
        let is : x ≡ t = cc in
        same_key id x.info.id e ∙ ap own_id is
    by rest false e = rest (rw e at found)

module _ (f : BrowserTab → ℕ) where
  -- what is left when a tab goes
  pub sum-others : (id : ℤ) (ts : List BrowserTab) (t : BrowserTab) → find_row int_cmp own_id id ts ≡ Some t
      → sum_by f (filter (is_other id) ts) + f t ≤ sum_by f ts
  sum-others id [] t found = absurd cc
  sum-others id (x ∷ xs) t found = by (sum-others id xs t) (is_eq (int_cmp id x.info.id)) refl
    where
      by : (find_row int_cmp own_id id xs ≡ Some t → sum_by f (filter (is_other id) xs) + f t ≤ sum_by f xs)
          → (b : Bool) → is_eq (int_cmp id x.info.id) ≡ b
          → sum_by f (filter (is_other id) (x ∷ xs)) + f t ≤ sum_by f (x ∷ xs)
      by rest true e =
          let here : Some x ≡ Some t = rw e at found in
          let is : x ≡ t = cc in
          let same : f x ≡ f t = ap f is in
          let few = sum_by-filter_both (is_other id) (λ x. not (is_other id x)) (λ x. refl) f xs in
          let all = sum_by-cons f x xs in
          rw e (omega arith)
      by rest false e =
          let less = rest (rw e at found) in
          let all = sum_by-cons f x xs in
          let one = sum_by-cons f x (filter (is_other id) xs) in
          rw e (omega arith)

  -- a tab becomes another; no other tab has its id
  none-put : (id : ℤ) (new : BrowserTab) (ts : List BrowserTab) → sum_by (count_under id) ts ≤ 0
      → sum_by f (map (on_key int_cmp own_id id (λ t. new)) ts) ≡ sum_by f ts
  none-put id new [] few = refl
  none-put id new (t ∷ ts) few = by (none-put id new ts) (is_eq (int_cmp id t.info.id)) refl
    where
      by : (sum_by (count_under id) ts ≤ 0
          → sum_by f (map (on_key int_cmp own_id id (λ t. new)) ts) ≡ sum_by f ts) → (b : Bool)
          → is_eq (int_cmp id t.info.id) ≡ b
          → sum_by f (map (on_key int_cmp own_id id (λ t. new)) (t ∷ ts)) ≡ sum_by f (t ∷ ts)
      by rest true e =
          let one : count_under id t ≡ 1 = ap (λ b. cond b 1 0) e in
          let counted = sum_by-cons (count_under id) t ts in
          absurd (omega arith)
      by rest false e =
          let none : count_under id t ≡ 0 = ap (λ b. cond b 1 0) e in
          let counted = sum_by-cons (count_under id) t ts in
          let same = rest (omega arith) in
          let all = sum_by-cons f t ts in
          let put = sum_by-cons f t (map (on_key int_cmp own_id id (λ t. new)) ts) in
          rw e (omega arith)

  pub sum-put : (id : ℤ) (new : BrowserTab) (ts : List BrowserTab) (t : BrowserTab)
      → find_row int_cmp own_id id ts ≡ Some t → sum_by (count_under id) ts ≤ 1
      → sum_by f (map (on_key int_cmp own_id id (λ t. new)) ts) + f t ≡ sum_by f ts + f new
  sum-put id new [] t found few = absurd cc
  sum-put id new (x ∷ xs) t found few = by (sum-put id new xs t) (is_eq (int_cmp id x.info.id)) refl
    where
      by : (find_row int_cmp own_id id xs ≡ Some t → sum_by (count_under id) xs ≤ 1
          → sum_by f (map (on_key int_cmp own_id id (λ t. new)) xs) + f t ≡ sum_by f xs + f new) → (b : Bool)
          → is_eq (int_cmp id x.info.id) ≡ b
          → sum_by f (map (on_key int_cmp own_id id (λ t. new)) (x ∷ xs)) + f t ≡ sum_by f (x ∷ xs) + f new
      by rest true e =
          let here : Some x ≡ Some t = rw e at found in
          let is : x ≡ t = cc in
          let same : f x ≡ f t = ap f is in
          let one : count_under id x ≡ 1 = ap (λ b. cond b 1 0) e in
          let counted = sum_by-cons (count_under id) x xs in
          let left = none-put id new xs (omega arith) in
          let all = sum_by-cons f x xs in
          let put = sum_by-cons f new (map (on_key int_cmp own_id id (λ t. new)) xs) in
          rw e (omega arith)
      by rest false e =
          let none : count_under id x ≡ 0 = ap (λ b. cond b 1 0) e in
          let counted = sum_by-cons (count_under id) x xs in
          let later = rest (rw e at found) (omega arith) in
          let all = sum_by-cons f x xs in
          let put = sum_by-cons f x (map (on_key int_cmp own_id id (λ t. new)) xs) in
          rw e (omega arith)

  pub sum-put_at : (place : ℕ) (t : BrowserTab) (ts : List BrowserTab)
      → sum_by f (put_at place t ts) ≡ sum_by f ts + f t
  sum-put_at place t ts =
      let parts = sum_by-append f (take place ts) (t ∷ drop place ts) in
      let behind = sum_by-cons f t (drop place ts) in
      let all = sum_by-take-drop f ts place in
      omega arith

-- tabs that change or go wherever they stand
pub all-map : (change : BrowserTab → BrowserTab) (ws : List BrowserWindow)
    → all_tabs (map (with_tabs (map change)) ws) ≡ map change (all_tabs ws)
all-map change [] = refl
all-map change (w ∷ ws) = ap (λ ts. map change w.tabs ++ ts) (all-map change ws)
    ∙ sym (map-append change w.tabs (all_tabs ws))

pub all-filter : (p : BrowserTab → Bool) (ws : List BrowserWindow)
    → all_tabs (map (with_tabs (filter p)) ws) ≡ filter p (all_tabs ws)
all-filter p [] = refl
all-filter p (w ∷ ws) = ap (λ ts. filter p w.tabs ++ ts) (all-filter p ws) ∙ sym (filter-append p w.tabs (all_tabs ws))
