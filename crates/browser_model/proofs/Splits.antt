-- Where a tab stands: the windows before and after its window, the tabs before and after it.
use Rattle.std.proofs.Common.{◌≡◌, ℕ, zero, suc, ◌+◌, Bool, true, false, ℤ, List, [], ◌∷◌, ◌++◌, map, filter, length}
use Rattle.std.proofs.Common.{take, drop, Some, refl, sym, ap, subst, ◌∙◌, append_assoc, arith}
use Rattle.std.specs.declared.cmp.Ordering.TheVariants.{Less, Greater}
use Rattle.std.specs.Ordering.{int_cmp, is_eq}
use Rattle.std.specs.Cmp.{int_cmp_total}
use Rattle.std.specs.List.{AllByRecursion}
use Rattle.std.specs.List.Sorted.{IsStrictlySortedBy}
use Rattle.std.proofs.lemmas.Map.Keys.{sorted_head, sorted_tail}
use Rattle.std.proofs.lemmas.List.Elements.{filter-append}
use Rattle.std.proofs.lemmas.List.Concat.{flat_map-append}
use Rattle.std.proofs.lemmas.List.{map-append}
use Rattle.window_state.specs.declared.tab.Tab.{Tab}
use Rattle.window_state.specs.RowLists.{find_row, only, on_key}
use Rattle.window_state.proofs.IdLaws.{equals_itself, same_key}
use Rattle.browser_model.specs.Browsers.{BrowserWindow, BrowserTab, Stand, own_id, open_key, stand_key, row_of}
use Rattle.browser_model.specs.Browsers.{stands_from, stands_in, all_stands, rows}
use Rattle.browser_model.specs.Tabs.{tabs_of, with_tabs, is_other, taken_out, later_tabs}
use Rattle.browser_model.proofs.Renumber.{rows_from}

pub record TabSplit (id window : ℤ) (n : ℕ) (ts : List BrowserTab) (s : Stand) : Type 0 where
  pub pre : List BrowserTab
  pub post : List BrowserTab
  pub is : ts ≡ pre ++ s.tab ∷ post
  pub window_is : s.window ≡ window
  pub place : s.place ≡ n + length pre
  pub key : id ≡ s.tab.info.id
  pub none_pre : only int_cmp own_id id pre ≡ []
  pub none_post : only int_cmp own_id id post ≡ []

none_from : (id window : ℤ) (n : ℕ) (ts : List BrowserTab) → only int_cmp stand_key id (stands_from window n ts) ≡ []
    → only int_cmp own_id id ts ≡ []
none_from id window n [] none = refl
none_from id window n (t ∷ ts) none = by (none_from id window (suc n) ts) (is_eq (int_cmp id t.info.id)) refl
  where
    by : (only int_cmp stand_key id (stands_from window (suc n) ts) ≡ [] → only int_cmp own_id id ts ≡ []) → (b : Bool)
        → is_eq (int_cmp id t.info.id) ≡ b → only int_cmp own_id id (t ∷ ts) ≡ []
    by rest true e = let none' : record { window = window; place = n; tab = t } ∷ only int_cmp stand_key id
        (stands_from window (suc n) ts) ≡ [] = rw e at none in absurd cc
    by rest false e = rw e (rest (rw e at none))

pub split-tab : (id window : ℤ) (n : ℕ) (ts : List BrowserTab) (s : Stand)
    → only int_cmp stand_key id (stands_from window n ts) ≡ s ∷ [] → TabSplit id window n ts s
split-tab id window n [] s one = absurd cc
split-tab id window n (t ∷ ts) s one = by (split-tab id window (suc n) ts s) (is_eq (int_cmp id t.info.id)) refl
  where
    by : (only int_cmp stand_key id (stands_from window (suc n) ts) ≡ s ∷ [] → TabSplit id window (suc n) ts s)
        → (b : Bool) → is_eq (int_cmp id t.info.id) ≡ b → TabSplit id window n (t ∷ ts) s
    by rest true e =
        let here : Stand = record { window = window; place = n; tab = t } in
        let one' : here ∷ only int_cmp stand_key id (stands_from window (suc n) ts) ≡ s ∷ [] = rw e at one in
        let first : here ≡ s = cc in
        let none : only int_cmp stand_key id (stands_from window (suc n) ts) ≡ [] = cc in
        let tab_is : t ≡ s.tab = ap (λ (x : Stand). x.tab) first in
        let place_is : n ≡ s.place = ap (λ (x : Stand). x.place) first in
        record {
          pre = [];
          post = ts;
          is = ap (λ x. x ∷ ts) tab_is;
          window_is = ap (λ (x : Stand). x.window) (sym first);
          place = omega (arith, place_is);
          key = same_key id t.info.id e ∙ ap own_id tab_is;
          none_pre = refl;
          none_post = none_from id window (suc n) ts none;
        }
    by rest false e =
        let r = rest (rw e at one) in
        record {
          pre = t ∷ r.pre;
          post = r.post;
          is = ap (λ xs. t ∷ xs) r.is;
          window_is = r.window_is;
          place = let p = r.place in omega (arith, p);
          key = r.key;
          none_pre = rw e r.none_pre;
          none_post = r.none_post;
        }

pub record Split (id : ℤ) (windows : List BrowserWindow) (s : Stand) : Type 0 where
  pub before : List BrowserWindow
  pub own : BrowserWindow
  pub after : List BrowserWindow
  pub is : windows ≡ before ++ own ∷ after
  pub tab : TabSplit id own.info.id zero own.tabs s
  pub none_before : only int_cmp stand_key id (all_stands before) ≡ []
  pub none_after : only int_cmp stand_key id (all_stands after) ≡ []

only-append : (id : ℤ) (xs ys : List Stand)
    → only int_cmp stand_key id (xs ++ ys) ≡ only int_cmp stand_key id xs ++ only int_cmp stand_key id ys
only-append id xs ys = filter-append (λ s. is_eq (int_cmp id (stand_key s))) xs ys

pub split : (id : ℤ) (windows : List BrowserWindow) (s : Stand)
    → only int_cmp stand_key id (all_stands windows) ≡ s ∷ [] → Split id windows s
split id [] s one = absurd cc
split id (w ∷ ws) s one = by (split id ws s) (only int_cmp stand_key id (stands_in w)) refl
    (sym (only-append id (stands_in w) (all_stands ws)) ∙ one)
  where
    by : (only int_cmp stand_key id (all_stands ws) ≡ s ∷ [] → Split id ws s) → (xs : List Stand)
        → only int_cmp stand_key id (stands_in w) ≡ xs
        → only int_cmp stand_key id (stands_in w) ++ only int_cmp stand_key id (all_stands ws) ≡ s ∷ []
        → Split id (w ∷ ws) s
    by rest [] e all =
        let r = rest (ap (λ ys. ys ++ only int_cmp stand_key id (all_stands ws)) (sym e) ∙ all) in
        record {
          before = w ∷ r.before;
          own = r.own;
          after = r.after;
          is = ap (λ xs. w ∷ xs) r.is;
          tab = r.tab;
          none_before = only-append id (stands_in w) (all_stands r.before)
              ∙ ap (λ ys. ys ++ only int_cmp stand_key id (all_stands r.before)) e ∙ r.none_before;
          none_after = r.none_after;
        }
    by rest (x ∷ xs) e all =
        let all' : x ∷ xs ++ only int_cmp stand_key id (all_stands ws) ≡ s ∷ [] =
        ap (λ ys. ys ++ only int_cmp stand_key id (all_stands ws)) (sym e) ∙ all in
        let first : x ≡ s = cc in
        let tails : xs ++ only int_cmp stand_key id (all_stands ws) ≡ [] = cc in
        let both = empty xs (only int_cmp stand_key id (all_stands ws)) tails in
        record {
          before = [];
          own = w;
          after = ws;
          is = refl;
          tab = split-tab id w.info.id zero w.tabs s (e ∙ ap (λ y. y ∷ xs) first ∙ ap (λ ys. s ∷ ys) both.0);
          none_before = refl;
          none_after = both.1;
        }
      where
        empty : (xs ys : List Stand) → xs ++ ys ≡ [] → (xs ≡ []) × (ys ≡ [])
        empty [] ys h = (refl, h)
        empty (z ∷ xs) ys h = absurd cc

-- rows of windows with one among them, whose tabs are in two parts
pub stands-append : (window : ℤ) (n : ℕ) (pre post : List BrowserTab)
    → stands_from window n (pre ++ post) ≡ stands_from window n pre ++ stands_from window (n + length pre) post
stands-append window n [] post = let e : n ≡ n + 0 = omega arith in ap (λ m. stands_from window m post) e
stands-append window n (p ∷ pre) post =
    let e : suc n + length pre ≡ n + suc (length pre) = omega arith in
    ap (λ xs. record { window = window; place = n; tab = p } ∷ xs)
    (stands-append window (suc n) pre post ∙ ap (λ m. stands_from window (suc n) pre ++ stands_from window m post)
    e)

-- all rows before a place of a window
abbrev pub front : List BrowserWindow → BrowserWindow → List BrowserTab → List Tab
front before own pre = rows before ++ rows_from own.info.id zero pre

pub rows-split : (before : List BrowserWindow) (own : BrowserWindow) (after : List BrowserWindow)
    (pre post : List BrowserTab) → own.tabs ≡ pre ++ post
    → rows (before ++ own ∷ after) ≡ front before own pre ++ (rows_from own.info.id (length pre) post ++ rows after)
rows-split before own after pre post is =
    let zero_on : zero + length pre ≡ length pre = omega arith in
    ap (map row_of) (flat_map-append stands_in before (own ∷ after))
    ∙ map-append row_of (all_stands before) (stands_in own ++ all_stands after)
    ∙ ap (λ xs. rows before ++ xs) (map-append row_of (stands_in own) (all_stands after)
    ∙ ap (λ xs. map row_of xs ++ rows after) (ap (stands_from own.info.id zero) is
    ∙ stands-append own.info.id zero pre post
    ∙ ap (λ m. stands_from own.info.id zero pre ++ stands_from own.info.id m post) zero_on)
    ∙ ap (λ xs. xs ++ rows after) (map-append row_of (stands_from own.info.id zero pre)
    (stands_from own.info.id (length pre) post))
    ∙ append_assoc (rows_from own.info.id zero pre) (rows_from own.info.id (length pre) post) (rows after))
    ∙ sym (append_assoc (rows before) (rows_from own.info.id zero pre)
    (rows_from own.info.id (length pre) post ++ rows after))

-- windows in order: the one under its key, and a change of it
greater : (x y : ℤ) → int_cmp x y ≡ Less → is_eq (int_cmp y x) ≡ false
greater x y less = let e : int_cmp y x ≡ Greater = int_cmp_total.antisymm y x ∙ rw less refl in rw e refl

abbrev pub InOrder : List BrowserWindow → Type 0
InOrder windows = IsStrictlySortedBy int_cmp (map open_key windows)

beside : (before : List BrowserWindow) (own : BrowserWindow) (after : List BrowserWindow) (w : BrowserWindow)
    → InOrder (w ∷ before ++ own ∷ after) → is_eq (int_cmp own.info.id w.info.id) ≡ false
beside before own after w sorted = greater w.info.id own.info.id
    (less before (sorted_head int_cmp w.info.id (map open_key (before ++ own ∷ after)) sorted))
  where
    less : (ws : List BrowserWindow) → AllByRecursion (λ y. int_cmp w.info.id y ≡ Less)
        (map open_key (ws ++ own ∷ after)) → int_cmp w.info.id own.info.id ≡ Less
    less [] all = all.0
    less (v ∷ ws) all = less ws all.1

pub find-own : (before : List BrowserWindow) (own : BrowserWindow) (after : List BrowserWindow)
    → InOrder (before ++ own ∷ after) → find_row int_cmp open_key own.info.id (before ++ own ∷ after) ≡ Some own
find-own [] own after sorted = rw (equals_itself own.info.id) refl
find-own (w ∷ before) own after sorted = rw (beside before own after w sorted)
    (find-own before own after (sorted_tail int_cmp w.info.id (map open_key (before ++ own ∷ after)) sorted))

pub change-own : (change : BrowserWindow → BrowserWindow) (before : List BrowserWindow) (own : BrowserWindow)
    (after : List BrowserWindow) → InOrder (before ++ own ∷ after)
    → map (on_key int_cmp open_key own.info.id change) (before ++ own ∷ after) ≡ before ++ change own ∷ after
change-own change [] own after sorted = rw (equals_itself own.info.id)
    (ap (λ ws. change own ∷ ws) (left after (sorted_head int_cmp own.info.id (map open_key after) sorted)))
  where
    left : (ws : List BrowserWindow) → AllByRecursion (λ y. int_cmp own.info.id y ≡ Less) (map open_key ws)
        → map (on_key int_cmp open_key own.info.id change) ws ≡ ws
    left [] all = refl
    left (w ∷ ws) all = rw all.0 (ap (λ vs. w ∷ vs) (left ws all.1))
change-own change (w ∷ before) own after sorted =
    rw (beside before own after w sorted) (ap (λ ws. w ∷ ws)
    (change-own change before own after (sorted_tail int_cmp w.info.id (map open_key (before ++ own ∷ after))
    sorted)))

-- windows split at a live one
pub find-split : (id : ℤ) (windows : List BrowserWindow) (own : BrowserWindow)
    → find_row int_cmp open_key id windows ≡ Some own
    → (before : List BrowserWindow) × (after : List BrowserWindow) × (windows ≡ before ++ own ∷ after)
    × (id ≡ own.info.id)
find-split id [] own found = absurd cc
find-split id (w ∷ ws) own found = by (find-split id ws own) (is_eq (int_cmp id w.info.id)) refl
  where
    by : (find_row int_cmp open_key id ws ≡ Some own
        → (before : List BrowserWindow) × (after : List BrowserWindow) × (ws ≡ before ++ own ∷ after)
        × (id ≡ own.info.id)) → (b : Bool) → is_eq (int_cmp id w.info.id) ≡ b
        → (before : List BrowserWindow) × (after : List BrowserWindow) × (w ∷ ws ≡ before ++ own ∷ after)
        × (id ≡ own.info.id)
    by rest true e =
        let found' : Some w ≡ Some own = rw e at found in
        let same : w ≡ own = cc in
        ([], ws, ap (λ v. v ∷ ws) same, same_key id w.info.id e ∙ ap open_key same)
    by rest false e = let r = rest (rw e at found) in (w ∷ r.0, r.1, ap (λ vs. w ∷ vs) r.2, r.3)

-- a tab that isn't there isn't taken out
pub others-stay : (id : ℤ) (ts : List BrowserTab) → only int_cmp own_id id ts ≡ [] → filter (is_other id) ts ≡ ts
others-stay id [] none = refl
others-stay id (t ∷ ts) none = by (others-stay id ts) (is_eq (int_cmp id t.info.id)) refl
  where
    by : (only int_cmp own_id id ts ≡ [] → filter (is_other id) ts ≡ ts) → (b : Bool) → is_eq (int_cmp id t.info.id) ≡ b
        → filter (is_other id) (t ∷ ts) ≡ t ∷ ts
    by rest true e = let none' : t ∷ only int_cmp own_id id ts ≡ [] = rw e at none in absurd cc
    by rest false e = rw e (ap (λ xs. t ∷ xs) (rest (rw e at none)))

pub none-taken : (id : ℤ) (windows : List BrowserWindow) → only int_cmp stand_key id (all_stands windows) ≡ []
    → taken_out id windows ≡ windows
none-taken id [] none = refl
none-taken id (w ∷ ws) none =
    let both = empty (only int_cmp stand_key id (stands_in w)) (only int_cmp stand_key id (all_stands ws))
    (sym (only-append id (stands_in w) (all_stands ws)) ∙ none) in
    rw (others-stay id w.tabs (none_from id w.info.id zero w.tabs both.0)) (ap (λ vs. w ∷ vs) (none-taken id ws both.1))
  where
    empty : (xs ys : List Stand) → xs ++ ys ≡ [] → (xs ≡ []) × (ys ≡ [])
    empty [] ys h = (refl, h)
    empty (z ∷ xs) ys h = absurd cc

-- what is left of the windows where the tab stands
pub taken-split : (id : ℤ) (windows : List BrowserWindow) (s : Stand) (p : Split id windows s)
    → taken_out id windows ≡ p.before ++ with_tabs (λ tabs. p.tab.pre ++ p.tab.post) p.own ∷ p.after
taken-split id windows s p =
    ap (taken_out id) p.is
    ∙ map-append (with_tabs (filter (is_other id))) p.before (p.own ∷ p.after)
    ∙ ap (λ ws. ws ++ with_tabs (filter (is_other id)) p.own ∷ taken_out id p.after)
    (none-taken id p.before p.none_before)
    ∙ ap (λ ws. p.before ++ with_tabs (filter (is_other id)) p.own ∷ ws) (none-taken id p.after p.none_after)
    ∙ ap (λ tabs. p.before ++ with_tabs (λ ts. tabs) p.own ∷ p.after) without
  where
    without : filter (is_other id) p.own.tabs ≡ p.tab.pre ++ p.tab.post
    without =
        let gone : is_eq (int_cmp id s.tab.info.id) ≡ true = rw (sym p.tab.key) (equals_itself id) in
        ap (filter (is_other id)) p.tab.is
        ∙ filter-append (is_other id) p.tab.pre (s.tab ∷ p.tab.post)
        ∙ rw (gone, others-stay id p.tab.pre p.tab.none_pre, others-stay id p.tab.post p.tab.none_post) refl

-- the later tabs
drop-length : (pre post : List BrowserTab) → drop (length pre) (pre ++ post) ≡ post
drop-length [] post = refl
drop-length (p ∷ pre) post = drop-length pre post

pub take-length : (pre post : List BrowserTab) → take (length pre) (pre ++ post) ≡ pre
take-length [] post = refl
take-length (p ∷ pre) post = ap (λ xs. p ∷ xs) (take-length pre post)

drop-suc : (pre post : List BrowserTab) (t : BrowserTab) → drop (suc (length pre)) (pre ++ t ∷ post) ≡ post
drop-suc [] post t = refl
drop-suc (p ∷ pre) post t = drop-suc pre post t

pub own-tabs : (id : ℤ) (windows : List BrowserWindow) (s : Stand) (p : Split id windows s) → InOrder windows
    → tabs_of s.window windows ≡ p.tab.pre ++ s.tab ∷ p.tab.post
own-tabs id windows s p sorted =
    let sorted' = subst InOrder p.is sorted in
    let found : find_row int_cmp open_key s.window windows ≡ Some p.own =
    rw (p.is, p.tab.window_is) (find-own p.before p.own p.after sorted') in
    rw found p.tab.is

pub later-is : (id : ℤ) (windows : List BrowserWindow) (s : Stand) (p : Split id windows s) → InOrder windows
    → later_tabs s windows ≡ p.tab.post
later-is id windows s p sorted =
    let place_is : s.place ≡ length p.tab.pre = let e = p.tab.place in omega (arith, e) in
    rw (own-tabs id windows s p sorted, place_is) (drop-suc p.tab.pre p.tab.post s.tab)
