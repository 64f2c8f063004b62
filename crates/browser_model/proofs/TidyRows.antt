-- The rows after tidying are those of a browser, whose picture is the view before.
use Rattle.std.proofs.Common.{◌≡◌, ℕ, zero, suc, ◌+◌, ◌-◌, ◌<◌, ◌≤◌, nat_lt, Bool, true, false, ◌&&◌, if◌then◌else◌}
use Rattle.std.proofs.Common.{int_le, ℤ, pos, List, [], ◌∷◌, ◌++◌, map, filter, fold, length, position, Option, Some}
use Rattle.std.proofs.Common.{None, refl, sym, ap, ◌∙◌, arith}
use Rattle.std.specs.Option.{unwrap_or}
use Rattle.std.specs.List.{AllByRecursion, position_or_len}
use Rattle.std.proofs.lemmas.Bool.Decides.{nat_tests}
use Rattle.std.proofs.lemmas.Int.{ints}
use Rattle.std.proofs.lemmas.List.{map-append, length-map}
use Rattle.tab_pages.specs.PageLists.{has_page}
use Rattle.tab_pages.specs.Positions.{first_from}
use Rattle.window_state.specs.declared.tab.Tab.{Tab}
use Rattle.window_state.specs.declared.window.Window.{Window}
use Rattle.window_state.specs.States.{is_in}
use Rattle.window_state.specs.Views.{is_shown_in, insert_by_place, shown_tabs, view_tab, view_window, with_shown}
use Rattle.window_state.specs.Views.{view_windows}
use Rattle.window_state.proofs.IdLaws.{same_key}
use Rattle.window_state.proofs.SortingLaws.{all-insert}
use Rattle.browser_model.specs.Browsers.{BrowserWindow, row_of, stands_from, stands_in, all_stands, rows}
use Rattle.browser_model.specs.Pictures.{picture_tab, is_seen, picture_with, picture_windows}
use Rattle.browser_model.specs.Tidied.{tidied_tab, tidied_row, tidied_rows, tidied_with, tidied_windows}
use Rattle.browser_model.specs.Tidying.{seen_place}
use Rattle.browser_model.proofs.Renumber.{rows_from}
use Rattle.browser_model.proofs.TidyAll.{all_rows}

-- what holds of tabs holds of them sorted
pub all-sorted : (P : Tab → Type 0) (done xs : List Tab) → AllByRecursion P done → AllByRecursion P xs
    → AllByRecursion P (fold insert_by_place done xs)
all-sorted P done [] a b = a
all-sorted P done (x ∷ xs) a b = all-sorted P (insert_by_place done x) xs (all-insert P done x b.0 a) b.1

filtered : (P : Tab → Type 0) (test : Tab → Bool) → ((t : Tab) → test t ≡ true → P t) → (xs : List Tab)
    → AllByRecursion P (filter test xs)
filtered P test f [] = tt
filtered P test f (x ∷ xs) = by (filtered P test f xs) (test x) refl
  where
    by : AllByRecursion P (filter test xs) → (b : Bool) → test x ≡ b → AllByRecursion P (filter test (x ∷ xs))
    by rest true e = rw e (f x e, rest)
    by rest false e = rw e rest

-- a tab that is shown in a window stands there and has a page
pub record IsShownIn (window : ℤ) (t : Tab) : Type 0 where
  pub window_is : t.window ≡ Some window
  pub page : has_page t.pages ≡ true

shown-in : (window : ℤ) (t : Tab) → is_shown_in window t ≡ true → IsShownIn window t
shown-in window t e = record {
  window_is = own t.window (both (is_in window t.window) (has_page t.pages) e).0;
  page = (both (is_in window t.window) (has_page t.pages) e).1;
}
  where
    both : (a b : Bool) → (a && b) ≡ true → (a ≡ true) × (b ≡ true)
    both true b e = (refl, e)
    both false b e = absurd cc

    own : (o : Option ℤ) → is_in window o ≡ true → o ≡ Some window
    own None e = absurd cc
    own (Some v) e = ap Some (same_key v window e)

pub all-shown : (window : ℤ) (tabs : List Tab) → AllByRecursion (IsShownIn window) (shown_tabs window tabs)
all-shown window tabs = all-sorted (IsShownIn window) [] (filter (is_shown_in window) tabs) tt
    (filtered (IsShownIn window) (is_shown_in window) (shown-in window) tabs)

rows-of : (window : ℤ) (n : ℕ) (ts : List Tab) → AllByRecursion (IsShownIn window) ts
    → tidied_rows n ts ≡ rows_from window n (map tidied_tab ts)
rows-of window n [] all = refl
rows-of window n (t ∷ ts) all =
    let rest = rows-of window (suc n) ts all.1 in
    let here : tidied_row n t ≡ row_of (record { window = window; place = n; tab = tidied_tab t }) =
    λ i. record (tidied_row n t) { window = all.0.window_is i } in
    ap (λ x. x ∷ tidied_rows (suc n) ts) here
    ∙ ap (λ xs. row_of (record { window = window; place = n; tab = tidied_tab t }) ∷ xs) rest

pub tidied-rows : (tabs : List Tab) (ws : List Window)
    → all_rows (λ id. shown_tabs id tabs) ws ≡ rows (tidied_windows (λ id. shown_tabs id tabs) ws)
tidied-rows tabs [] = refl
tidied-rows tabs (w ∷ ws) = by (tidied-rows tabs ws) (shown_tabs w.info.id tabs) (all-shown w.info.id tabs)
  where
    by : all_rows (λ id. shown_tabs id tabs) ws ≡ rows (tidied_windows (λ id. shown_tabs id tabs) ws) → (X : List Tab)
        → AllByRecursion (IsShownIn w.info.id) X
        → tidied_rows zero X ++ all_rows (λ id. shown_tabs id tabs) ws
        ≡ rows (tidied_with w X (tidied_windows (λ id. shown_tabs id tabs) ws))
    by rest [] all = rest
    by rest (t ∷ ts) all =
        ap (λ xs. xs ++ all_rows (λ id. shown_tabs id tabs) ws) (rows-of w.info.id zero (t ∷ ts) all)
        ∙ ap (λ xs. rows_from w.info.id zero (map tidied_tab (t ∷ ts)) ++ xs) rest
        ∙ sym (map-append row_of (stands_from w.info.id zero (map tidied_tab (t ∷ ts)))
        (all_stands (tidied_windows (λ id. shown_tabs id tabs) ws)))

-- and the picture of that browser is the view
all-seen : (window : ℤ) (n : ℕ) (ts : List Tab) → AllByRecursion (IsShownIn window) ts
    → filter is_seen (stands_from window n (map tidied_tab ts)) ≡ stands_from window n (map tidied_tab ts)
all-seen window n [] all = refl
all-seen window n (t ∷ ts) all =
    let some : has_page (tidied_tab t).pages ≡ true = page t.pages all.0.page in
    rw some (ap (λ ss. record { window = window; place = n; tab = tidied_tab t } ∷ ss)
    (all-seen window (suc n) ts all.1))
  where
    page : {X : Type 0} (ps : List (ℤ × X)) → has_page ps ≡ true → has_page (map (λ p. p.1) ps) ≡ true
    page [] e = absurd cc
    page (p ∷ ps) e = refl

abbrev places_of : ℤ → ℕ → List Tab → List ℤ
places_of window n ts = map (λ x. pos x.place) (stands_from window n (map tidied_tab ts))

length-places : (window : ℤ) (n : ℕ) (ts : List Tab) → length (places_of window n ts) ≡ length ts
length-places window n [] = refl
length-places window n (t ∷ ts) = ap suc (length-places window (suc n) ts)

place-at : (window : ℤ) (k n : ℕ) (ts : List Tab) → k ≤ n → n < k + length ts
    → position_or_len (λ i. int_le (pos n) i) (places_of window k ts) ≡ n - k
place-at window k n [] h l = absurd (omega arith)
place-at window k n (t ∷ ts) h l = by (λ a b. place-at window (suc k) n ts a b) (int_le (pos n) (pos k)) refl
  where
    by : (suc k ≤ n → n < suc k + length ts → position_or_len (λ i. int_le (pos n) i) (places_of window (suc k) ts)
        ≡ n - suc k) → (b : Bool) → int_le (pos n) (pos k) ≡ b
        → position_or_len (λ i. int_le (pos n) i) (places_of window k (t ∷ ts)) ≡ n - k
    by later true e = let most : n ≤ k = grind (arith, ints) in rw e (omega arith)
    by later false e =
        let more : k < n = grind (arith, ints) in
        let rest = later (omega arith) (omega arith) in
        rw (e, rest) (omega arith)

first-is : (window : ℤ) (n : ℕ) (ts : List Tab) → n < length ts → first_from (pos n) (places_of window zero ts) ≡ n
first-is window n ts h =
    let at : position_or_len (λ i. int_le (pos n) i) (places_of window zero ts) ≡ n =
    place-at window zero n ts (omega arith) (omega arith) ∙ minus n in
    let long = length-places window zero ts in
    let found : position (λ i. int_le (pos n) i) (places_of window zero ts) ≡ Some n =
    rw (at, long) (within (length ts) h) in
    ap (λ o. unwrap_or o (length (places_of window zero ts) - 1)) found
  where
    minus : (m : ℕ) → m - zero ≡ m
    minus m = omega arith

    within : (l : ℕ) → n < l → (if nat_lt n l then Some n else None) ≡ Some n
    within l h = let e : nat_lt n l ≡ true = grind (arith, nat_tests) in rw e refl

-- a position among some is one
pub first-within : (c : ℤ) (x : ℤ) (xs : List ℤ) → first_from c (x ∷ xs) < length (x ∷ xs)
first-within c x xs = by (nat_lt (position_or_len (λ i. int_le c i) (x ∷ xs)) (length (x ∷ xs))) refl
  where
    by : (b : Bool) → nat_lt (position_or_len (λ i. int_le c i) (x ∷ xs)) (length (x ∷ xs)) ≡ b
        → first_from c (x ∷ xs) < length (x ∷ xs)
    by true e = let less : position_or_len (λ i. int_le c i) (x ∷ xs) < length (x ∷ xs) = grind (arith, nat_tests) in
        rw e less
    by false e = rw e (omega arith)

seen-tabs : (window : ℤ) (n : ℕ) (ts : List Tab)
    → map (λ x. picture_tab x.tab) (stands_from window n (map tidied_tab ts)) ≡ map view_tab ts
seen-tabs window n [] = refl
seen-tabs window n (t ∷ ts) = ap (λ xs. view_tab t ∷ xs) (seen-tabs window (suc n) ts)

pub tidied-picture : (tabs : List Tab) (ws : List Window)
    → picture_windows (tidied_windows (λ id. shown_tabs id tabs) ws) ≡ view_windows (λ id. shown_tabs id tabs) ws
tidied-picture tabs [] = refl
tidied-picture tabs (w ∷ ws) = by (tidied-picture tabs ws) (shown_tabs w.info.id tabs) (all-shown w.info.id tabs)
  where
    by : picture_windows (tidied_windows (λ id. shown_tabs id tabs) ws) ≡ view_windows (λ id. shown_tabs id tabs) ws
        → (X : List Tab) → AllByRecursion (IsShownIn w.info.id) X
        → picture_windows (tidied_with w X (tidied_windows (λ id. shown_tabs id tabs) ws))
        ≡ with_shown w X (view_windows (λ id. shown_tabs id tabs) ws)
    by rest [] all = rest
    by rest (t ∷ ts) all =
        let v = w.info.id in
        let own : BrowserWindow = record {
          info = w.info;
          selected = pos (seen_place w (t ∷ ts));
          tabs = map tidied_tab (t ∷ ts);
        } in
        let long = length-map (t ∷ ts) (λ (u : Tab). u.index) in
        let less : seen_place w (t ∷ ts) < length (t ∷ ts) = let l =
        first-within w.selected t.index (map (λ u. u.index) ts) in omega (arith, l, long) in
        let place : first_from (pos (seen_place w (t ∷ ts))) (places_of v zero (t ∷ ts)) ≡ seen_place w (t ∷ ts) =
        first-is v (seen_place w (t ∷ ts)) (t ∷ ts) less in
        let shown : picture_with own (stands_in own) (picture_windows (tidied_windows (λ id. shown_tabs id tabs) ws))
        ≡ view_window w (t ∷ ts) ∷ picture_windows (tidied_windows (λ id. shown_tabs id tabs) ws) =
        λ i. record { info = w.info; selected = place i; tabs = seen-tabs v zero (t ∷ ts) i } ∷ picture_windows
        (tidied_windows (λ id. shown_tabs id tabs) ws) in
        ap (λ ss. picture_with own ss (picture_windows (tidied_windows (λ id. shown_tabs id tabs) ws)))
        (all-seen v zero (t ∷ ts) all) ∙ shown ∙ ap (λ vs. view_window w (t ∷ ts) ∷ vs) rest
