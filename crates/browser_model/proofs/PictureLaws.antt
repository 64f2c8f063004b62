-- The view of a state that matches is the browser's picture.
use Rattle.std.proofs.Common.{◌≡◌, ℕ, zero, suc, ◌+◌, ◌-◌, ◌<◌, ◌≤◌, nat_lt, Bool, true, false, cond, if◌then◌else◌}
use Rattle.std.proofs.Common.{int_le, ℤ, pos, List, [], ◌∷◌, ◌++◌, map, filter, length, position, Some, None, refl, sym}
use Rattle.std.proofs.Common.{ap, subst, ◌∙◌, append_assoc, arith}
use Rattle.std.specs.declared.cmp.Ordering.TheVariants.{Less, Greater}
use Rattle.std.specs.Ordering.{int_cmp, int_eq, is_eq}
use Rattle.std.specs.Option.{unwrap_or}
use Rattle.std.specs.Cmp.{int_cmp_total}
use Rattle.std.specs.List.{AllByRecursion, position_or_len}
use Rattle.std.proofs.lemmas.Map.Keys.{sorted_head, sorted_tail}
use Rattle.std.proofs.lemmas.Int.{ints}
use Rattle.std.proofs.lemmas.Bool.Decides.{nat_tests}
use Rattle.std.proofs.lemmas.List.{map-append, append-nil}
use Rattle.std.proofs.lemmas.List.Elements.{filter-append}
use Rattle.navigation_entry.specs.declared.navigation.Navigation.{Navigation}
use Rattle.tab_pages.specs.PageLists.{has_page}
use Rattle.tab_pages.specs.Positions.{first_from}
use Rattle.window_state.specs.declared.tab.Tab.{Tab}
use Rattle.window_state.specs.declared.view_parts.ViewWindow.{ViewWindow}
use Rattle.window_state.specs.Keys.{tab_key}
use Rattle.window_state.specs.States.{State}
use Rattle.window_state.specs.Views.{is_shown_in, place_cmp, shown_tabs, view_tab, with_shown, view_windows}
use Rattle.window_state.specs.Views.{active_shown, view}
use Rattle.window_state.specs.TabLists.{Same, under, AtMostOne, Upward}
use Rattle.window_state.proofs.IdLaws.{equals_itself}
use Rattle.window_state.proofs.SortingLaws.{sorted-is}
use Rattle.browser_model.specs.Running.{IsRunning}
use Rattle.browser_model.specs.Browsers.{Browser, BrowserWindow, BrowserTab, Stand, open_key, row_of, numbered}
use Rattle.browser_model.specs.Browsers.{stands_from, stands_in, all_stands, rows, window_row, Matches, EachTab, AtPage}
use Rattle.browser_model.specs.Browsers.{IsAtPage}
use Rattle.browser_model.specs.Pictures.{nat_of, picture_tab, is_seen, picture_with, picture_windows}
use Rattle.browser_model.proofs.Renumber.{rows_from}
use Rattle.browser_model.proofs.Splits.{front, rows-split, InOrder}
use Rattle.browser_model.proofs.Matching.{at-most-one, in-order}

abbrev pub seen_rows : BrowserWindow → List Tab
seen_rows w = map row_of (filter is_seen (stands_in w))

-- they stand in order
less-int : (m n : ℕ) → m < n → int_cmp (pos m) (pos n) ≡ Less
less-int m n h = grind (arith, ints)

upward-seen : (window : ℤ) (n : ℕ) (ts : List BrowserTab)
    → Upward (map row_of (filter is_seen (stands_from window n ts)))
upward-seen window n [] = tt
upward-seen window n (t ∷ ts) =
    let rest = upward-seen window (suc n) ts in
    elim (has_page t.pages) as (λ b. Upward (map row_of
    (cond b (record { window = window; place = n; tab = t } ∷ filter is_seen (stands_from window (suc n) ts))
    (filter is_seen (stands_from window (suc n) ts)))))
    [ true ↦ (above n (suc n) t ts (omega arith), rest) | false ↦ rest ]
  where
    above : (m k : ℕ) (t : BrowserTab) (us : List BrowserTab) → m < k
        → AllByRecursion (λ u. place_cmp (row_of (record { window = window; place = m; tab = t })) u ≡ Less)
        (map row_of (filter is_seen (stands_from window k us)))
    above m k t [] h = tt
    above m k t (u ∷ us) h =
        let more = above m (suc k) t us (omega arith) in
        let less : place_cmp (row_of (record { window = window; place = m; tab = t }))
        (row_of (record { window = window; place = k; tab = u })) ≡ Less = rw (less-int m k h) refl in
        elim (has_page u.pages) as (λ b. AllByRecursion
        (λ v. place_cmp (row_of (record { window = window; place = m; tab = t })) v ≡ Less)
        (map row_of (cond b (record { window = window; place = k; tab = u } ∷ filter is_seen
        (stands_from window (suc k) us)) (filter is_seen (stands_from window (suc k) us)))))
        [ true ↦ (less, more) | false ↦ more ]

-- the rows of a window that are shown there
pub page-numbered : (ps : List Navigation) → has_page (numbered zero ps) ≡ has_page ps
page-numbered [] = refl
page-numbered (p ∷ ps) = refl

own-shown : (window : ℤ) (n : ℕ) (ts : List BrowserTab)
    → filter (is_shown_in window) (rows_from window n ts) ≡ map row_of (filter is_seen (stands_from window n ts))
own-shown window n [] = refl
own-shown window n (t ∷ ts) =
    let rest = own-shown window (suc n) ts in
    rw (equals_itself window, page-numbered t.pages, rest)
    (elim (has_page t.pages) as (λ b. cond b
    (row_of (record { window = window; place = n; tab = t }) ∷ map row_of
    (filter is_seen (stands_from window (suc n) ts))) (map row_of (filter is_seen (stands_from window (suc n) ts)))
    ≡ map row_of (cond b (record { window = window; place = n; tab = t } ∷ filter is_seen
    (stands_from window (suc n) ts)) (filter is_seen (stands_from window (suc n) ts))))
    [ true ↦ refl | false ↦ refl ])

other-shown : (window other : ℤ) (n : ℕ) (ts : List BrowserTab) → int_eq other window ≡ false
    → filter (is_shown_in window) (rows_from other n ts) ≡ []
other-shown window other n [] apart = refl
other-shown window other n (t ∷ ts) apart = rw apart (other-shown window other (suc n) ts apart)

others-shown : (window : ℤ) (ws : List BrowserWindow) → AllByRecursion (λ w. int_eq w.info.id window ≡ false) ws
    → filter (is_shown_in window) (rows ws) ≡ []
others-shown window [] all = refl
others-shown window (w ∷ ws) all =
    ap (filter (is_shown_in window)) (map-append row_of (stands_in w) (all_stands ws))
    ∙ filter-append (is_shown_in window) (rows_from w.info.id zero w.tabs) (rows ws)
    ∙ rw (other-shown window w.info.id zero w.tabs all.0, others-shown window ws all.1) refl

shown-of : (before : List BrowserWindow) (own : BrowserWindow) (after : List BrowserWindow)
    → InOrder (before ++ own ∷ after) → filter (is_shown_in own.info.id) (rows (before ++ own ∷ after)) ≡ seen_rows own
shown-of before own after sorted =
    let w = own.info.id in
    let zero_on : rows_from w (length {A = BrowserTab} []) own.tabs ≡ rows_from w zero own.tabs = refl in
    ap (filter (is_shown_in w)) (rows-split before own after [] own.tabs refl)
    ∙ filter-append (is_shown_in w) (front before own []) (rows_from w zero own.tabs ++ rows after)
    ∙ rw (
      filter-append (is_shown_in w) (rows before) [],
      filter-append (is_shown_in w) (rows_from w zero own.tabs) (rows after),
      others-shown w before (befores before sorted),
      own-shown w zero own.tabs,
      others-shown w after (afters before sorted),
    ) (append-nil (seen_rows own))
  where
    greater : (x y : ℤ) → int_cmp x y ≡ Less → int_eq y x ≡ false
    greater x y less = let e : int_cmp y x ≡ Greater = int_cmp_total.antisymm y x ∙ rw less refl in rw e refl

    lesser : (x y : ℤ) → int_cmp x y ≡ Less → int_eq x y ≡ false
    lesser x y less = rw less refl

    befores : (us : List BrowserWindow) → InOrder (us ++ own ∷ after)
        → AllByRecursion (λ w. int_eq w.info.id own.info.id ≡ false) us
    befores [] sorted = tt
    befores (u ∷ us) sorted = (
      lesser u.info.id own.info.id
          (less us (sorted_head int_cmp u.info.id (map open_key (us ++ own ∷ after)) sorted)),
      befores us (sorted_tail int_cmp u.info.id (map open_key (us ++ own ∷ after)) sorted),
    )
      where
        less : (vs : List BrowserWindow) → AllByRecursion (λ y. int_cmp u.info.id y ≡ Less)
            (map open_key (vs ++ own ∷ after)) → int_cmp u.info.id own.info.id ≡ Less
        less [] all = all.0
        less (v ∷ vs) all = less vs all.1

    behind : (vs : List BrowserWindow) → AllByRecursion (λ y. int_cmp own.info.id y ≡ Less) (map open_key vs)
        → AllByRecursion (λ w. int_eq w.info.id own.info.id ≡ false) vs
    behind [] all = tt
    behind (v ∷ vs) all = (greater own.info.id v.info.id all.0, behind vs all.1)

    afters : (us : List BrowserWindow) → InOrder (us ++ own ∷ after)
        → AllByRecursion (λ w. int_eq w.info.id own.info.id ≡ false) after
    afters [] sorted = behind after (sorted_head int_cmp own.info.id (map open_key after) sorted)
    afters (u ∷ us) sorted = afters us (sorted_tail int_cmp u.info.id (map open_key (us ++ own ∷ after)) sorted)

-- filters in either order
pub filters : (p r : Tab → Bool) (xs : List Tab) → filter p (filter r xs) ≡ filter r (filter p xs)
filters p r [] = refl
filters p r (x ∷ xs) = by (filters p r xs) (p x) refl (r x) refl
  where
    by : filter p (filter r xs) ≡ filter r (filter p xs) → (a : Bool) → p x ≡ a → (b : Bool) → r x ≡ b
        → filter p (filter r (x ∷ xs)) ≡ filter r (filter p (x ∷ xs))
    by rest true e true f = simp (e, f) (ap (λ ys. x ∷ ys) rest)
    by rest true e false f = simp (e, f) rest
    by rest false e true f = simp (e, f) rest
    by rest false e false f = simp (e, f) rest

pub at-most-filter : (p : Tab → Bool) (xs : List Tab) → AtMostOne xs → AtMostOne (filter p xs)
at-most-filter p [] one = tt
at-most-filter p (x ∷ xs) one = rw one (elim (p x) as (λ b. AtMostOne (cond b (x ∷ []) []))
    [ true ↦ refl | false ↦ tt ])

-- what is shown of a window in a state that matches
pub shown-is : (s : State) (b : Browser) (before : List BrowserWindow) (own : BrowserWindow)
    (after : List BrowserWindow) → IsRunning s → Matches s b → b.windows ≡ before ++ own ∷ after
    → shown_tabs own.info.id s.tabs ≡ seen_rows own
shown-is s b before own after r m is =
    let p = is_shown_in own.info.id in
    let sorted = subst InOrder is (in-order s b r m) in
    let same : Same (filter p s.tabs) (seen_rows own) = λ q.
    filters (λ t. is_eq (int_cmp q (tab_key t))) p s.tabs ∙ ap (filter p) (m.tabs q)
    ∙ filters p (λ t. is_eq (int_cmp q (tab_key t))) (rows b.windows)
    ∙ ap (under q) (ap (λ ws. filter p (rows ws)) is ∙ shown-of before own after sorted) in
    sorted-is (filter p s.tabs) (seen_rows own)
    (λ q. subst AtMostOne (filters p (λ t. is_eq (int_cmp q (tab_key t))) s.tabs)
    (at-most-filter p (under q s.tabs) (subst AtMostOne (sym (m.tabs q)) (at-most-one s b r m q))))
    (upward-seen own.info.id zero own.tabs) same

-- a tab's pages and its current one
unnumbered : (n : ℕ) (ps : List Navigation) → map (λ (page : ℤ × Navigation). page.1) (numbered n ps) ≡ ps
unnumbered n [] = refl
unnumbered n (p ∷ ps) = ap (λ qs. p ∷ qs) (unnumbered (suc n) ps)

length-numbered : (n : ℕ) (ps : List Navigation)
    → length (map (λ (page : ℤ × Navigation). page.0) (numbered n ps)) ≡ length ps
length-numbered n [] = refl
length-numbered n (p ∷ ps) = ap suc (length-numbered (suc n) ps)

place-of : (k n : ℕ) (ps : List Navigation) → k ≤ n → n < k + length ps
    → position_or_len (λ i. int_le (pos n) i) (map (λ (page : ℤ × Navigation). page.0) (numbered k ps)) ≡ n - k
place-of k n [] h l = absurd (omega arith)
place-of k n (p ∷ ps) h l = by (λ a b. place-of (suc k) n ps a b) (int_le (pos n) (pos k)) refl
  where
    by : (suc k ≤ n → n < suc k + length ps → position_or_len (λ i. int_le (pos n) i)
        (map (λ (page : ℤ × Navigation). page.0) (numbered (suc k) ps)) ≡ n - suc k) → (b : Bool)
        → int_le (pos n) (pos k) ≡ b → position_or_len (λ i. int_le (pos n) i)
        (map (λ (page : ℤ × Navigation). page.0) (numbered k (p ∷ ps))) ≡ n - k
    by later true e = let most : n ≤ k = grind (arith, ints) in rw e (omega arith)
    by later false e =
        let more : k < n = grind (arith, ints) in
        let rest = later (omega arith) (omega arith) in
        rw (e, rest) (omega arith)

current-is : (n : ℕ) (ps : List Navigation) → n < length ps
    → first_from (pos n) (map (λ (page : ℤ × Navigation). page.0) (numbered zero ps)) ≡ n
current-is n ps h =
    let indices = map (λ (page : ℤ × Navigation). page.0) (numbered zero ps) in
    let at : position_or_len (λ i. int_le (pos n) i) indices ≡ n = place-of zero n ps (omega arith) (omega arith)
    ∙ minus n in
    let long = length-numbered zero ps in
    let found : position (λ i. int_le (pos n) i) indices ≡ Some n = rw (at, long) (within (length ps) h) in
    ap (λ o. unwrap_or o (length indices - 1)) found
  where
    minus : (m : ℕ) → m - zero ≡ m
    minus m = omega arith

    within : (l : ℕ) → n < l → (if nat_lt n l then Some n else None) ≡ Some n
    within l h = let e : nat_lt n l ≡ true = grind (arith, nat_tests) in rw e refl

pub view-row : (st : Stand) → has_page st.tab.pages ≡ true → IsAtPage st.tab → view_tab (row_of st) ≡ picture_tab st.tab
view-row st some at =
    let now = current st.tab.pages st.tab.current some at in
    λ i. record { info = st.tab.info; pages = unnumbered zero st.tab.pages i; current = now i }
  where
    current : (ps : List Navigation) (c : ℤ) → has_page ps ≡ true → AtPage ps c
        → first_from c (map (λ (page : ℤ × Navigation). page.0) (numbered zero ps)) ≡ nat_of c
    current [] c some at = absurd cc
    current (p ∷ ps) c some at = subst (λ d. first_from d
        (map (λ (page : ℤ × Navigation). page.0) (numbered zero (p ∷ ps))) ≡ nat_of d) (sym at.1)
        (current-is at.0 (p ∷ ps) at.2)

-- all windows
abbrev AllSeen : List Stand → Type 0
AllSeen ss = AllByRecursion (λ st. view_tab (row_of st) ≡ picture_tab st.tab) ss

all-seen : (window : ℤ) (n : ℕ) (ts : List BrowserTab) → AllByRecursion IsAtPage ts
    → AllSeen (filter is_seen (stands_from window n ts))
all-seen window n [] all = tt
all-seen window n (t ∷ ts) all = by (all-seen window (suc n) ts all.1) (has_page t.pages) refl
  where
    by : AllSeen (filter is_seen (stands_from window (suc n) ts)) → (b : Bool) → has_page t.pages ≡ b
        → AllSeen (filter is_seen (stands_from window n (t ∷ ts)))
    by rest true e = rw e (view-row (record { window = window; place = n; tab = t }) e all.0, rest)
    by rest false e = rw e rest

window-is : (w : BrowserWindow) (ss : List Stand) (others : List ViewWindow) → AllSeen ss
    → with_shown (window_row w) (map row_of ss) others ≡ picture_with w ss others
window-is w [] others all = refl
window-is w (s ∷ ss) others all =
    let tabs : map view_tab (map row_of (s ∷ ss)) ≡ map (λ x. picture_tab x.tab) (s ∷ ss) = same (s ∷ ss) all in
    let indices : map (λ (t : Tab). t.index) (map row_of (s ∷ ss)) ≡ map (λ x. pos x.place) (s ∷ ss) =
    places (s ∷ ss) in
    λ i. record { info = w.info; selected = first_from w.selected (indices i); tabs = tabs i } ∷ others
  where
    same : (xs : List Stand) → AllSeen xs → map view_tab (map row_of xs) ≡ map (λ x. picture_tab x.tab) xs
    same [] all = refl
    same (x ∷ xs) all = rw all.0 (ap (λ ys. picture_tab x.tab ∷ ys) (same xs all.1))

    places : (xs : List Stand) → map (λ (t : Tab). t.index) (map row_of xs) ≡ map (λ x. pos x.place) xs
    places [] = refl
    places (x ∷ xs) = ap (λ ys. pos x.place ∷ ys) (places xs)

pub windows-seen : (s : State) (b : Browser) → IsRunning s → Matches s b
    → view_windows (λ id. shown_tabs id s.tabs) s.windows ≡ picture_windows b.windows
windows-seen s b r m = ap (view_windows (λ id. shown_tabs id s.tabs)) m.windows ∙ all [] b.windows refl m.at_page
  where
    all : (done rest : List BrowserWindow) → done ++ rest ≡ b.windows → EachTab IsAtPage rest
        → view_windows (λ id. shown_tabs id s.tabs) (map window_row rest) ≡ picture_windows rest
    all done [] whole at = refl
    all done (w ∷ rest) whole at =
        let shown = shown-is s b done w rest r m (sym whole) in
        let others = all (done ++ w ∷ []) rest (append_assoc done (w ∷ []) rest ∙ whole) at.1 in
        rw (shown, others) (window-is w (filter is_seen (stands_in w)) (picture_windows rest)
        (all-seen w.info.id zero w.tabs at.0))

pub active-seen : (s : State) (b : Browser) → IsRunning s → Matches s b
    → (view s).active ≡ active_shown b.active (picture_windows b.windows)
active-seen s b r m = rw (windows-seen s b r m, m.active) refl
