-- A state that matches a browser and orders that agree with it hold that browser.
use Rattle.std.proofs.Common.{◌≡◌, ℕ, zero, suc, ℤ, List, [], ◌∷◌, ◌++◌, map, Some, refl, sym, ap, subst, ◌∙◌}
use Rattle.std.proofs.Common.{append_assoc}
use Rattle.std.specs.Ordering.{int_cmp}
use Rattle.std.specs.List.{AllByRecursion}
use Rattle.std.proofs.lemmas.List.{map-append}
use Rattle.closed_entries.specs.declared.entry.Entry.{Entry}
use Rattle.navigation_entry.specs.declared.navigation.Navigation.{Navigation}
use Rattle.window_state.specs.declared.tab.Tab.{Tab}
use Rattle.window_state.specs.Keys.{tab_key}
use Rattle.window_state.specs.RowLists.{find_row}
use Rattle.window_state.specs.States.{State}
use Rattle.window_state.specs.TabLists.{under, AtMostOne}
use Rattle.window_state.proofs.IdLaws.{equals_itself, under-append}
use Rattle.window_state.proofs.OnlyLaws.{find-only}
use Rattle.browser_model.specs.Running.{IsRunning}
use Rattle.browser_model.specs.Browsers.{Browser, BrowserWindow, BrowserTab, Stand, own_id, row_of, numbered}
use Rattle.browser_model.specs.Browsers.{stands_in, all_stands, rows, window_row, Matches, EachTab}
use Rattle.browser_model.specs.Tabs.{tabs_of, tabs_or_none}
use Rattle.browser_model.proofs.Turns.{map-map}
use Rattle.browser_model.proofs.Renumber.{rows_from}
use Rattle.browser_model.proofs.Splits.{InOrder, find-own}
use Rattle.browser_model.proofs.Matching.{at-most-one, in-order}
use Rattle.browser_driver.specs.Orders.{order_of}
use Rattle.browser_driver.specs.Held.{tab_in, window_in, held, AreSeated, IsHeld}

-- each row stands alone under its id
each-row : (done rest : List Tab) → ((q : ℤ) → AtMostOne (under q (done ++ rest)))
    → AllByRecursion (λ y. under (tab_key y) (done ++ rest) ≡ y ∷ []) rest
each-row done [] one = tt
each-row done (y ∷ rest) one =
    let q = tab_key y in
    let parts : under q (done ++ y ∷ rest) ≡ under q done ++ y ∷ under q rest =
    under-append q done (y ∷ rest) ∙ rw (equals_itself q) refl in
    let both = alone (under q done) (under q rest) (subst AtMostOne parts (one q)) in
    let here : under q (done ++ y ∷ rest) ≡ y ∷ [] = parts ∙ rw (both.0, both.1) refl in
    let moved : (done ++ y ∷ []) ++ rest ≡ done ++ y ∷ rest = append_assoc done (y ∷ []) rest in
    let still : (p : ℤ) → AtMostOne (under p ((done ++ y ∷ []) ++ rest)) =
    subst (λ zs. (p : ℤ) → AtMostOne (under p zs)) (sym moved) one in (
      here,
      subst (λ zs. AllByRecursion (λ z. under (tab_key z) zs ≡ z ∷ []) rest) moved
          (each-row (done ++ y ∷ []) rest still),
    )
  where
    alone : (p r : List Tab) → AtMostOne (p ++ y ∷ r) → (p ≡ []) × (r ≡ [])
    alone [] r h = (refl, h)
    alone (x ∷ p) r h = absurd (no p h)
      where
        no : (p : List Tab) → p ++ y ∷ r ≡ [] → ⊥
        no [] h = absurd cc
        no (z ∷ p) h = absurd cc

pub weaker : {X : Type 0} (P Q : X → Type 0) → ((x : X) → P x → Q x) → (xs : List X) → AllByRecursion P xs
    → AllByRecursion Q xs
weaker P Q f [] all = tt
weaker P Q f (x ∷ xs) all = (f x all.0, weaker P Q f xs all.1)

-- what holds of each row holds of the rows of each window
pub each-window : (P : Tab → Type 0) (ws : List BrowserWindow) → AllByRecursion P (rows ws)
    → AllByRecursion (λ w. AllByRecursion P (rows_from w.info.id zero w.tabs)) ws
each-window P [] all = tt
each-window P (w ∷ ws) all =
    let parts = apart (rows_from w.info.id zero w.tabs) (rows ws)
    (subst (AllByRecursion P) (map-append row_of (stands_in w) (all_stands ws)) all) in
    (parts.0, each-window P ws parts.1)
  where
    apart : (xs ys : List Tab) → AllByRecursion P (xs ++ ys) → AllByRecursion P xs × AllByRecursion P ys
    apart [] ys all = (tt, all)
    apart (x ∷ xs) ys all = let rest = apart xs ys all.1 in ((all.0, rest.0), rest.1)

-- and of each tab
module _ (P : Tab → Type 0) (Q : BrowserTab → Type 0) (of_row : (st : Stand) → P (row_of st) → Q st.tab) where
  of-rows : (window : ℤ) (n : ℕ) (ts : List BrowserTab) → AllByRecursion P (rows_from window n ts) → AllByRecursion Q ts
  of-rows window n [] all = tt
  of-rows window n (t ∷ ts) all =
      (of_row (record { window = window; place = n; tab = t }) all.0, of-rows window (suc n) ts all.1)

  pub each-tab : (ws : List BrowserWindow) → AllByRecursion P (rows ws) → EachTab Q ws
  each-tab ws all =
      weaker (λ w. AllByRecursion P (rows_from w.info.id zero w.tabs)) (λ w. AllByRecursion Q w.tabs)
      (λ w of_window. of-rows w.info.id zero w.tabs of_window) ws (each-window P ws all)

pub unnumbered : (n : ℕ) (ps : List Navigation) → map (λ (page : ℤ × Navigation). page.1) (numbered n ps) ≡ ps
unnumbered n [] = refl
unnumbered n (p ∷ ps) = ap (λ qs. p ∷ qs) (unnumbered (suc n) ps)

-- a state that matches has the row of each tab
pub rows-back : (s : State) (b : Browser) → IsRunning s → Matches s b
    → AllByRecursion (λ y. find_row int_cmp tab_key (tab_key y) s.tabs ≡ Some y) (rows b.windows)
rows-back s b r m =
    weaker (λ y. under (tab_key y) (rows b.windows) ≡ y ∷ [])
    (λ y. find_row int_cmp tab_key (tab_key y) s.tabs ≡ Some y)
    (λ y one. find-only int_cmp tab_key (tab_key y) y [] s.tabs (m.tabs (tab_key y) ∙ one))
    (rows b.windows) (each-row [] (rows b.windows) (at-most-one s b r m))

-- a browser's tabs are found again in it
pub tabs-back : (s : State) (b : Browser) → IsRunning s → Matches s b
    → EachTab (λ t. tab_in s.tabs t.info.id ≡ t) b.windows
tabs-back s b r m =
    each-tab (λ y. find_row int_cmp tab_key (tab_key y) s.tabs ≡ Some y) (λ t. tab_in s.tabs t.info.id ≡ t)
    (λ st is. rw is (ap (λ (ps : List Navigation). record st.tab { pages = ps }) (unnumbered zero st.tab.pages)))
    b.windows (rows-back s b r m)

-- orders that say the tabs under each id say those of each window
own-orders : (orders : List (ℤ × List ℤ)) (done rest : List BrowserWindow) → InOrder (done ++ rest)
    → AreSeated orders (done ++ rest) → AllByRecursion (λ w. order_of w.info.id orders ≡ map own_id w.tabs) rest
own-orders orders done [] sorted seated = tt
own-orders orders done (w ∷ rest) sorted seated =
    let found : tabs_of w.info.id (done ++ w ∷ rest) ≡ w.tabs =
    ap tabs_or_none (find-own done w rest sorted) in
    let here : order_of w.info.id orders ≡ map own_id w.tabs = seated w.info.id ∙ ap (map own_id) found in
    let moved : (done ++ w ∷ []) ++ rest ≡ done ++ w ∷ rest = append_assoc done (w ∷ []) rest in (
      here,
      own-orders orders (done ++ w ∷ []) rest (subst InOrder (sym moved) sorted)
          (subst (AreSeated orders) (sym moved) seated),
    )

windows-back : (s : State) (b : Browser) (orders : List (ℤ × List ℤ)) → IsRunning s → Matches s b
    → AreSeated orders b.windows → map (window_in s.tabs orders) s.windows ≡ b.windows
windows-back s b orders r m seated =
    ap (map (window_in s.tabs orders)) m.windows ∙ map-map window_row (window_in s.tabs orders) b.windows
    ∙ all b.windows (tabs-back s b r m) (own-orders orders [] b.windows (in-order s b r m) seated)
  where
    tabs : (ts : List BrowserTab) → AllByRecursion (λ t. tab_in s.tabs t.info.id ≡ t) ts
        → map (tab_in s.tabs) (map own_id ts) ≡ ts
    tabs [] all = refl
    tabs (t ∷ ts) all = rw all.0 (ap (λ us. t ∷ us) (tabs ts all.1))

    all : (ws : List BrowserWindow) → EachTab (λ t. tab_in s.tabs t.info.id ≡ t) ws
        → AllByRecursion (λ w. order_of w.info.id orders ≡ map own_id w.tabs) ws
        → map (λ w. window_in s.tabs orders (window_row w)) ws ≡ ws
    all [] back own = refl
    all (w ∷ ws) back own =
        let tabs_are : map (tab_in s.tabs) (order_of w.info.id orders) ≡ w.tabs =
        ap (map (tab_in s.tabs)) own.0 ∙ tabs w.tabs back.0 in
        rw tabs_are (ap (λ vs. w ∷ vs) (all ws back.1 own.1))

-- what is held is this browser
pub record Holds (s : State) (orders : List (ℤ × List ℤ)) (closed : List Entry) (moment : ℤ) (b : Browser) : Type 0 where
  pub is_held : IsHeld s orders closed moment
  pub is : held s orders closed moment ≡ b

pub holds : (s : State) (orders : List (ℤ × List ℤ)) (closed : List Entry) (moment : ℤ) (b : Browser) → IsRunning s
    → Matches s b → AreSeated orders b.windows → s.groups ≡ b.groups → closed ≡ b.closed → moment ≡ b.moment
    → Holds s orders closed moment b
holds s orders closed moment b r m seated groups closed_is moment_is =
    let windows = windows-back s b orders r m seated in
    let is : held s orders closed moment ≡ b = λ i. record {
      windows = windows i;
      groups = groups i;
      active = m.active i;
      closed = closed_is i;
      moment = moment_is i;
    } in
    record {
      is_held = record {
        running = r;
        matches = subst (Matches s) (sym is) m;
        seated = subst (λ (x : Browser). AreSeated orders x.windows) (sym is) seated;
      };
      is = is;
    }
