-- A moved tab: the commands lead from a state that matches to one that matches.
use Rattle.std.proofs.Common.{◌≡◌, ℕ, zero, suc, ◌≤◌, Bool, true, false, cond, ℤ, List, [], ◌∷◌, ◌++◌, map, filter}
use Rattle.std.proofs.Common.{length, take, drop, Some, refl, sym, ap, subst, ◌∙◌, arith}
use Rattle.std.specs.Ordering.{int_cmp, is_eq}
use Rattle.std.specs.List.{AllByRecursion}
use Rattle.std.specs.List.Sorted.{IsStrictlySortedBy}
use Rattle.std.proofs.lemmas.List.{length-take, take-append-drop}
use Rattle.session_commands.specs.declared.command.SessionCommand.{SessionCommand}
use Rattle.session_commands.specs.declared.command.SessionCommand.TheVariants.{TabWindow}
use Rattle.window_state.specs.declared.tab.Tab.{Tab}
use Rattle.window_state.specs.Keys.{tab_key}
use Rattle.window_state.specs.RowLists.{find_row, only, on_key}
use Rattle.window_state.specs.States.{State, stands}
use Rattle.window_state.specs.TabLists.{Same, under, AtMostOne}
use Rattle.window_state.proofs.OnlyLaws.{only-map}
use Rattle.window_state.proofs.IdLaws.{equals_itself, under-append}
use Rattle.replay_machine.specs.Step.{fold}
use Rattle.browser_model.specs.Browsers.{Browser, BrowserWindow, BrowserTab, Stand, own_id, open_key, stand_key, row_of}
use Rattle.browser_model.specs.Browsers.{rows, window_row, Matches, EachTab, IsAtPage, HasGroup}
use Rattle.browser_model.specs.Tabs.{stand_of, with_tabs, is_other, taken_out, put_at, put_in, places, later_tabs}
use Rattle.browser_model.specs.Moving.{others_of, moved_tab, move_elsewhere}
use Rattle.browser_model.specs.Running.{IsRunning}
use Rattle.browser_model.proofs.Turns.{Turns, has_tab, mapped, on, on-key, map-map, map-agree, turns-placed, turns-then}
use Rattle.browser_model.proofs.Renumber.{rows_from, unplaced, renumber, renumber-key, renumber-none, renumbered}
use Rattle.browser_model.proofs.Renumber.{turns-places, AllHave, none-under}
use Rattle.browser_model.proofs.Splits.{Split, split, front, rows-split, InOrder, later-is, find-split, change-own}
use Rattle.browser_model.proofs.Matching.{at-most-one, one-stand, in-order, same-windows, stands-under, all-have}
use Rattle.browser_model.proofs.Matching.{empty-both}
use Rattle.browser_model.proofs.CloseLaws.{with-tab, left_rows, none-left, moved-up, each-taken, bare-rows}
use Rattle.browser_model.proofs.TabLaws.{left-on, of-found}

-- a row among others may stand in front, where there is one at most
pub swap-front : (q : ℤ) (x : Tab) (a c : List Tab) → AtMostOne (under q (x ∷ a ++ c))
    → under q (x ∷ a ++ c) ≡ under q (a ++ x ∷ c)
swap-front q x a c one = by (is_eq (int_cmp q (tab_key x))) refl
  where
    by : (b : Bool) → is_eq (int_cmp q (tab_key x)) ≡ b → under q (x ∷ a ++ c) ≡ under q (a ++ x ∷ c)
    by true e =
        let one' : under q (a ++ c) ≡ [] = rw e at one in
        let both = empty-both (under q a) (under q c) (sym (under-append q a c) ∙ one') in
        rw (e, one', under-append q a (x ∷ c), both.0, e, both.1) refl
    by false e = rw (e, under-append q a (x ∷ c), e) (under-append q a c)

pub swap-back : (q : ℤ) (x : Tab) (a c : List Tab) → AtMostOne (under q (a ++ x ∷ c))
    → under q (x ∷ a ++ c) ≡ under q (a ++ x ∷ c)
swap-back q x a c one = by (is_eq (int_cmp q (tab_key x))) refl
  where
    alone-in : (p r : List Tab) → AtMostOne (p ++ x ∷ r) → (p ≡ []) × (r ≡ [])
    alone-in [] r h = (refl, h)
    alone-in (y ∷ p) r h = absurd (no p h)
      where
        no : (p : List Tab) → p ++ x ∷ r ≡ [] → ⊥
        no [] h = absurd cc
        no (z ∷ p) h = absurd cc

    by : (b : Bool) → is_eq (int_cmp q (tab_key x)) ≡ b → under q (x ∷ a ++ c) ≡ under q (a ++ x ∷ c)
    by true e =
        let one' : AtMostOne (under q a ++ x ∷ under q c) = rw (under-append q a (x ∷ c), e) at one in
        let both = alone-in (under q a) (under q c) one' in
        rw (e, under-append q a c, under-append q a (x ∷ c), both.0, e, both.1) refl
    by false e = rw (e, under-append q a (x ∷ c), e) (under-append q a c)

-- a tab comes to a place of a window, and the later ones move on
module _ (q : ℤ) (before : List BrowserWindow) (own : BrowserWindow) (after : List BrowserWindow)
    (pre post : List BrowserTab) (t : BrowserTab) (x : Tab) where
  pub came-in : own.tabs ≡ pre ++ post → unplaced x
      ≡ unplaced (row_of (record { window = own.info.id; place = length pre; tab = t }))
      → AtMostOne (under q (x ∷ rows (before ++ own ∷ after)))
      → under q (map (renumber (length pre) (t ∷ post)) (x ∷ rows (before ++ own ∷ after)))
      ≡ under q (rows (before ++ with_tabs (λ tabs. pre ++ t ∷ post) own ∷ after))
  came-in tabs bare one =
      let w = own.info.id in
      let n = length pre in
      let f = front before own pre in
      let split_is : rows (before ++ own ∷ after) ≡ f ++ (rows_from w n post ++ rows after) =
      rows-split before own after pre post tabs in
      let one' : AtMostOne (under q (x ∷ (f ++ (rows_from w n post ++ rows after)))) =
      subst (λ xs. AtMostOne (under q (x ∷ xs))) split_is one in
      let swapped = swap-front q x f (rows_from w n post ++ rows after) one' in
      let alike : map unplaced (x ∷ rows_from w n post) ≡ map unplaced (rows_from w n (t ∷ post)) =
      rw (bare, bare-rows w n (suc n) post) refl in
      let alike-q : map unplaced (under q (x ∷ rows_from w n post))
      ≡ map unplaced (under q (rows_from w n (t ∷ post))) =
      sym (only-map int_cmp tab_key unplaced (λ z. refl) q (x ∷ rows_from w n post)) ∙ ap (under q) alike
      ∙ only-map int_cmp tab_key unplaced (λ z. refl) q (rows_from w n (t ∷ post)) in
      only-map int_cmp tab_key (renumber n (t ∷ post)) (renumber-key n (t ∷ post)) q (x ∷ rows (before ++ own ∷ after))
      ∙ ap (map (renumber n (t ∷ post))) (ap (λ xs. under q (x ∷ xs)) split_is ∙ swapped)
      ∙ sym (only-map int_cmp tab_key (renumber n (t ∷ post)) (renumber-key n (t ∷ post)) q
      (f ++ ((x ∷ rows_from w n post) ++ rows after)))
      ∙ renumbered q w n (t ∷ post) f (x ∷ rows_from w n post) (rows after) alike-q (subst AtMostOne swapped one')
      ∙ ap (under q) (sym (rows-split before (with_tabs (λ tabs. pre ++ t ∷ post) own) after pre (t ∷ post) refl))

pub at-most-map : (g : Tab → Tab) (xs : List Tab) → AtMostOne xs → AtMostOne (map g xs)
at-most-map g [] one = tt
at-most-map g (x ∷ xs) one = rw one refl

pub in-order-taken : (id : ℤ) (ws : List BrowserWindow) → InOrder ws → InOrder (taken_out id ws)
in-order-taken id ws sorted = subst (IsStrictlySortedBy int_cmp)
    (sym (map-map (with_tabs (filter (is_other id))) open_key ws
    ∙ map-agree (λ w. open_key (with_tabs (filter (is_other id)) w)) open_key (λ w. refl) ws)) sorted

-- what holds of each tab holds where one more comes of which it holds
pub each-in : (P : BrowserTab → Type 0) (window : ℤ) (place : ℕ) (t : BrowserTab) (ws : List BrowserWindow) → P t
    → EachTab P ws → EachTab P (put_in window place t ws)
each-in P window place t [] new all = tt
each-in P window place t (w ∷ ws) new all = (
  elim (is_eq (int_cmp window w.info.id)) as (λ b. AllByRecursion P (cond b (with_tabs (put_at place t) w) w).tabs)
      [ true ↦ put place w.tabs all.0 | false ↦ all.0 ],
  each-in P window place t ws new all.1,
)
  where
    put : (n : ℕ) (ts : List BrowserTab) → AllByRecursion P ts → AllByRecursion P (put_at n t ts)
    put zero ts all = (new, all)
    put (suc n) [] all = (new, tt)
    put (suc n) (x ∷ xs) all = (all.0, put n xs all.1)

pub same-put : (window : ℤ) (change : BrowserWindow → BrowserWindow)
    → ((w : BrowserWindow) → window_row (change w) ≡ window_row w) → (ws : List BrowserWindow)
    → map window_row (map (on_key int_cmp open_key window change) ws) ≡ map window_row ws
same-put window change same ws =
    map-map (on_key int_cmp open_key window change) window_row ws
    ∙ map-agree (λ w. window_row (on_key int_cmp open_key window change w)) window_row
    (λ w. elim (is_eq (int_cmp window w.info.id)) as (λ b. window_row (cond b (change w) w) ≡ window_row w)
    [ true ↦ same w | false ↦ refl ]) ws

-- the tab comes into a window among windows in order
came : (q window : ℤ) (place : ℕ) (t : BrowserTab) (row : Tab) (ws : List BrowserWindow) (to : BrowserWindow)
    → InOrder ws → find_row int_cmp open_key window ws ≡ Some to → place ≤ length to.tabs
    → unplaced row ≡ unplaced (row_of (record { window = window; place = place; tab = t }))
    → AtMostOne (under q (row ∷ rows ws))
    → under q (map (renumber place (t ∷ drop place to.tabs)) (row ∷ rows ws))
    ≡ under q (rows (put_in window place t ws))
came q window place t row ws to sorted live room bare one =
    let w = find-split window ws to live in
    let pre = take place to.tabs in
    let post = drop place to.tabs in
    let long : length pre ≡ place = simp length-take (omega (arith, room)) in
    let whole : to.tabs ≡ pre ++ post = sym (take-append-drop place to.tabs) in
    let bare' : unplaced row ≡ unplaced (row_of (record { window = to.info.id; place = length pre; tab = t })) = bare
    ∙ ap (λ v. unplaced (row_of (record { window = v; place = place; tab = t }))) w.3 in
    let one' : AtMostOne (under q (row ∷ rows (w.0 ++ to ∷ w.1))) =
    subst (λ vs. AtMostOne (under q (row ∷ rows vs))) w.2 one in
    let put : put_in window place t ws ≡ w.0 ++ with_tabs (put_at place t) to ∷ w.1 =
    ap (λ v. put_in v place t ws) w.3 ∙ ap (put_in to.info.id place t) w.2
    ∙ change-own (with_tabs (put_at place t)) w.0 to w.1 (subst InOrder w.2 sorted) in
    subst (λ n. under q (map (renumber n (t ∷ post)) (row ∷ rows ws))
    ≡ under q (rows (w.0 ++ with_tabs (put_at place t) to ∷ w.1))) long
    (subst (λ vs. under q (map (renumber (length pre) (t ∷ post)) (row ∷ rows vs))
    ≡ under q (rows (w.0 ++ with_tabs (put_at place t) to ∷ w.1))) (sym w.2)
    (came-in q w.0 to w.1 pre post t row whole bare' one'))
    ∙ ap (λ vs. under q (rows vs)) (sym put)

pub move-elsewhere-matches : (s : State) (b : Browser) (id window : ℤ) (st : Stand) (to : BrowserWindow) (place : ℕ)
    → IsRunning s → Matches s b → stand_of id b ≡ Some st
    → find_row int_cmp open_key window (taken_out id b.windows) ≡ Some to → stands window s.windows ≡ true
    → place ≤ length to.tabs → Matches (fold s (move_elsewhere st window place b)) (moved_tab st window place b)
move-elsewhere-matches s b id window st to place r m found live opened room =
    let p = split id b.windows st (one-stand s b id st r m found) in
    let key_is : id ≡ stand_key st = p.tab.key in
    let sorted = in-order s b r m in
    let later = later-is id b.windows st p sorted in
    let n = length p.tab.pre in
    let place_is : st.place ≡ n = let e = p.tab.place in omega (arith, e) in
    let single = at-most-one s b r m in
    let post = drop place to.tabs in
    let others : others_of st window b.windows ≡ to.tabs = rw (sym key_is, live) refl in
    let f = front p.before p.own p.tab.pre in
    let rest = rows_from p.own.info.id (suc n) p.tab.post ++ rows p.after in
    let left = left_rows id b.windows st p in
    let row = row_of (record { window = p.own.info.id; place = n; tab = st.tab }) in
    let x : Tab = record row { window = Some window } in
    let g0 = on id (λ t. record t { window = Some window }) in
    let g1 = renumber n p.tab.post in
    let g2 = renumber place (st.tab ∷ post) in
    let has : ℤ → Type 0 = λ q. has_tab q s ≡ true in
    let open_ : ℤ → Type 0 = λ q. stands q s.windows ≡ true in
    -- under each id the state's tabs are the tab and those that are left
    let at_first : Same s.tabs (row ∷ left) = λ q. m.tabs q ∙ ap (under q) (with-tab id b.windows st p)
    ∙ sym (swap-back q row f rest (subst (λ xs. AtMostOne (under q xs)) (with-tab id b.windows st p) (single q))) in
    let there : (q : ℤ) → under q s.tabs ≡ [] → under q (row ∷ left) ≡ [] = λ q none. sym (at_first q) ∙ none in
    let g0_left : map g0 (row ∷ left) ≡ x ∷ left =
    let mine : is_eq (int_cmp id (tab_key row)) ≡ true = rw (sym key_is) (equals_itself id) in
    rw (mine, left-on id (λ t. record t { window = Some window }) left (none-left id b.windows st p)) refl in
    let g1_left : map g1 (x ∷ left) ≡ x ∷ map g1 left =
    ap (λ z. z ∷ map g1 left) (renumber-none id n p.tab.post x (sym key_is) p.tab.none_post) in
    let moved : Same (x ∷ map g1 left) (x ∷ rows (taken_out id b.windows)) =
    λ q. ap (λ zs. cond (is_eq (int_cmp q (tab_key x))) (x ∷ zs) zs) (moved-up id b.windows st p single q) in
    let keys01 : (t : Tab) → tab_key (g1 (g0 t)) ≡ tab_key t = λ t. renumber-key n p.tab.post (g0 t)
    ∙ on-key id (λ y. record y { window = Some window }) (λ y. refl) t in
    let halfway : (q : ℤ) → map (λ t. g1 (g0 t)) (under q s.tabs) ≡ under q (x ∷ rows (taken_out id b.windows)) = λ q.
    ap (map (λ t. g1 (g0 t))) (at_first q)
    ∙ sym (only-map int_cmp tab_key (λ t. g1 (g0 t)) keys01 q (row ∷ left))
    ∙ ap (under q) (sym (map-map g0 g1 (row ∷ left)) ∙ ap (map g1) g0_left ∙ g1_left)
    ∙ moved q in
    let one_x : (q : ℤ) → AtMostOne (under q (x ∷ rows (taken_out id b.windows))) =
    λ q. subst AtMostOne (halfway q) (at-most-map (λ t. g1 (g0 t)) (under q s.tabs)
    (subst AtMostOne (sym (m.tabs q)) (single q))) in
    let in_first : (q : ℤ) → under q (map g2 (x ∷ rows (taken_out id b.windows)))
    ≡ under q (rows (put_in window place st.tab (taken_out id b.windows))) =
    λ q. came q window place st.tab x (taken_out id b.windows) to (in-order-taken id b.windows sorted) live room refl
    (one_x q) in
    let first_row : under id (row ∷ left) ≡ row ∷ under id left = let mine : is_eq (int_cmp id (tab_key row)) ≡ true =
    rw (sym key_is) (equals_itself id) in rw mine refl in
    let own_has : has id = stands-under id s.tabs
    (λ none. let no : row ∷ under id left ≡ [] = sym first_row ∙ there id none in absurd cc) in
    let of_left : (q : ℤ) → under q (row ∷ left) ≡ [] → under q left ≡ [] = λ q none. no-rest q row left none in
    let have1 : AllHave has p.tab.post = all-have has p.tab.post
    (λ q some. stands-under q s.tabs (λ none. some (in-post p q (of_left q (there q none))))) in
    let have2 : AllHave has post = all-have has post
    (λ q some. stands-under q s.tabs (λ none. some (in-window q (λ t. g1 (g0 t)) x (halfway q) none))) in
    let turns : Turns has open_ (λ t. g2 (g1 (g0 t)))
    ((TabWindow window id ∷ []) ++ (places n p.tab.post ++ places place (st.tab ∷ post))) =
    turns-then has open_ g0 (λ t. g2 (g1 t)) (TabWindow window id ∷ [])
    (places n p.tab.post ++ places place (st.tab ∷ post)) (turns-placed has open_ window id own_has opened)
    (turns-then has open_ g1 g2 (places n p.tab.post) (places place (st.tab ∷ post))
    (turns-places has open_ n p.tab.post have1)
    (turns-places has open_ place (st.tab ∷ post) (subst has key_is own_has, have2))) in
    let run : fold s ((TabWindow window id ∷ []) ++ (places n p.tab.post ++ places place (st.tab ∷ post)))
    ≡ mapped (λ t. g2 (g1 (g0 t))) s = turns.to s r (λ q h. h) (λ q h. h) in
    let list : ℤ → List BrowserTab → ℕ → List BrowserTab → List SessionCommand =
    λ j us k vs. (TabWindow window j ∷ []) ++ (places k us ++ places place (st.tab ∷ drop place vs)) in
    let same_list : move_elsewhere st window place b ≡ list id p.tab.post n to.tabs =
    ap (λ j. list j (later_tabs st b.windows) st.place (others_of st window b.windows)) (sym key_is)
    ∙ ap (λ us. list id us st.place (others_of st window b.windows)) later
    ∙ ap (λ k. list id p.tab.post k (others_of st window b.windows)) place_is
    ∙ ap (list id p.tab.post n) others in
    let all : fold s (move_elsewhere st window place b) ≡ mapped (λ t. g2 (g1 (g0 t))) s = ap (fold s) same_list
    ∙ run in
    subst (λ z. Matches z (moved_tab st window place b)) (sym all) (record {
      tabs = λ q.
          only-map int_cmp tab_key (λ t. g2 (g1 (g0 t))) turns.keys q s.tabs
          ∙ sym (map-map (λ t. g1 (g0 t)) g2 (under q s.tabs))
          ∙ ap (map g2) (halfway q)
          ∙ sym (only-map int_cmp tab_key g2 (renumber-key place (st.tab ∷ post)) q (x ∷ rows (taken_out id b.windows)))
          ∙ in_first q
          ∙ ap (λ j. under q (rows (put_in window place st.tab (taken_out j b.windows)))) key_is;
      windows = m.windows ∙ sym (same-windows (filter (is_other (stand_key st))) b.windows)
          ∙ sym (same-put window (with_tabs (put_at place st.tab)) (λ w. refl) (taken_out (stand_key st) b.windows));
      active = m.active;
      groups = each-in (HasGroup b.groups s.groups) window place st.tab (taken_out (stand_key st) b.windows)
          (of-found (HasGroup b.groups s.groups) s b id st r m found m.groups)
          (each-taken (HasGroup b.groups s.groups) (stand_key st) b.windows m.groups);
      at_page = each-in IsAtPage window place st.tab (taken_out (stand_key st) b.windows)
          (of-found IsAtPage s b id st r m found m.at_page) (each-taken IsAtPage (stand_key st) b.windows m.at_page);
    })
  where
    no-rest : (q : ℤ) (x : Tab) (xs : List Tab) → under q (x ∷ xs) ≡ [] → under q xs ≡ []
    no-rest q x xs none = by (is_eq (int_cmp q (tab_key x))) refl
      where
        by : (b : Bool) → is_eq (int_cmp q (tab_key x)) ≡ b → under q xs ≡ []
        by true e = let no : x ∷ under q xs ≡ [] = rw e at none in absurd cc
        by false e = rw e at none

    in-post : (p : Split id b.windows st) (q : ℤ) → under q (left_rows id b.windows st p) ≡ []
        → only int_cmp own_id q p.tab.post ≡ []
    in-post p q none =
        let parts = under-append q (front p.before p.own p.tab.pre)
        (rows_from p.own.info.id (suc (length p.tab.pre)) p.tab.post ++ rows p.after) in
        let back = empty-both (under q (front p.before p.own p.tab.pre))
        (under q (rows_from p.own.info.id (suc (length p.tab.pre)) p.tab.post ++ rows p.after))
        (sym parts ∙ none) in
        let mid = empty-both (under q (rows_from p.own.info.id (suc (length p.tab.pre)) p.tab.post))
        (under q (rows p.after)) (sym (under-append q (rows_from p.own.info.id (suc (length p.tab.pre)) p.tab.post)
        (rows p.after)) ∙ back.1) in
        none-under q p.own.info.id (suc (length p.tab.pre)) p.tab.post mid.0

    -- a tab of the other window stands
    in-window : (q : ℤ) (g : Tab → Tab) (x : Tab) → map g (under q s.tabs) ≡ under q (x ∷ rows (taken_out id b.windows))
        → under q s.tabs ≡ [] → only int_cmp own_id q (drop place to.tabs) ≡ []
    in-window q g x half none =
        let all_none : under q (x ∷ rows (taken_out id b.windows)) ≡ [] = sym half ∙ ap (map g) none in
        let none' : under q (rows (taken_out id b.windows)) ≡ [] =
        no-rest q x (rows (taken_out id b.windows)) all_none in
        let w = find-split window (taken_out id b.windows) to live in
        let split_is = ap rows w.2 ∙ rows-split w.0 to w.1 (take place to.tabs) (drop place to.tabs)
        (sym (take-append-drop place to.tabs)) in
        let parts : under q (front w.0 to (take place to.tabs))
        ++ under q (rows_from to.info.id (length (take place to.tabs)) (drop place to.tabs) ++ rows w.1) ≡ [] =
        sym (under-append q (front w.0 to (take place to.tabs))
        (rows_from to.info.id (length (take place to.tabs)) (drop place to.tabs) ++ rows w.1))
        ∙ ap (under q) (sym split_is) ∙ none' in
        let back = empty-both (under q (front w.0 to (take place to.tabs)))
        (under q (rows_from to.info.id (length (take place to.tabs)) (drop place to.tabs) ++ rows w.1)) parts in
        let mid = empty-both (under q (rows_from to.info.id (length (take place to.tabs)) (drop place to.tabs)))
        (under q (rows w.1)) (sym (under-append q
        (rows_from to.info.id (length (take place to.tabs)) (drop place to.tabs)) (rows w.1)) ∙ back.1) in
        none-under q to.info.id (length (take place to.tabs)) (drop place to.tabs) mid.0
