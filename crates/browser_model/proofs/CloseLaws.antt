-- A closed tab: the commands lead from a state that matches to one that matches.
use Rattle.std.proofs.Common.{◌≡◌, ℕ, zero, suc, Bool, true, false, cond, ℤ, List, [], ◌∷◌, ◌++◌, map, filter, length}
use Rattle.std.proofs.Common.{Some, refl, sym, ap, subst, ◌∙◌, arith}
use Rattle.std.specs.Ordering.{int_cmp}
use Rattle.std.specs.List.{AllByRecursion}
use Rattle.window_state.specs.declared.tab.Tab.{Tab}
use Rattle.window_state.specs.Keys.{tab_key}
use Rattle.window_state.specs.RowLists.{only}
use Rattle.window_state.specs.States.{State, tab_closed}
use Rattle.window_state.specs.TabLists.{Same, under, AtMostOne}
use Rattle.window_state.proofs.OnlyLaws.{only-map, only-seen}
use Rattle.window_state.proofs.IdLaws.{under-append}
use Rattle.replay_machine.specs.Step.{fold}
use Rattle.browser_model.specs.Browsers.{Browser, BrowserWindow, BrowserTab, Stand, own_id, stand_key, row_of}
use Rattle.browser_model.specs.Browsers.{all_stands, rows, Matches, EachTab, IsAtPage, HasGroup}
use Rattle.browser_model.specs.Tabs.{stand_of, with_tabs, is_other, taken_out, places, later_tabs}
use Rattle.browser_model.specs.Closing.{closed_tab, close_tab}
use Rattle.browser_model.specs.Running.{IsRunning}
use Rattle.browser_model.proofs.Turns.{has_tab, mapped}
use Rattle.browser_model.proofs.Renumber.{rows_from, unplaced, renumber, renumber-key, renumbered, turns-places}
use Rattle.browser_model.proofs.Renumber.{AllHave, none-under, under-none}
use Rattle.browser_model.proofs.Splits.{Split, split, front, rows-split, taken-split, later-is}
use Rattle.browser_model.proofs.Matching.{at-most-one, one-stand, in-order, same-windows, stands-under, all-have}
use Rattle.browser_model.proofs.Matching.{empty-both, fewer, without-same, running-closed}

pub bare-rows : (window : ℤ) (n m : ℕ) (us : List BrowserTab)
    → map unplaced (rows_from window n us) ≡ map unplaced (rows_from window m us)
bare-rows window n m [] = refl
bare-rows window n m (u ∷ us) = ap (λ xs. unplaced (row_of (record { window = window; place = zero; tab = u })) ∷ xs)
    (bare-rows window (suc n) (suc m) us)

pub bare-under : (id window : ℤ) (n m : ℕ) (us : List BrowserTab)
    → map unplaced (under id (rows_from window n us)) ≡ map unplaced (under id (rows_from window m us))
bare-under id window n m us =
    sym (only-map int_cmp tab_key unplaced (λ t. refl) id (rows_from window n us))
    ∙ ap (under id) (bare-rows window n m us)
    ∙ only-map int_cmp tab_key unplaced (λ t. refl) id (rows_from window m us)

-- the rows that are left where a tab goes, the later ones not yet told their places
abbrev pub left_rows : (id : ℤ) (windows : List BrowserWindow) (s : Stand) → Split id windows s → List Tab
left_rows id windows s p = front p.before p.own p.tab.pre
    ++ (rows_from p.own.info.id (suc (length p.tab.pre)) p.tab.post ++ rows p.after)

module _ (id : ℤ) (windows : List BrowserWindow) (s : Stand) (p : Split id windows s) where
  pub with-tab : rows windows ≡ front p.before p.own p.tab.pre
      ++ row_of (record { window = p.own.info.id; place = length p.tab.pre; tab = s.tab })
      ∷ (rows_from p.own.info.id (suc (length p.tab.pre)) p.tab.post ++ rows p.after)
  with-tab = ap rows p.is ∙ rows-split p.before p.own p.after p.tab.pre (s.tab ∷ p.tab.post) p.tab.is

  pub none-left : under id (left_rows id windows s p) ≡ []
  none-left =
      let w = p.own.info.id in
      let seen : (ws : List BrowserWindow) → only int_cmp stand_key id (all_stands ws) ≡ [] → under id (rows ws) ≡ [] =
      λ ws none. only-seen int_cmp stand_key tab_key row_of (λ x. refl) id (all_stands ws) ∙ ap (map row_of) none in
      under-append id (front p.before p.own p.tab.pre) (rows_from w (suc (length p.tab.pre)) p.tab.post ++ rows p.after)
      ∙ rw (
        under-append id (rows p.before) (rows_from w zero p.tab.pre),
        under-append id (rows_from w (suc (length p.tab.pre)) p.tab.post) (rows p.after),
        seen p.before p.none_before,
        under-none id w zero p.tab.pre p.tab.none_pre,
        under-none id w (suc (length p.tab.pre)) p.tab.post p.tab.none_post,
        seen p.after p.none_after,
      ) refl

  -- the later tabs move up
  pub moved-up : ((q : ℤ) → AtMostOne (under q (rows windows)))
      → Same (map (renumber (length p.tab.pre) p.tab.post) (left_rows id windows s p)) (rows (taken_out id windows))
  moved-up one q =
      let w = p.own.info.id in
      let n = length p.tab.pre in
      let one' = subst (λ xs. AtMostOne (under q xs)) with-tab (one q) in
      renumbered q w n p.tab.post (front p.before p.own p.tab.pre) (rows_from w (suc n) p.tab.post) (rows p.after)
      (bare-under q w (suc n) n p.tab.post)
      (fewer q (front p.before p.own p.tab.pre) (row_of (record { window = w; place = n; tab = s.tab }))
      (rows_from w (suc n) p.tab.post ++ rows p.after) one')
      ∙ ap (under q) (sym (ap rows (taken-split id windows s p)
      ∙ rows-split p.before (with_tabs (λ tabs. p.tab.pre ++ p.tab.post) p.own) p.after p.tab.pre p.tab.post refl))

-- what holds of each tab holds of those that are left
all-filtered : {X : Type 0} (P : X → Type 0) (test : X → Bool) (xs : List X) → AllByRecursion P xs
    → AllByRecursion P (filter test xs)
all-filtered P test [] all = tt
all-filtered P test (x ∷ xs) all = let rest = all-filtered P test xs all.1 in
    elim (test x) as (λ b. AllByRecursion P (cond b (x ∷ filter test xs) (filter test xs)))
    [ true ↦ (all.0, rest) | false ↦ rest ]

pub each-taken : (P : BrowserTab → Type 0) (id : ℤ) (windows : List BrowserWindow) → EachTab P windows
    → EachTab P (taken_out id windows)
each-taken P id [] all = tt
each-taken P id (w ∷ ws) all = (all-filtered P (is_other id) w.tabs all.0, each-taken P id ws all.1)

pub close-run : (s : State) (b : Browser) (id : ℤ) (st : Stand) → IsRunning s → Matches s b → stand_of id b ≡ Some st
    → (p : Split id b.windows st) × (st.place ≡ length p.tab.pre) × (later_tabs st b.windows ≡ p.tab.post)
    × Same (tab_closed id s).tabs (left_rows id b.windows st p)
    × (fold s (close_tab st b) ≡ mapped (renumber (length p.tab.pre) p.tab.post) (tab_closed id s))
close-run s b id st r m found =
    let one = one-stand s b id st r m found in
    let p = split id b.windows st one in
    let sorted = in-order s b r m in
    let later = later-is id b.windows st p sorted in
    let place_is : st.place ≡ length p.tab.pre = let e = p.tab.place in omega (arith, e) in
    let single = at-most-one s b r m in
    let s1 = tab_closed id s in
    let same : Same s1.tabs (left_rows id b.windows st p) =
    without-same id s.tabs (front p.before p.own p.tab.pre)
    (row_of (record { window = p.own.info.id; place = length p.tab.pre; tab = st.tab }))
    (rows_from p.own.info.id (suc (length p.tab.pre)) p.tab.post ++ rows p.after)
    r.tabs (λ q. m.tabs q ∙ ap (under q) (with-tab id b.windows st p)) p.tab.key (none-left id b.windows st p) in
    let have : AllHave (λ q. has_tab q s1 ≡ true) p.tab.post =
    all-have (λ q. has_tab q s1 ≡ true) p.tab.post
    (λ q some. stands-under q s1.tabs (λ none. some (there p q (sym (same q) ∙ none)))) in
    let turns = turns-places (λ q. has_tab q s1 ≡ true) (λ q. ⊥) (length p.tab.pre) p.tab.post have in
    let run : fold s1 (places (length p.tab.pre) p.tab.post) ≡ mapped (renumber (length p.tab.pre) p.tab.post) s1 =
    turns.to s1 (running-closed id s r) (λ q h. h) (λ q no. absurd no) in
    let all : fold s (close_tab st b) ≡ mapped (renumber (length p.tab.pre) p.tab.post) s1 =
    ap (λ j. fold (tab_closed j s) (places st.place (later_tabs st b.windows))) (sym p.tab.key)
    ∙ ap (λ us. fold s1 (places st.place us)) later ∙ ap (λ n. fold s1 (places n p.tab.post)) place_is ∙ run in
    (p, place_is, later, same, all)
  where
    there : (p : Split id b.windows st) (q : ℤ) → under q (left_rows id b.windows st p) ≡ []
        → only int_cmp own_id q p.tab.post ≡ []
    there p q none =
        let parts = under-append q (front p.before p.own p.tab.pre)
        (rows_from p.own.info.id (suc (length p.tab.pre)) p.tab.post ++ rows p.after) in
        let back = empty-both (under q (front p.before p.own p.tab.pre))
        (under q (rows_from p.own.info.id (suc (length p.tab.pre)) p.tab.post ++ rows p.after))
        (sym parts ∙ none) in
        let mid = empty-both (under q (rows_from p.own.info.id (suc (length p.tab.pre)) p.tab.post))
        (under q (rows p.after)) (sym (under-append q (rows_from p.own.info.id (suc (length p.tab.pre)) p.tab.post)
        (rows p.after)) ∙ back.1) in
        none-under q p.own.info.id (suc (length p.tab.pre)) p.tab.post mid.0

pub close-matches : (s : State) (b : Browser) (id : ℤ) (st : Stand) → IsRunning s → Matches s b
    → stand_of id b ≡ Some st → Matches (fold s (close_tab st b)) (closed_tab id b)
close-matches s b id st r m found =
    let run = close-run s b id st r m found in
    let p = run.0 in
    let same = run.3 in
    let all = run.4 in
    let single = at-most-one s b r m in
    let s1 = tab_closed id s in
    subst (λ t. Matches t (closed_tab id b)) (sym all) (record {
      tabs = λ q.
          only-map int_cmp tab_key (renumber (length p.tab.pre) p.tab.post) (renumber-key (length p.tab.pre) p.tab.post)
          q s1.tabs
          ∙ ap (map (renumber (length p.tab.pre) p.tab.post)) (same q)
          ∙ sym (only-map int_cmp tab_key (renumber (length p.tab.pre) p.tab.post)
          (renumber-key (length p.tab.pre) p.tab.post) q (left_rows id b.windows st p))
          ∙ moved-up id b.windows st p single q;
      windows = m.windows ∙ sym (same-windows (filter (is_other id)) b.windows);
      active = m.active;
      groups = each-taken (HasGroup b.groups s.groups) id b.windows m.groups;
      at_page = each-taken IsAtPage id b.windows m.at_page;
    })
