-- Verbs on one tab: the commands lead from a state that matches to one that matches.
use Rattle.std.proofs.Common.{◌≡◌, ℕ, zero, suc, ◌-◌, ◌≤◌, ◌<◌, nat_lt, Bool, true, false, cond, if◌then◌else◌, ℤ, pos}
use Rattle.std.proofs.Common.{List, [], ◌∷◌, ◌++◌, map, length, take, drop, Some, refl, sym, ap, subst, ◌∙◌, arith}
use Rattle.std.specs.Ordering.{int_cmp, is_eq}
use Rattle.std.specs.List.{AllByRecursion}
use Rattle.std.proofs.lemmas.List.{map-append, length-append, length-take, length-drop}
use Rattle.navigation_entry.specs.declared.navigation.Navigation.{Navigation}
use Rattle.session_commands.specs.declared.command.SessionCommand.{SessionCommand}
use Rattle.session_commands.specs.declared.command.SessionCommand.TheVariants.{UpdateNavigation, PrunedBack}
use Rattle.session_commands.specs.declared.command.SessionCommand.TheVariants.{SelectNavigation, PrunedFront, Pinned}
use Rattle.session_commands.specs.declared.command.SessionCommand.TheVariants.{LastActive}
use Rattle.tab_pages.specs.PageLists.{prune_back, prune_front, put_page}
use Rattle.window_state.specs.declared.tab.Tab.{Tab}
use Rattle.window_state.specs.Keys.{tab_key}
use Rattle.window_state.specs.Changes.{current_front}
use Rattle.window_state.specs.States.{State, on_tab}
use Rattle.window_state.specs.RowLists.{only, on_key}
use Rattle.window_state.specs.TabLists.{under}
use Rattle.window_state.proofs.OnlyLaws.{only-map, only-seen}
use Rattle.window_state.proofs.IdLaws.{equals_itself, under-append}
use Rattle.replay_machine.specs.Step.{step, fold}
use Rattle.browser_model.specs.Browsers.{Browser, BrowserWindow, BrowserTab, Stand, own_id, stand_key, row_of, numbered}
use Rattle.browser_model.specs.Browsers.{stands_from, all_stands, rows, Matches, EachTab, AtPage, IsAtPage, HasGroup}
use Rattle.browser_model.specs.Tabs.{stand_of, with_tabs, put_tab}
use Rattle.browser_model.specs.OneTab.{reached, visited, visit, where_so, pinned, pin}
use Rattle.browser_model.specs.Running.{IsRunning}
use Rattle.browser_model.proofs.Turns.{Turns, has_tab, mapped, on, on-key, turns-none, turns-one, turns-then}
use Rattle.browser_model.proofs.Renumber.{rows_from, under-none, none-under}
use Rattle.browser_model.proofs.Splits.{Split, split, front, rows-split}
use Rattle.browser_model.proofs.Matching.{one-stand, same-windows, stands-under}
use Rattle.browser_model.proofs.CloseLaws.{with-tab}
use Rattle.browser_model.proofs.PageSteps.{number-put, reached-within, back-where, front-where, current-where}

-- tabs under other keys are left
pub left-on : (id : ℤ) (f : Tab → Tab) (xs : List Tab) → under id xs ≡ [] → map (on id f) xs ≡ xs
left-on id f [] none = refl
left-on id f (x ∷ xs) none = by (left-on id f xs) (is_eq (int_cmp id (tab_key x))) refl
  where
    by : (under id xs ≡ [] → map (on id f) xs ≡ xs) → (b : Bool) → is_eq (int_cmp id (tab_key x)) ≡ b
        → map (on id f) (x ∷ xs) ≡ x ∷ xs
    by rest true e = let none' : x ∷ under id xs ≡ [] = rw e at none in absurd cc
    by rest false e = rw e (ap (λ ys. x ∷ ys) (rest (rw e at none)))

left-tabs : (id : ℤ) (new : BrowserTab) (ts : List BrowserTab) → only int_cmp own_id id ts ≡ []
    → map (on_key int_cmp own_id id (λ t. new)) ts ≡ ts
left-tabs id new [] none = refl
left-tabs id new (x ∷ xs) none = by (left-tabs id new xs) (is_eq (int_cmp id (own_id x))) refl
  where
    by : (only int_cmp own_id id xs ≡ [] → map (on_key int_cmp own_id id (λ t. new)) xs ≡ xs) → (b : Bool)
        → is_eq (int_cmp id (own_id x)) ≡ b → map (on_key int_cmp own_id id (λ t. new)) (x ∷ xs) ≡ x ∷ xs
    by rest true e = let none' : x ∷ only int_cmp own_id id xs ≡ [] = rw e at none in absurd cc
    by rest false e = rw e (ap (λ ys. x ∷ ys) (rest (rw e at none)))

left-windows : (id : ℤ) (new : BrowserTab) (ws : List BrowserWindow) → under id (rows ws) ≡ [] → put_tab id new ws ≡ ws
left-windows id new [] none = refl
left-windows id new (w ∷ ws) none =
    let parts = map-append row_of (stands_from w.info.id zero w.tabs) (all_stands ws) in
    let both = empty (under id (rows_from w.info.id zero w.tabs)) (under id (rows ws))
    (sym (ap (under id) parts ∙ under-append id (rows_from w.info.id zero w.tabs) (rows ws)) ∙ none) in
    rw (left-tabs id new w.tabs (none-under id w.info.id zero w.tabs both.0))
    (ap (λ vs. w ∷ vs) (left-windows id new ws both.1))
  where
    empty : (xs ys : List Tab) → xs ++ ys ≡ [] → (xs ≡ []) × (ys ≡ [])
    empty [] ys h = (refl, h)
    empty (z ∷ xs) ys h = absurd cc

-- what holds of each tab holds when one is changed of which it holds
pub each-put : (P : BrowserTab → Type 0) (id : ℤ) (new : BrowserTab) (ws : List BrowserWindow) → P new → EachTab P ws
    → EachTab P (put_tab id new ws)
each-put P id new [] own all = tt
each-put P id new (w ∷ ws) own all = (tabs w.tabs all.0, each-put P id new ws own all.1)
  where
    tabs : (ts : List BrowserTab) → AllByRecursion P ts
        → AllByRecursion P (map (on_key int_cmp own_id id (λ t. new)) ts)
    tabs [] all = tt
    tabs (t ∷ ts) all = let rest = tabs ts all.1 in
        (elim (is_eq (int_cmp id (own_id t))) as (λ b. P (cond b new t)) [ true ↦ own | false ↦ all.0 ], rest)

-- and of the one that stands
pub of-stand : (P : BrowserTab → Type 0) (id : ℤ) (ws : List BrowserWindow) (st : Stand) → Split id ws st → EachTab P ws
    → P st.tab
of-stand P id ws st p all = here p.tab.pre
    (subst (AllByRecursion P) p.tab.is (there p.before (subst (EachTab P) p.is all)))
  where
    there : (before : List BrowserWindow) → EachTab P (before ++ p.own ∷ p.after) → AllByRecursion P p.own.tabs
    there [] all = all.0
    there (w ∷ ws) all = there ws all.1

    here : (pre : List BrowserTab) → AllByRecursion P (pre ++ st.tab ∷ p.tab.post) → P st.tab
    here [] all = all.0
    here (t ∷ ts) all = here ts all.1

abbrev pub when : Bool → (Tab → Tab) → Tab → Tab
when b f t = if b then f t else t

-- commands that change one tab
pub record TurnsTab (id : ℤ) (f : Tab → Tab) (commands : List SessionCommand) : Type 0 where
  pub keys : (t : Tab) → tab_key (f t) ≡ tab_key t
  pub turns : Turns (λ q. q ≡ id) (λ q. ⊥) (on id f) commands

turns-same : (id : ℤ) (f g : Tab → Tab) (commands : List SessionCommand) → ((t : Tab) → f t ≡ g t)
    → Turns (λ q. q ≡ id) (λ q. ⊥) f commands → Turns (λ q. q ≡ id) (λ q. ⊥) g commands
turns-same id f g commands same turns = subst (λ h. Turns (λ q. q ≡ id) (λ q. ⊥) h commands) (λ i t. same t i) turns

pub tab-one : (id : ℤ) (f : Tab → Tab) (command : SessionCommand) → ((t : Tab) → tab_key (f t) ≡ tab_key t)
    → ((s : State) → step s command ≡ on_tab id f s) → TurnsTab id f (command ∷ [])
tab-one id f command keys steps = record {
  keys = keys;
  turns = turns-one (λ q. q ≡ id) (λ q. ⊥) id f command keys refl steps;
}

pub tab-then : (id : ℤ) (f g : Tab → Tab) (xs ys : List SessionCommand) → TurnsTab id f xs → TurnsTab id g ys
    → TurnsTab id (λ t. g (f t)) (xs ++ ys)
tab-then id f g xs ys first second = record {
  keys = λ t. second.keys (f t) ∙ first.keys t;
  turns = turns-same id (λ t. on id g (on id f t)) (on id (λ t. g (f t))) (xs ++ ys) both
      (turns-then (λ q. q ≡ id) (λ q. ⊥) (on id f) (on id g) xs ys first.turns second.turns);
}
  where
    both : (t : Tab) → on id g (on id f t) ≡ on id (λ x. g (f x)) t
    both t = by (is_eq (int_cmp id (tab_key t))) refl
      where
        by : (b : Bool) → is_eq (int_cmp id (tab_key t)) ≡ b → on id g (on id f t) ≡ on id (λ x. g (f x)) t
        by true e = rw (e, first.keys t, e) refl
        by false e = rw (e, e) refl

pub tab-nothing : (id : ℤ) → TurnsTab id (λ t. t) []
tab-nothing id = record {
  keys = λ t. refl;
  turns = turns-same id (λ t. t) (on id (λ t. t)) []
      (λ t. elim (is_eq (int_cmp id (tab_key t))) as (λ b. t ≡ cond b t t) [ true ↦ refl | false ↦ refl ])
      (turns-none (λ q. q ≡ id) (λ q. ⊥));
}

pub tab-where : (id : ℤ) (b : Bool) (f : Tab → Tab) (command : SessionCommand) → TurnsTab id f (command ∷ [])
    → TurnsTab id (when b f) (where_so b command)
tab-where id true f command turns = turns
tab-where id false f command turns = record {
  keys = λ t. refl;
  turns = turns-same id (λ t. t) (on id (λ t. t)) []
      (λ t. elim (is_eq (int_cmp id (tab_key t))) as (λ b. t ≡ cond b t t) [ true ↦ refl | false ↦ refl ])
      (turns-none (λ q. q ≡ id) (λ q. ⊥));
}

-- the tab's row becomes another
pub one-row : (s : State) (b : Browser) (id : ℤ) (st : Stand) (new : BrowserTab) (f : Tab → Tab) → IsRunning s
    → Matches s b → stand_of id b ≡ Some st
    → ((t : Tab) → tab_key (f t) ≡ tab_key t) → f (row_of st) ≡ row_of (record st { tab = new })
    → HasGroup b.groups s.groups new → IsAtPage new
    → Matches (mapped (on id f) s) (record b { windows = put_tab id new b.windows })
one-row s b id st new f r m found keys leads group page =
    let p = split id b.windows st (one-stand s b id st r m found) in
    record {
      tabs = λ q.
          only-map int_cmp tab_key (on id f) (on-key id f keys) q s.tabs
          ∙ ap (map (on id f)) (m.tabs q)
          ∙ sym (only-map int_cmp tab_key (on id f) (on-key id f keys) q (rows b.windows))
          ∙ ap (under q) (changed p);
      windows = m.windows ∙ sym (same-windows (map (on_key int_cmp own_id id (λ t. new))) b.windows);
      active = m.active;
      groups = each-put (HasGroup b.groups s.groups) id new b.windows group m.groups;
      at_page = each-put IsAtPage id new b.windows page m.at_page;
    }
  where
    changed : (p : Split id b.windows st) → map (on id f) (rows b.windows) ≡ rows (put_tab id new b.windows)
    changed p =
        let w = p.own.info.id in
        let n = length p.tab.pre in
        let seen : (ws : List BrowserWindow) → only int_cmp stand_key id (all_stands ws) ≡ []
        → under id (rows ws) ≡ [] = λ ws none. only-seen int_cmp stand_key tab_key row_of (λ x. refl) id
        (all_stands ws) ∙ ap (map row_of) none in
        let place_is : st.place ≡ n = let e = p.tab.place in omega (arith, e) in
        let place : Stand = record { window = w; place = n; tab = st.tab } in
        let same : st ≡ place = λ i. record { window = p.tab.window_is i; place = place_is i; tab = st.tab } in
        let mine : is_eq (int_cmp id (stand_key st)) ≡ true = rw (sym p.tab.key) (equals_itself id) in
        let new_row : f (row_of place) ≡ row_of (record place { tab = new }) =
        subst (λ x. f (row_of x) ≡ row_of (record x { tab = new })) same leads in
        let own_tabs : map (on_key int_cmp own_id id (λ t. new)) p.own.tabs ≡ p.tab.pre ++ new ∷ p.tab.post =
        ap (map (on_key int_cmp own_id id (λ t. new))) p.tab.is
        ∙ map-append (on_key int_cmp own_id id (λ t. new)) p.tab.pre (st.tab ∷ p.tab.post)
        ∙ rw (mine, left-tabs id new p.tab.pre p.tab.none_pre, left-tabs id new p.tab.post p.tab.none_post) refl in
        let put : put_tab id new b.windows ≡ p.before
        ++ with_tabs (λ tabs. p.tab.pre ++ new ∷ p.tab.post) p.own ∷ p.after =
        ap (put_tab id new) p.is
        ∙ map-append (with_tabs (map (on_key int_cmp own_id id (λ t. new)))) p.before (p.own ∷ p.after)
        ∙ rw (
          left-windows id new p.before (seen p.before p.none_before),
          left-windows id new p.after (seen p.after p.none_after),
          own_tabs,
        ) refl in
        ap (map (on id f)) (with-tab id b.windows st p)
        ∙ map-append (on id f) (front p.before p.own p.tab.pre)
        (row_of place ∷ rows_from w (suc n) p.tab.post ++ rows p.after)
        ∙ rw (
          map-append (on id f) (rows p.before) (rows_from w zero p.tab.pre),
          map-append (on id f) (rows_from w (suc n) p.tab.post) (rows p.after),
          mine,
          left-on id f (rows p.before) (seen p.before p.none_before),
          left-on id f (rows_from w zero p.tab.pre) (under-none id w zero p.tab.pre p.tab.none_pre),
          left-on id f (rows_from w (suc n) p.tab.post) (under-none id w (suc n) p.tab.post p.tab.none_post),
          left-on id f (rows p.after) (seen p.after p.none_after),
          new_row,
        ) refl
        ∙ sym (ap rows put ∙ rows-split p.before (with_tabs (λ tabs. p.tab.pre ++ new ∷ p.tab.post) p.own) p.after
        p.tab.pre (new ∷ p.tab.post) refl)

pub one-tab : (s : State) (b : Browser) (id : ℤ) (st : Stand) (new : BrowserTab) (f : Tab → Tab)
    (commands : List SessionCommand) → IsRunning s → Matches s b → stand_of id b ≡ Some st
    → TurnsTab id f commands → f (row_of st) ≡ row_of (record st { tab = new }) → HasGroup b.groups s.groups new
    → IsAtPage new
    → Matches (fold s commands) (record b { windows = put_tab id new b.windows })
one-tab s b id st new f commands r m found turns leads group page =
    let one = one-stand s b id st r m found in
    let seen : under id (rows b.windows) ≡ row_of st ∷ [] =
    only-seen int_cmp stand_key tab_key row_of (λ x. refl) id (all_stands b.windows) ∙ ap (map row_of) one in
    let stands : has_tab id s ≡ true = stands-under id s.tabs
    (λ none. let no : row_of st ∷ [] ≡ [] = sym seen ∙ sym (m.tabs id) ∙ none in absurd cc) in
    let run : fold s commands ≡ mapped (on id f) s =
    turns.turns.to s r (λ q is. subst (λ j. has_tab j s ≡ true) (sym is) stands) (λ q no. absurd no) in
    subst (λ t. Matches t (record b { windows = put_tab id new b.windows })) (sym run)
    (one-row s b id st new f r m found turns.keys leads group page)

-- the stand of a tab has its id, and what holds of each tab
pub own-id : (s : State) (b : Browser) (id : ℤ) (st : Stand) → IsRunning s → Matches s b → stand_of id b ≡ Some st
    → id ≡ stand_key st
own-id s b id st r m found = (split id b.windows st (one-stand s b id st r m found)).tab.key

pub of-found : (P : BrowserTab → Type 0) (s : State) (b : Browser) (id : ℤ) (st : Stand) → IsRunning s → Matches s b
    → stand_of id b ≡ Some st → EachTab P b.windows → P st.tab
of-found P s b id st r m found all = of-stand P id b.windows st (split id b.windows st (one-stand s b id st r m found))
    all

-- pin and unpin
pub pin-matches : (s : State) (b : Browser) (id : ℤ) (st : Stand) (flag : Bool) → IsRunning s → Matches s b
    → stand_of id b ≡ Some st → Matches (fold s (pin flag st.tab))
    (record b { windows = put_tab id (pinned flag st.tab) b.windows })
pin-matches s b id st flag r m found =
    let own = own-id s b id st r m found in
    one-tab s b id st (pinned flag st.tab) (λ t. record t { info = record t.info { pinned = flag } }) (pin flag st.tab)
    r m found
    (subst (λ q. TurnsTab id (λ t. record t { info = record t.info { pinned = flag } }) (Pinned q flag ∷ [])) own
    (tab-one id (λ t. record t { info = record t.info { pinned = flag } }) (Pinned id flag) (λ t. refl)
    (λ s. refl)))
    refl (of-found (HasGroup b.groups s.groups) s b id st r m found m.groups)
    (of-found IsAtPage s b id st r m found m.at_page)

-- a change that is made or not, field by field
where-pages : (x : Tab) (b : Bool) (pages : List (ℤ × Navigation))
    → cond b (record x { pages = pages }) x ≡ record x { pages = cond b pages x.pages }
where-pages x true pages = refl
where-pages x false pages = refl

where-both : (x : Tab) (b : Bool) (pages : List (ℤ × Navigation)) (current : ℤ)
    → cond b (record x { pages = pages; current = current }) x
    ≡ record x { pages = cond b pages x.pages; current = cond b current x.current }
where-both x true pages current = refl
where-both x false pages current = refl

at-last : (ps : List Navigation) (c : ℕ) → c < length ps → AtPage ps (pos c)
at-last [] c h = absurd (omega arith)
at-last (p ∷ ps) c h = (c, refl, h)

-- what a visit makes of the state's row
module _ (page : Navigation) (moment : ℤ) (n k : ℕ) where
  abbrev to_back : Tab → Tab
  to_back x = record x { pages = prune_back (pos n) x.pages }

  abbrev to_page : Tab → Tab
  to_page x = record x { pages = put_page (pos n) page x.pages }

  abbrev to_current : Tab → Tab
  to_current x = record x { current = pos n }

  abbrev to_front : Tab → Tab
  to_front x = record x { pages = prune_front (pos k) x.pages; current = current_front (pos k) x.current }

  abbrev to_time : Tab → Tab
  to_time x = record x { info = record x.info { last_active = moment } }

  abbrev to_all : Bool → Tab → Tab
  to_all goes_back x = to_time ((when (nat_lt zero k) to_front) (to_current (to_page ((when goes_back to_back) x))))

  visit-turns : (id : ℤ) (goes_back : Bool) → TurnsTab id (to_all goes_back)
      (where_so goes_back (PrunedBack id (pos n))
      ++ ((UpdateNavigation id (pos n) page ∷ SelectNavigation id (pos n) ∷ [])
      ++ (where_so (nat_lt zero k) (PrunedFront id (pos k)) ++ (LastActive id moment ∷ []))))
  visit-turns id goes_back =
      tab-then id (when goes_back to_back) (λ x. to_time ((when (nat_lt zero k) to_front) (to_current (to_page x))))
      (where_so goes_back (PrunedBack id (pos n)))
      ((UpdateNavigation id (pos n) page ∷ SelectNavigation id (pos n) ∷ [])
      ++ (where_so (nat_lt zero k) (PrunedFront id (pos k)) ++ (LastActive id moment ∷ [])))
      (tab-where id goes_back to_back (PrunedBack id (pos n))
      (tab-one id to_back (PrunedBack id (pos n)) (λ t. refl) (λ s. refl)))
      (tab-then id (λ x. to_current (to_page x)) (λ x. to_time ((when (nat_lt zero k) to_front) x))
      (UpdateNavigation id (pos n) page ∷ SelectNavigation id (pos n) ∷ [])
      (where_so (nat_lt zero k) (PrunedFront id (pos k)) ++ (LastActive id moment ∷ []))
      (tab-then id to_page to_current (UpdateNavigation id (pos n) page ∷ []) (SelectNavigation id (pos n) ∷ [])
      (tab-one id to_page (UpdateNavigation id (pos n) page) (λ t. refl) (λ s. refl))
      (tab-one id to_current (SelectNavigation id (pos n)) (λ t. refl) (λ s. refl)))
      (tab-then id (when (nat_lt zero k) to_front) to_time (where_so (nat_lt zero k) (PrunedFront id (pos k)))
      (LastActive id moment ∷ [])
      (tab-where id (nat_lt zero k) to_front (PrunedFront id (pos k))
      (tab-one id to_front (PrunedFront id (pos k)) (λ t. refl) (λ s. refl)))
      (tab-one id to_time (LastActive id moment) (λ t. refl) (λ s. refl))))

  visit-row : (x : Tab) (ps : List Navigation) → x.pages ≡ numbered zero ps → length (take n ps) ≡ n → k ≤ n
      → to_all (nat_lt n (length ps)) x ≡ record x {
        info = record x.info { last_active = moment };
        pages = numbered zero (drop k (take n ps ++ page ∷ []));
        current = pos (n - k);
      }
  visit-row x ps pages_is few most =
      let backed : when (nat_lt n (length ps)) to_back x ≡ record x { pages = numbered zero (take n ps) } =
      where-pages x (nat_lt n (length ps)) (prune_back (pos n) x.pages)
      ∙ ap (λ qs. record x { pages = qs }) (rw pages_is (back-where n ps)) in
      let put : put_page (pos n) page (numbered zero (take n ps)) ≡ numbered zero (take n ps ++ page ∷ []) =
      number-put zero n page (take n ps) (omega (arith, few)) in
      let y : Tab = record x { pages = numbered zero (take n ps ++ page ∷ []); current = pos n } in
      let fronted : when (nat_lt zero k) to_front y
      ≡ record y { pages = numbered zero (drop k (take n ps ++ page ∷ [])); current = pos (n - k) } =
      where-both y (nat_lt zero k) (prune_front (pos k) y.pages) (current_front (pos k) y.current)
      ∙ rw (front-where k (take n ps ++ page ∷ []), current-where k n most) refl in
      ap (λ z. to_time ((when (nat_lt zero k) to_front) (to_current (to_page z)))) backed
      ∙ ap (λ qs. to_time ((when (nat_lt zero k) to_front) (record x { pages = qs; current = pos n }))) put
      ∙ ap to_time fronted

-- a tab that has visited a page is at it
pub visited-at : (page : Navigation) (moment : ℤ) (t : BrowserTab) → IsAtPage t → IsAtPage (visited page moment t)
visited-at page moment t at =
    let n = reached t.current in
    let k = suc n - 50 in
    let within = reached-within t.current t.pages at in
    let few : length (take n t.pages) ≡ n = simp length-take (omega (arith, within)) in
    let most : k ≤ n = omega arith in
    let long : length (drop k (take n t.pages ++ page ∷ [])) ≡ suc n - k =
    simp (length-drop, length-append) (omega (arith, few)) in
    at-last (drop k (take n t.pages ++ page ∷ [])) (n - k) (omega (arith, long, most))

-- visit
pub visit-matches : (s : State) (b : Browser) (id : ℤ) (st : Stand) (page : Navigation) → IsRunning s → Matches s b
    → stand_of id b ≡ Some st
    → Matches (fold s (visit page b.moment st.tab))
    (record b { windows = put_tab id (visited page b.moment st.tab) b.windows })
visit-matches s b id st page r m found =
    let t = st.tab in
    let n = reached t.current in
    let k = suc n - 50 in
    let goes_back = nat_lt n (length t.pages) in
    let at = of-found IsAtPage s b id st r m found m.at_page in
    let within = reached-within t.current t.pages at in
    let few : length (take n t.pages) ≡ n = simp length-take (omega (arith, within)) in
    let most : k ≤ n = omega arith in
    let own = own-id s b id st r m found in
    one-tab s b id st (visited page b.moment t) (to_all page b.moment n k goes_back) (visit page b.moment t) r m found
    (subst (λ q. TurnsTab id (to_all page b.moment n k goes_back)
    (where_so goes_back (PrunedBack q (pos n))
    ++ ((UpdateNavigation q (pos n) page ∷ SelectNavigation q (pos n) ∷ [])
    ++ (where_so (nat_lt zero k) (PrunedFront q (pos k)) ++ (LastActive q b.moment ∷ []))))) own
    (visit-turns page b.moment n k id goes_back))
    (visit-row page b.moment n k (row_of st) t.pages refl few most)
    (of-found (HasGroup b.groups s.groups) s b id st r m found m.groups)
    (visited-at page b.moment t at)
