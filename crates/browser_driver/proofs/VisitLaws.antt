-- A tab that visits a page.
use Rattle.std.proofs.Common.{◌≡◌, ℕ, zero, suc, ◌-◌, ◌^◌, nat_lt, Bool, true, false, cond, ℤ, pos, List, [], ◌∷◌, ◌++◌}
use Rattle.std.proofs.Common.{length, take, drop, Some, Ok, refl, sym, ap, subst, ◌∙◌, arith}
use Rattle.std.specs.Ordering.{int_cmp, int_eq, is_eq}
use Rattle.closed_entries.specs.declared.entry.Entry.{Entry}
use Rattle.navigation_entry.specs.declared.navigation.Navigation.{Navigation}
use Rattle.script_lines.specs.declared.verb.Verb.TheVariants.{Visit}
use Rattle.tab_pages.specs.PageLists.{put_page, prune_back, prune_front}
use Rattle.window_state.specs.declared.change.TabChange.TheVariants.{Page}
use Rattle.window_state.specs.declared.change.TabEdit.TheVariants.{Current, PruneBack, PruneFront, LastActive}
use Rattle.window_state.specs.declared.tab.Tab.{Tab}
use Rattle.window_state.specs.Changes.{changed_tab, edited_tab, current_front}
use Rattle.window_state.specs.Keys.{tab_key}
use Rattle.window_state.specs.RowLists.{find_row}
use Rattle.window_state.specs.States.{State}
use Rattle.window_state.proofs.IdLaws.{same_key}
use Rattle.browser_model.specs.Browsers.{Browser, Stand, IsAtPage, numbered, row_of}
use Rattle.browser_model.specs.Navigations.{visit_state, visited_page}
use Rattle.browser_model.specs.OneTab.{reached, visit, visited}
use Rattle.browser_model.specs.Tabs.{stand_of}
use Rattle.browser_model.proofs.PageSteps.{reached-within}
use Rattle.browser_model.proofs.TabLaws.{own-id, when, visited-at}
use Rattle.browser_model.proofs.Turns.{mapped, on, map-map, map-agree, map-same}
use Rattle.browser_driver.specs.Acts as act
use Rattle.browser_driver.specs.Acts.{changes_tab}
use Rattle.browser_driver.specs.Held.{held, IsHeld}
use Rattle.browser_driver.specs.Issues.{of_session}
use Rattle.browser_driver.specs.Plans.{Plan, refuses_where, with_row}
use Rattle.browser_driver.specs.VisitPlans.{dropped, visit_commands, visits, visits_row, with_visit}
use Rattle.browser_driver.specs.declared.fault.VerbFault.TheVariants.{Full, NoTab}
use Rattle.browser_driver.specs.declared.issued.Issued.{Issued}
use Rattle.browser_driver.proofs.AnswerLaws.{Joins, joins-where}
use Rattle.browser_driver.proofs.StepLaws.{length-numbered}
use Rattle.browser_driver.proofs.TabLaws.{joins-tab, joins-put, page-kept}
use Rattle.browser_driver.proofs.VisitRows.{cut-is, front-any, current-any}

-- changes of one tab, one after another
then-on : (id : ℤ) (f g : Tab → Tab) → ((t : Tab) → tab_key (f t) ≡ tab_key t) → (s : State)
    → mapped (on id g) (mapped (on id f) s) ≡ mapped (on id (λ t. g (f t))) s
then-on id f g keys s =
    ap (λ tabs. record s { tabs = tabs }) (map-map (on id f) (on id g) s.tabs
    ∙ map-agree (λ t. on id g (on id f t)) (on id (λ t. g (f t))) both s.tabs)
  where
    both : (t : Tab) → on id g (on id f t) ≡ on id (λ x. g (f x)) t
    both t = by (is_eq (int_cmp id (tab_key t))) refl
      where
        by : (b : Bool) → is_eq (int_cmp id (tab_key t)) ≡ b → on id g (on id f t) ≡ on id (λ x. g (f x)) t
        by true e = rw (e, keys t, e) refl
        by false e = rw (e, e) refl

-- a change that is made or not
where-on : (id : ℤ) (b : Bool) (f : Tab → Tab) (s : State) → cond b (mapped (on id f) s) s ≡ mapped (on id (when b f)) s
where-on id true f s = refl
where-on id false f s =
    ap (λ tabs. record s { tabs = tabs }) (sym (map-same (on id (when false f)) same s.tabs))
  where
    same : (t : Tab) → on id (when false f) t ≡ t
    same t = elim (is_eq (int_cmp id (tab_key t))) as (λ b. cond b t t ≡ t) [ true ↦ refl | false ↦ refl ]

where-pages : (x : Tab) (b : Bool) (pages : List (ℤ × Navigation))
    → when b (λ t. record t { pages = pages }) x ≡ record x { pages = cond b pages x.pages }
where-pages x true pages = refl
where-pages x false pages = refl

module _ (page : Navigation) (moment : ℤ) (r count : ℕ) where
  abbrev to_put : Tab → Tab
  to_put = changed_tab (Page (pos r) page)

  abbrev to_cut : Tab → Tab
  to_cut = when (nat_lt (suc r) count) (edited_tab (PruneBack (pos (suc r))))

  abbrev to_current : Tab → Tab
  to_current = edited_tab (Current (pos r))

  abbrev to_front : Tab → Tab
  to_front = edited_tab (PruneFront (pos (dropped r)))

  abbrev to_time : Tab → Tab
  to_time = edited_tab (LastActive moment)

  abbrev to_all : Tab → Tab
  to_all t = to_time (to_front (to_current (to_cut (to_put t))))

  cut-key : (t : Tab) → tab_key (to_cut (to_put t)) ≡ tab_key t
  cut-key t = elim (nat_lt (suc r) count) as (λ b. tab_key (when b (edited_tab (PruneBack (pos (suc r)))) (to_put t))
      ≡ tab_key t) [ true ↦ refl | false ↦ refl ]

  -- the state after a visit, by one change of the tab
  visit-run : (id : ℤ) (s : State) → with_visit id r count page moment s ≡ mapped (on id to_all) s
  visit-run id s =
      let s1 = mapped (on id to_put) s in
      let cut = where-on id (nat_lt (suc r) count) (edited_tab (PruneBack (pos (suc r)))) s1
      ∙ then-on id to_put to_cut (λ t. refl) s in
      let shown = ap (mapped (on id to_current)) cut ∙ then-on id (λ t. to_cut (to_put t)) to_current cut-key s in
      let front = ap (mapped (on id to_front)) shown
      ∙ then-on id (λ t. to_current (to_cut (to_put t))) to_front cut-key s in
      ap (mapped (on id to_time)) front
      ∙ then-on id (λ t. to_front (to_current (to_cut (to_put t)))) to_time cut-key s

-- what the row of a tab becomes is the row of the tab after the visit
visit-row : (page : Navigation) (moment : ℤ) (st : Stand) → IsAtPage st.tab
    → to_all page moment (reached st.tab.current) (length st.tab.pages) (row_of st)
    ≡ row_of (record st { tab = visited page moment st.tab })
visit-row page moment st at =
    let r = reached st.tab.current in
    let k = dropped r in
    let ps = st.tab.pages in
    let put = put_page (pos r) page (numbered zero ps) in
    let x = to_put page moment r (length ps) (row_of st) in
    let cut : to_cut page moment r (length ps) x ≡ record x { pages = numbered zero (take r ps ++ page ∷ []) } =
    where-pages x (nat_lt (suc r) (length ps)) (prune_back (pos (suc r)) put)
    ∙ ap (λ qs. record x { pages = qs }) (cut-is page r ps (reached-within st.tab.current ps at)) in
    let front : prune_front (pos k) (numbered zero (take r ps ++ page ∷ []))
    ≡ numbered zero (drop k (take r ps ++ page ∷ [])) = front-any k (take r ps ++ page ∷ []) in
    let current : current_front (pos k) (pos r) ≡ pos (r - k) = current-any k r (omega arith) in
    ap (λ t. to_time page moment r (length ps) (to_front page moment r (length ps)
    (to_current page moment r (length ps) t))) cut
    ∙ (λ i. record (row_of st) {
      info = record st.tab.info { last_active = moment };
      pages = front i;
      current = current i;
    })

module _ (s : State) (orders : List (ℤ × List ℤ)) (closed : List Entry) (moment : ℤ)
    (h : IsHeld s orders closed moment) (id : ℤ) where
  abbrev b : Browser
  b = held s orders closed moment

  joins-row : (st : Stand) → stand_of id b ≡ Some st → (page : Navigation)
      → Joins orders closed moment (visits_row id page moment s (row_of st))
      (changes_tab st (visited page moment st.tab) (visit page moment st.tab) b)
  joins-row st found page =
      let t = st.tab in
      let r = reached t.current in
      let n = length t.pages in
      let at = page-kept s orders closed moment h id st found in
      let answer = changes_tab st (visited page moment t) (visit page moment t) b in
      let commands = visit_commands id r n page moment in
      let put : Joins orders closed moment (Ok (record {
        state = mapped (on id (to_all page moment r n)) s;
        session = commands;
      })) answer =
      joins-put s orders closed moment h id st found (to_all page moment r n) (visited page moment t) commands
      (visit page moment t) (cut-key page moment r n) (visit-row page moment st at) refl (visited-at page moment t at)
      (ap (λ q. visit_commands q r n page moment) (own-id s b id st h.running h.matches found)) in
      let made : Joins orders closed moment (Ok (record {
        state = with_visit id r n page moment s;
        session = commands;
      })) answer =
      subst (λ z. Joins orders closed moment (Ok (record { state = z; session = commands })) answer)
      (sym (visit-run page moment r n id s)) put in
      subst (λ m. Joins orders closed moment (Ok (record {
        state = with_visit id r m page moment s;
        session = visit_commands id r m page moment;
      })) answer) (sym (length-numbered zero t.pages)) made

  pub joins-visit : (url : List ℕ) (state : ℕ) (title : List ℕ)
      → Joins orders closed moment (visits id (visited_page url title (visit_state state) moment) moment s)
      (act.act (Visit id url state title) b)
  joins-visit url state title = joins-tab s orders closed moment h id _ _ (λ st found.
      let page = visited_page url title (visit_state state) moment in
      joins-where orders closed moment _ _ (Full id) (visits_row id page moment s (row_of st))
      (changes_tab st (visited page moment st.tab) (visit page moment st.tab) b) refl
      (λ room. joins-row st found page))

-- what is done where the tab isn't at the last index
pub visit-is : (id : ℤ) (page : Navigation) (moment : ℤ) (s : State) (t : Tab)
    → find_row int_cmp tab_key id s.tabs ≡ Some t → (t.current ≡ pos (2 ^ 31 - 1) → ⊥)
    → visits id page moment s ≡ visits_row id page moment s t
visit-is id page moment s t found room =
    ap (λ o. with_row o (NoTab id) (λ t. refuses_where (int_eq t.current (pos (2 ^ 31 - 1))) (Full id)
    (visits_row id page moment s t))) found
    ∙ by (int_eq t.current (pos (2 ^ 31 - 1))) refl
  where
    by : (b : Bool) → int_eq t.current (pos (2 ^ 31 - 1)) ≡ b
        → refuses_where b (Full id) (visits_row id page moment s t) ≡ visits_row id page moment s t
    by false e = refl
    by true e = absurd (room (same_key t.current (pos (2 ^ 31 - 1)) e))

-- and what a call owes that makes the page first
pub visit-done : (id : ℤ) (page made : Navigation) (moment : ℤ) (s new : State) (t : Tab) (r count : ℕ)
    (issued : Issued) → find_row int_cmp tab_key id s.tabs ≡ Some t → (t.current ≡ pos (2 ^ 31 - 1) → ⊥) → made ≡ page
    → r ≡ reached t.current → count ≡ length t.pages → new ≡ with_visit id r count made moment s
    → issued ≡ of_session (visit_commands id r count made moment)
    → (visits id page moment s ≡ Ok (record { state = new; session = issued.session }))
    × (issued ≡ of_session issued.session)
visit-done id page made moment s new t r count issued found room page_is r_is count_is new_is issued_is =
    let done : Navigation → ℕ → ℕ → Plan = λ p n m. Ok (record {
      state = with_visit id n m p moment s;
      session = visit_commands id n m p moment;
    }) in
    let session : issued.session ≡ visit_commands id r count made moment = ap (λ (i : Issued). i.session) issued_is in
    let here : Ok (record { state = new; session = issued.session }) ≡ done made r count =
    λ i. Ok (record { state = new_is i; session = session i }) in
    let same : done made r count ≡ visits_row id page moment s t =
    ap (λ p. done p r count) page_is ∙ ap (λ n. done page n count) r_is ∙ ap (done page (reached t.current)) count_is in
    (visit-is id page moment s t found room ∙ sym (here ∙ same), issued_is ∙ ap of_session (sym session))
