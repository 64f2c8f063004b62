-- A tab that shows the page before or behind its current one.
use Rattle.std.proofs.Common.{◌≡◌, ℕ, zero, suc, ◌<◌, ◌≤◌, ◌^◌, nat_le, false, ℤ, pos, ◌+ℤ◌, ◌-ℤ◌, ◌≤ℤ◌}
use Rattle.std.proofs.Common.{FitsSigned, w32, List, [], ◌∷◌, length, Some, refl, sym, ap, subst, ◌∙◌, arith}
use Rattle.std.specs.List.{AllByRecursion}
use Rattle.std.specs.Ordering.{int_cmp}
use Rattle.std.proofs.lemmas.Bool.Decides.{nat_tests}
use Rattle.std.proofs.lemmas.Int.{ints}
use Rattle.closed_entries.specs.declared.entry.Entry.{Entry}
use Rattle.navigation_entry.specs.declared.navigation.Navigation.{Navigation}
use Rattle.script_lines.specs.declared.verb.Verb.TheVariants.{Back, Forward}
use Rattle.session_commands.specs.declared.command.SessionCommand.TheVariants.{SelectNavigation}
use Rattle.tab_pages.specs.PageLists.{IsRising}
use Rattle.tab_pages.specs.Ranges.{IsPageInRange}
use Rattle.window_state.specs.declared.change.TabEdit.TheVariants.{Current}
use Rattle.window_state.specs.declared.tab.Tab.{Tab}
use Rattle.window_state.specs.Changes.{edited_tab}
use Rattle.window_state.specs.Keys.{tab_key}
use Rattle.window_state.specs.RowLists.{find_row}
use Rattle.window_state.specs.States.{State}
use Rattle.browser_model.specs.Browsers.{Browser, Stand, AtPage, IsAtPage, numbered}
use Rattle.browser_model.specs.OneTab.{reached, went_back, back, went_forward, forward}
use Rattle.browser_model.specs.Tabs.{stand_of}
use Rattle.browser_model.proofs.BackLaws.{at-back}
use Rattle.browser_model.proofs.ForwardLaws.{at-forward}
use Rattle.browser_model.proofs.TabLaws.{own-id}
use Rattle.browser_driver.specs.Acts.{act, changes_tab, isnt_below}
use Rattle.browser_driver.specs.Held.{held, IsHeld}
use Rattle.browser_driver.specs.Plans.{with_row, refuses_where, shows, goes_back, goes_forward}
use Rattle.browser_driver.specs.declared.fault.VerbFault.TheVariants.{NoTab, NoBack, NoForward}
use Rattle.browser_driver.proofs.AnswerLaws.{Joins, joins-where}
use Rattle.browser_driver.proofs.TabLaws.{joins-tab, joins-put, page-kept}

-- there are no more pages than indices
few : (least : ℤ) (pages : List (ℤ × Navigation)) → least ≤ℤ pos (2 ^ 31) → IsRising least pages
    → AllByRecursion IsPageInRange pages → (least +ℤ pos (length pages)) ≤ℤ pos (2 ^ 31)
few least [] h rising ranged = omega (arith, ints)
few least (p ∷ ps) h rising ranged =
    let first = rising.0 in
    let fits = ranged.0.0 in
    let rest = few (p.0 +ℤ pos 1) ps (omega (arith, ints)) rising.1 ranged.1 in
    omega (arith, ints)

pub few-pages : (pages : List (ℤ × Navigation)) → IsRising (pos 0) pages → AllByRecursion IsPageInRange pages
    → length pages ≤ 2 ^ 31
few-pages pages rising ranged =
    let bound = few (pos 0) pages (omega (arith, ints)) rising ranged in
    omega (arith, ints)

pub length-numbered : (n : ℕ) (ps : List Navigation) → length (numbered n ps) ≡ length ps
length-numbered n [] = refl
length-numbered n (p ∷ ps) = ap suc (length-numbered (suc n) ps)

-- the index behind the current one
next-is : (ps : List Navigation) (c : ℤ) → AtPage ps c → c +ℤ pos 1 ≡ pos (reached c)
next-is [] c at = subst (λ z. z +ℤ pos 1 ≡ pos (reached z)) (sym at) refl
next-is (p ∷ ps) c at =
    let n = at.0 in
    subst (λ z. z +ℤ pos 1 ≡ pos (reached z)) (sym at.1) (omega (arith, ints))

module _ (s : State) (orders : List (ℤ × List ℤ)) (closed : List Entry) (moment : ℤ)
    (h : IsHeld s orders closed moment) (id : ℤ) where
  abbrev b : Browser
  b = held s orders closed moment

  -- the tab shows another of its pages
  joins-shows : (st : Stand) → stand_of id b ≡ Some st → (index : ℤ) → AtPage st.tab.pages index
      → Joins orders closed moment (shows id index s)
      (changes_tab st (record st.tab { current = index }) (SelectNavigation st.tab.info.id index ∷ []) b)
  joins-shows st found index at =
      joins-put s orders closed moment h id st found (edited_tab (Current index)) (record st.tab { current = index })
      (SelectNavigation id index ∷ []) (SelectNavigation st.tab.info.id index ∷ []) (λ t. refl) refl refl at
      (ap (λ q. SelectNavigation q index ∷ []) (own-id s b id st h.running h.matches found))

  at_page : (st : Stand) → stand_of id b ≡ Some st → IsAtPage st.tab
  at_page st found = page-kept s orders closed moment h id st found

  pub joins-back : Joins orders closed moment (goes_back id s) (act (Back id) b)
  joins-back = joins-tab s orders closed moment h id _ _ (λ st found.
      joins-where orders closed moment _ _ (NoBack id) (shows id (st.tab.current -ℤ pos 1) s)
      (changes_tab st (went_back st.tab) (back st.tab) b) refl
      (λ there. joins-shows st found (st.tab.current -ℤ pos 1)
      (at-back st.tab.pages st.tab.current (at_page st found) there)))

  pub joins-forward : Joins orders closed moment (goes_forward id s) (act (Forward id) b)
  joins-forward = joins-tab s orders closed moment h id _ _ (λ st found.
      let c = st.tab.current in
      let ps = st.tab.pages in
      let next = next-is ps c (at_page st found) in
      let answer = changes_tab st (went_forward st.tab) (forward st.tab) b in
      let same : nat_le (length (numbered zero ps)) (reached c) ≡ isnt_below (c +ℤ pos 1) (length ps) =
      ap (λ n. nat_le n (reached c)) (length-numbered zero ps) ∙ sym (ap (λ z. isnt_below z (length ps)) next) in
      joins-where orders closed moment _ _ (NoForward id) (shows id (pos (reached c)) s) answer same
      (λ there. subst (λ z. Joins orders closed moment (shows id z s) answer) next
      (joins-shows st found (c +ℤ pos 1) (at-forward ps c (at_page st found) there))))

-- the index behind the current one is in the range of indices, where a page stands there
pub next-fits : (next count : ℕ) → count ≤ 2 ^ 31 → next < count → FitsSigned w32 (pos next)
next-fits next count few there = omega (arith, few, there)

-- what is done where a page stands there
pub forward-is : (id : ℤ) (s : State) (t : Tab) (next : ℕ) → find_row int_cmp tab_key id s.tabs ≡ Some t
    → next ≡ reached t.current → next < length t.pages → goes_forward id s ≡ shows id (pos next) s
forward-is id s t next found is there =
    let low : nat_le (length t.pages) (reached t.current) ≡ false =
    let within : reached t.current < length t.pages = subst (λ n. n < length t.pages) is there in
    grind (arith, nat_tests) in
    ap (λ o. with_row o (NoTab id) (λ t. refuses_where (nat_le (length t.pages) (reached t.current)) (NoForward id)
    (shows id (pos (reached t.current)) s))) found
    ∙ ap (λ refused. refuses_where refused (NoForward id) (shows id (pos (reached t.current)) s)) low
    ∙ ap (λ n. shows id (pos n) s) (sym is)
