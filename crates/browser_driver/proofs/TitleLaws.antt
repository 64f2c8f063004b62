-- A tab's current page that gets a title.
use Rattle.std.proofs.Common.{◌≡◌, ℕ, zero, suc, ℤ, List, [], ◌∷◌, Option, Some, None, option_map}
use Rattle.std.proofs.Common.{slice_get, refl, sym, ap, subst}
use Rattle.closed_entries.specs.declared.entry.Entry.{Entry}
use Rattle.navigation_entry.specs.declared.navigation.Navigation.{Navigation}
use Rattle.script_lines.specs.declared.verb.Verb.TheVariants.{Title}
use Rattle.session_commands.specs.declared.command.SessionCommand.TheVariants.{UpdateNavigation}
use Rattle.window_state.specs.declared.change.TabChange.TheVariants.{Page}
use Rattle.window_state.specs.Changes.{changed_tab}
use Rattle.window_state.specs.States.{State}
use Rattle.browser_model.specs.Browsers.{Browser, Stand, AtPage, numbered, row_of}
use Rattle.browser_model.specs.Navigations.{titled_page}
use Rattle.browser_model.specs.OneTab.{change_at, current_page, page_at, titled, title}
use Rattle.browser_model.specs.Pictures.{nat_of}
use Rattle.browser_model.specs.Tabs.{stand_of}
use Rattle.browser_model.proofs.TabLaws.{own-id}
use Rattle.browser_model.proofs.TitleLaws.{is-at, at-other, length-change, changed-pages}
use Rattle.browser_driver.specs.Acts as act
use Rattle.browser_driver.specs.Acts.{changes_tab, with_found}
use Rattle.browser_driver.specs.Held.{held, IsHeld}
use Rattle.browser_driver.specs.Plans.{page_shown, puts, titles, with_row}
use Rattle.browser_driver.specs.declared.fault.VerbFault.TheVariants.{NoPage}
use Rattle.browser_driver.proofs.AnswerLaws.{Joins}
use Rattle.browser_driver.proofs.TabLaws.{joins-tab, joins-put, page-kept}

-- the page at a place, where pages have their places
shown-at : (first n : ℕ) (ps : List Navigation)
    → option_map (λ page. page.1) (slice_get (numbered first ps) n) ≡ page_at n ps
shown-at first n [] = refl
shown-at first zero (p ∷ ps) = refl
shown-at first (suc n) (p ∷ ps) = shown-at (suc first) n ps

shown-is : (ps : List Navigation) (c : ℤ) → AtPage ps c → page_shown c (numbered zero ps) ≡ page_at (nat_of c) ps
shown-is [] c at = subst (λ z. page_shown z [] ≡ page_at (nat_of z) []) (sym at) refl
shown-is (p ∷ ps) c at =
    subst (λ z. page_shown z (numbered zero (p ∷ ps)) ≡ page_at (nat_of z) (p ∷ ps)) (sym at.1)
    (shown-at zero at.0 (p ∷ ps))

module _ (s : State) (orders : List (ℤ × List ℤ)) (closed : List Entry) (moment : ℤ)
    (h : IsHeld s orders closed moment) (id : ℤ) where
  abbrev b : Browser
  b = held s orders closed moment

  joins-puts : (st : Stand) → stand_of id b ≡ Some st → (page new : Navigation) → current_page st.tab ≡ Some page
      → Joins orders closed moment (puts id st.tab.current new s)
      (changes_tab st (titled new st.tab) (title new st.tab) b)
  joins-puts st found page new some =
      let ps = st.tab.pages in
      let c = st.tab.current in
      let at = page-kept s orders closed moment h id st found in
      joins-put s orders closed moment h id st found (changed_tab (Page c new)) (titled new st.tab)
      (UpdateNavigation id c new ∷ []) (title new st.tab) (λ t. refl)
      (ap (λ qs. record (row_of st) { pages = qs }) (changed-pages ps c new (is-at ps c page at some))) refl
      (at-other ps (change_at (nat_of c) new ps) c (length-change (nat_of c) new ps) at)
      (ap (λ q. UpdateNavigation q c new ∷ []) (own-id s b id st h.running h.matches found))

  pub joins-title : (text : List ℕ) → Joins orders closed moment (titles id text s) (act.act (Title id text) b)
  joins-title text = joins-tab s orders closed moment h id _ _ (λ st found. here st found)
    where
      here : (st : Stand) → stand_of id b ≡ Some st
          → Joins orders closed moment (with_row (page_shown st.tab.current (numbered zero st.tab.pages)) (NoPage id)
          (λ page. puts id st.tab.current (titled_page text page) s)) (act.titles id text b st)
      here st found =
          let shown = shown-is st.tab.pages st.tab.current (page-kept s orders closed moment h id st found) in
          rw shown (by (current_page st.tab) refl)
        where
          by : (o : Option Navigation) → current_page st.tab ≡ o
              → Joins orders closed moment (with_row o (NoPage id)
              (λ page. puts id st.tab.current (titled_page text page) s))
              (with_found o (NoPage id) (λ page. changes_tab st (titled (titled_page text page) st.tab)
              (title (titled_page text page) st.tab) b))
          by None e = refl
          by (Some page) e = joins-puts st found page (titled_page text page) e
