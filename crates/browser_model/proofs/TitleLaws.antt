-- The current page of a tab becomes another.
use Rattle.std.proofs.Common.{◌≡◌, ℕ, zero, suc, ◌+◌, ◌<◌, true, false, ℤ, pos, int_lt, List, [], ◌∷◌, length, Some}
use Rattle.std.proofs.Common.{None, refl, sym, ap, subst, ◌∙◌, arith}
use Rattle.std.specs.Ordering.{int_cmp}
use Rattle.std.specs.BTreeMap.{insert_entry}
use Rattle.std.proofs.lemmas.Int.{ints}
use Rattle.navigation_entry.specs.declared.navigation.Navigation.{Navigation}
use Rattle.session_commands.specs.declared.command.SessionCommand.TheVariants.{UpdateNavigation}
use Rattle.tab_pages.specs.PageLists.{is_natural, put_page}
use Rattle.window_state.specs.declared.tab.Tab.{Tab}
use Rattle.window_state.specs.States.{State}
use Rattle.replay_machine.specs.Step.{fold}
use Rattle.browser_model.specs.Running.{IsRunning}
use Rattle.browser_model.specs.Browsers.{Browser, Stand, row_of, numbered, Matches, AtPage, IsAtPage, HasGroup}
use Rattle.browser_model.specs.Pictures.{nat_of}
use Rattle.browser_model.specs.Tabs.{stand_of, put_tab}
use Rattle.browser_model.specs.OneTab.{change_at, page_at, current_page, titled, title}
use Rattle.browser_model.proofs.TabLaws.{TurnsTab, tab-one, one-tab, own-id, of-found}

-- the page at a place among pages that stand from a first place on
number-change : (first n : ℕ) (new : Navigation) (ps : List Navigation) → n < length ps
    → put_page (pos (first + n)) new (numbered first ps) ≡ numbered first (change_at n new ps)
number-change first n new ps within =
    let natural : is_natural (pos (first + n)) ≡ true = grind (arith, ints) in
    rw natural (put first n ps within)
  where
    put : (first n : ℕ) (ps : List Navigation) → n < length ps
        → insert_entry int_cmp (numbered first ps) (pos (first + n)) new ≡ numbered first (change_at n new ps)
    put first n [] within = absurd (omega arith)
    put first zero (p ∷ ps) within =
        let here : first + zero ≡ first = omega arith in
        let above : int_lt (pos first) (pos first) ≡ false = grind (arith, ints) in
        rw (here, above) refl
    put first (suc n) (p ∷ ps) within =
        let next : first + suc n ≡ suc first + n = omega arith in
        let above : int_lt (pos (suc first + n)) (pos first) ≡ false = grind (arith, ints) in
        let below : int_lt (pos first) (pos (suc first + n)) ≡ true = grind (arith, ints) in
        rw (next, above, below) (ap (λ qs. (pos first, p) ∷ qs) (put (suc first) n ps (omega (arith, within))))

pub length-change : (n : ℕ) (new : Navigation) (ps : List Navigation) → length (change_at n new ps) ≡ length ps
length-change n new [] = refl
length-change zero new (p ∷ ps) = refl
length-change (suc n) new (p ∷ ps) = ap suc (length-change n new ps)

-- a tab with a current page is at a place of its pages
pub record IsAt (ps : List Navigation) (c : ℤ) : Type 0 where
  pub place : ℕ
  pub is : c ≡ pos place
  pub within : place < length ps

pub is-at : (ps : List Navigation) (c : ℤ) (page : Navigation) → AtPage ps c → page_at (nat_of c) ps ≡ Some page → IsAt ps c
is-at [] c page at some = let no : None ≡ Some page = none (nat_of c) some in absurd cc
  where
    none : (n : ℕ) → page_at n [] ≡ Some page → None ≡ Some page
    none n some = some
is-at (p ∷ ps) c page at some = record { place = at.0; is = at.1; within = at.2 }

pub at-other : (ps qs : List Navigation) (c : ℤ) → length qs ≡ length ps → AtPage ps c → AtPage qs c
at-other [] [] c same at = at
at-other [] (q ∷ qs) c same at = absurd (omega (arith, same))
at-other (p ∷ ps) [] c same at = absurd (omega (arith, same))
at-other (p ∷ ps) (q ∷ qs) c same at = let within = at.2 in (at.0, at.1, omega (arith, within, same))

-- the current page of a tab's row becomes another
pub changed-pages : (ps : List Navigation) (c : ℤ) (new : Navigation) → IsAt ps c
    → put_page c new (numbered zero ps) ≡ numbered zero (change_at (nat_of c) new ps)
changed-pages ps c new at =
    let on : zero + at.place ≡ at.place = omega arith in
    subst (λ z. put_page z new (numbered zero ps) ≡ numbered zero (change_at (nat_of z) new ps)) (sym at.is)
    (ap (λ n. put_page (pos n) new (numbered zero ps)) (sym on) ∙ number-change zero at.place new ps at.within)

pub title-matches : (s : State) (b : Browser) (id : ℤ) (st : Stand) (page new : Navigation) → IsRunning s → Matches s b
    → stand_of id b ≡ Some st → current_page st.tab ≡ Some page
    → Matches (fold s (title new st.tab)) (record b { windows = put_tab id (titled new st.tab) b.windows })
title-matches s b id st page new r m found some =
    let t = st.tab in
    let c = t.current in
    let at = of-found IsAtPage s b id st r m found m.at_page in
    let place = is-at t.pages c page at some in
    let to : Tab → Tab = λ x. record x { pages = put_page c new x.pages } in
    one-tab s b id st (titled new t) to (title new t) r m found
    (subst (λ q. TurnsTab id to (UpdateNavigation q c new ∷ [])) (own-id s b id st r m found)
    (tab-one id to (UpdateNavigation id c new) (λ x. refl) (λ x. refl)))
    (ap (λ ps. record (row_of st) { pages = ps }) (changed-pages t.pages c new place))
    (of-found (HasGroup b.groups s.groups) s b id st r m found m.groups)
    (at-other t.pages (change_at (nat_of c) new t.pages) c (length-change (nat_of c) new t.pages) at)
