-- The commands of tidying lead from a state to one that matches the browser of its view.
use Rattle.std.proofs.Common.{◌≡◌, Bool, true, false, cond, not, if◌then◌else◌, is_some, ℤ, pos, List, []}
use Rattle.std.proofs.Common.{◌∷◌, ◌++◌, map, filter, Option, Some, None, IfSome, refl, sym, ap, subst, ◌∙◌}
use Rattle.std.proofs.Common.{arith}
use Rattle.std.specs.Ordering.{int_eq, int_cmp, is_eq}
use Rattle.std.specs.Cmp.{int_cmp_total}
use Rattle.std.specs.List.{AllByRecursion}
use Rattle.std.proofs.lemmas.List.{length-map}
use Rattle.std.proofs.lemmas.Map.Lookups.{exact_signed}
use Rattle.navigation_entry.specs.declared.navigation.Navigation.{Navigation}
use Rattle.session_commands.specs.declared.command.SessionCommand.TheVariants.{ActiveWindow}
use Rattle.tab_pages.specs.PageLists.{IsRising, has_page}
use Rattle.tab_pages.specs.Positions.{first_from}
use Rattle.tab_pages.proofs.RangeLaws.{all-filter}
use Rattle.window_state.specs.declared.tab.Tab.{Tab}
use Rattle.window_state.specs.declared.window.Window.{Window}
use Rattle.window_state.specs.declared.group_id.GroupId.{GroupId}
use Rattle.window_state.specs.Keys.{tab_key, window_key, group_key, group_cmp}
use Rattle.window_state.specs.RowLists.{find_row}
use Rattle.window_state.specs.States.{State, is_in, stands, HasWindow}
use Rattle.window_state.specs.Views.{is_shown_in, shown_tabs, view}
use Rattle.window_state.specs.TabLists.{under, AtMostOne}
use Rattle.window_state.proofs.OnlyLaws.{only-map, alone}
use Rattle.window_state.proofs.IdLaws.{equals_itself, same_key, under-append}
use Rattle.replay_machine.specs.Step as machine
use Rattle.browser_model.specs.Running.{IsRunning}
use Rattle.browser_model.specs.Browsers.{BrowserWindow, BrowserTab, Matches, EachTab, AtPage, IsAtPage, HasGroup}
use Rattle.browser_model.specs.Tidied.{tidied_tab, tidied_with, tidied_windows, or_now, tidied, IsTidyable}
use Rattle.browser_model.specs.Tidying.{close_tabs, tidy_windows, is_open, is_tab_shown, close_windows, activate}
use Rattle.browser_model.specs.Tidying.{seen_active, tidying}
use Rattle.browser_model.proofs.Turns.{has_tab, fold-append}
use Rattle.browser_model.proofs.Matching.{stands-under, empty-both}
use Rattle.browser_model.proofs.PictureLaws.{at-most-filter, windows-seen}
use Rattle.browser_model.proofs.TidyAll.{AllStand, IsReady, told_all, each_of, told-all, each-shown}
use Rattle.browser_model.proofs.TidyRows.{IsShownIn, all-shown, all-sorted, tidied-rows, first-within, tidied-picture}
use Rattle.browser_model.proofs.TidyClose.{without_tabs, closes-run, running-closes, closed-same, without_windows}
use Rattle.browser_model.proofs.TidyClose.{windows-left}
use Rattle.browser_model.proofs.TidySelect.{both_mapped, running-both, AllOpen, select_all, both-windows}
use Rattle.browser_model.proofs.TidySelect.{selected-windows}
use Rattle.browser_model.proofs.TidyWindows.{windows-run, running-windows}

-- what holds under each id holds of all
all-from : (P : Tab → Type 0) (xs : List Tab) → ((q : ℤ) → AllByRecursion P (under q xs)) → AllByRecursion P xs
all-from P [] h = tt
all-from P (x ∷ xs) h =
    let first : AllByRecursion P (x ∷ under (tab_key x) xs) = rw (equals_itself (tab_key x)) at (h (tab_key x)) in
    (first.0, all-from P xs (λ q. rest q (is_eq (int_cmp q (tab_key x))) refl (h q)))
  where
    rest : (q : ℤ) (b : Bool) → is_eq (int_cmp q (tab_key x)) ≡ b → AllByRecursion P (under q (x ∷ xs))
        → AllByRecursion P (under q xs)
    rest q true e all = let all' : AllByRecursion P (x ∷ under q xs) = rw e at all in all'.1
    rest q false e all = rw e at all

all-stand : (has : ℤ → Type 0) (ts : List Tab) → ((q : ℤ) → (under q ts ≡ [] → ⊥) → has q) → AllStand has ts
all-stand has [] h = tt
all-stand has (t ∷ ts) h = (
  h t.info.id (λ none. let no : t ∷ under t.info.id ts ≡ [] = rw (equals_itself t.info.id) at none in absurd cc),
  all-stand has ts (λ q some. h q (λ none. some (rest q (is_eq (int_cmp q t.info.id)) refl none))),
)
  where
    rest : (q : ℤ) (b : Bool) → is_eq (int_cmp q t.info.id) ≡ b → under q (t ∷ ts) ≡ [] → under q ts ≡ []
    rest q true e none = let no : t ∷ under q ts ≡ [] = rw e at none in absurd cc
    rest q false e none = rw e at none

all-open : (has open_ : ℤ → Type 0) (tabs_of : ℤ → List Tab) (ws : List Window)
    → ((q : ℤ) → (under q (each_of tabs_of ws) ≡ [] → ⊥) → has q)
    → ((id : ℤ) → stands id (filter (λ w. has_page (tabs_of w.info.id)) ws) ≡ true → open_ id)
    → AllOpen has open_ tabs_of ws
all-open has open_ tabs_of [] h o = tt
all-open has open_ tabs_of (w ∷ ws) h o =
    let parts : (q : ℤ) → under q (each_of tabs_of (w ∷ ws)) ≡ []
    → (under q (tabs_of w.info.id) ≡ []) × (under q (each_of tabs_of ws) ≡ []) =
    λ q none. empty-both (under q (tabs_of w.info.id)) (under q (each_of tabs_of ws))
    (sym (under-append q (tabs_of w.info.id) (each_of tabs_of ws)) ∙ none) in (
      (
        all-stand has (tabs_of w.info.id) (λ q some. h q (λ none. some (parts q none).0)),
        λ page. o w.info.id (mine page),
      ),
      all-open has open_ tabs_of ws (λ q some. h q (λ none. some (parts q none).1))
          (λ id there. o id (still id there (has_page (tabs_of w.info.id)))),
    )
  where
    mine : has_page (tabs_of w.info.id) ≡ true
        → stands w.info.id (filter (λ v. has_page (tabs_of v.info.id)) (w ∷ ws)) ≡ true
    mine page = rw page (rw (equals_itself w.info.id) refl)

    still : (id : ℤ) → stands id (filter (λ v. has_page (tabs_of v.info.id)) ws) ≡ true → (b : Bool)
        → stands id (cond b (w ∷ filter (λ v. has_page (tabs_of v.info.id)) ws)
        (filter (λ v. has_page (tabs_of v.info.id)) ws)) ≡ true
    still id there true = elim (is_eq (int_cmp id w.info.id)) as (λ c. is_some
        (if c then Some w else find_row int_cmp window_key id (filter (λ v. has_page (tabs_of v.info.id)) ws)) ≡ true)
        [ true ↦ refl | false ↦ there ]
    still id there false = there

join : (window : ℤ) (ts : List Tab) → AllByRecursion (λ t. IsRising (pos 0) t.pages) ts
    → AllByRecursion (IsShownIn window) ts → AllByRecursion IsReady ts
join window [] a b = tt
join window (t ∷ ts) a b = (record { rising = a.0; page = b.0.page }, join window ts a.1 b.1)

module _ (s : State) (k : IsTidyable s) where
  abbrev f : ℤ → List Tab
  f id = shown_tabs id s.tabs

  pub one : (q : ℤ) → AtMostOne (under q s.tabs)
  one q = by (under q s.tabs) refl
    where
      by : (xs : List Tab) → under q s.tabs ≡ xs → AtMostOne (under q s.tabs)
      by [] is = rw is tt
      by (x ∷ xs) is = rw is (alone int_cmp tab_key int_cmp_total exact_signed q x xs s.tabs k.running.tabs is)

  ready : (ws : List Window) → AllByRecursion (λ w. AllByRecursion IsReady (f w.info.id)) ws
  ready [] = tt
  ready (w ∷ ws) = (
    join w.info.id (f w.info.id)
        (all-sorted (λ t. IsRising (pos 0) t.pages) [] (filter (is_shown_in w.info.id) s.tabs) tt
        (all-filter (λ t. IsRising (pos 0) t.pages) (is_shown_in w.info.id) s.tabs k.rising))
        (all-shown w.info.id s.tabs),
    ready ws,
  )

  abbrev gone : List Tab
  gone = filter (λ t. not (is_tab_shown t)) s.tabs

  abbrev s1 : State
  s1 = record s { tabs = without_tabs gone s.tabs }

  pub left : (q : ℤ) → under q s1.tabs ≡ under q (each_of f s.windows)
  left q = closed-same s is_tab_shown k.running one q
      ∙ sym (each-shown q s.tabs s.windows one k.running.windows
      (all-filter (HasWindow s.windows) (λ t. is_eq (int_cmp q (tab_key t))) s.tabs k.standing))

  -- a tab that is left is in no window that isn't shown
  apart : (w : Window) → is_open s w ≡ false → AllByRecursion (λ t. is_in w.info.id t.window ≡ false) s1.tabs
  apart w shut = all-from (λ t. is_in w.info.id t.window ≡ false) s1.tabs
      (λ q. subst (AllByRecursion (λ t. is_in w.info.id t.window ≡ false)) (sym (left q))
      (all-filter (λ t. is_in w.info.id t.window ≡ false) (λ t. is_eq (int_cmp q (tab_key t))) (each_of f s.windows)
      (each s.windows)))
    where
      outside : (v : ℤ) (ts : List Tab) → (v ≡ w.info.id → ⊥) → AllByRecursion (IsShownIn v) ts
          → AllByRecursion (λ t. is_in w.info.id t.window ≡ false) ts
      outside v [] differs all = tt
      outside v (t ∷ ts) differs all = (
        ap (is_in w.info.id) all.0.window_is
            ∙ by (int_eq v w.info.id) refl,
        outside v ts differs all.1,
      )
        where
          by : (b : Bool) → int_eq v w.info.id ≡ b → int_eq v w.info.id ≡ false
          by true e = absurd (differs (same_key v w.info.id e))
          by false e = e

      both : (xs ys : List Tab) → AllByRecursion (λ t. is_in w.info.id t.window ≡ false) xs
          → AllByRecursion (λ t. is_in w.info.id t.window ≡ false) ys
          → AllByRecursion (λ t. is_in w.info.id t.window ≡ false) (xs ++ ys)
      both [] ys a b = b
      both (x ∷ xs) ys a b = (a.0, both xs ys a.1 b)

      none-in : (id : ℤ) → has_page (f id) ≡ false → f id ≡ []
      none-in id shut = empty (f id) shut
        where
          empty : (ts : List Tab) → has_page ts ≡ false → ts ≡ []
          empty [] e = refl
          empty (t ∷ ts) e = absurd cc

      each : (vs : List Window) → AllByRecursion (λ t. is_in w.info.id t.window ≡ false) (each_of f vs)
      each [] = tt
      each (v ∷ vs) = both (f v.info.id) (each_of f vs) (here (int_eq v.info.id w.info.id) refl) (each vs)
        where
          here : (b : Bool) → int_eq v.info.id w.info.id ≡ b
              → AllByRecursion (λ t. is_in w.info.id t.window ≡ false) (f v.info.id)
          here true e = subst (AllByRecursion (λ t. is_in w.info.id t.window ≡ false))
              (sym (ap f (same_key v.info.id w.info.id e) ∙ none-in w.info.id shut)) tt
          here false e = outside v.info.id (f v.info.id)
              (λ same. let no : true ≡ false = sym (equals_itself w.info.id) ∙ ap (λ j. int_eq j w.info.id) (sym same)
              ∙ e in absurd cc) (all-shown v.info.id s.tabs)

  shut-all : (ws : List Window) → AllByRecursion (λ c. AllByRecursion (λ t. is_in c.info.id t.window ≡ false) s1.tabs)
      (filter (λ w. not (is_open s w)) ws)
  shut-all [] = tt
  shut-all (w ∷ ws) = by (shut-all ws) (is_open s w) refl
    where
      by : AllByRecursion (λ c. AllByRecursion (λ t. is_in c.info.id t.window ≡ false) s1.tabs)
          (filter (λ w. not (is_open s w)) ws) → (b : Bool) → is_open s w ≡ b
          → AllByRecursion (λ c. AllByRecursion (λ t. is_in c.info.id t.window ≡ false) s1.tabs)
          (filter (λ w. not (is_open s w)) (w ∷ ws))
      by rest true e = rw e rest
      by rest false e = rw e (apart w e, rest)

  abbrev s2 : State
  s2 = record s1 { windows = without_windows (filter (λ w. not (is_open s w)) s.windows) s.windows }

  running2 : IsRunning s2
  running2 = running-windows s1 (filter (λ w. not (is_open s w)) s.windows) (running-closes s gone k.running)

  kept-windows : s2.windows ≡ filter (is_open s) s.windows
  kept-windows = windows-left (is_open s) s.windows k.running.windows

  abbrev s3 : State
  s3 = both_mapped (told_all f s.windows) (select_all f s.windows) s2

  third : machine.fold s2 (tidy_windows f s.windows) ≡ s3
  third =
      let both = both-windows (λ q. has_tab q s2 ≡ true) (λ id. stands id s2.windows ≡ true) f s.windows
      (all-open (λ q. has_tab q s2 ≡ true) (λ id. stands id s2.windows ≡ true) f s.windows
      (λ q some. stands-under q s2.tabs (λ none. some (sym (left q) ∙ none)))
      (λ id there. subst (λ ws. stands id ws ≡ true) (sym kept-windows) there)) in
      both.to s2 running2 (λ q h. h) (λ id h. h)

  run : machine.fold s (tidying s) ≡ machine.fold s3 (activate (seen_active s) s.active)
  run =
      fold-append s (close_tabs gone) (close_windows (filter (λ w. not (is_open s w)) s.windows)
      ++ (tidy_windows f s.windows ++ activate (seen_active s) s.active))
      ∙ ap (λ z. machine.fold z (close_windows (filter (λ w. not (is_open s w)) s.windows)
      ++ (tidy_windows f s.windows ++ activate (seen_active s) s.active))) (closes-run s gone)
      ∙ fold-append s1 (close_windows (filter (λ w. not (is_open s w)) s.windows))
      (tidy_windows f s.windows ++ activate (seen_active s) s.active)
      ∙ ap (λ z. machine.fold z (tidy_windows f s.windows ++ activate (seen_active s) s.active))
      (windows-run s1 (filter (λ w. not (is_open s w)) s.windows) (shut-all s.windows))
      ∙ fold-append s2 (tidy_windows f s.windows) (activate (seen_active s) s.active)
      ∙ ap (λ z. machine.fold z (activate (seen_active s) s.active)) third

  last : machine.fold s3 (activate (seen_active s) s.active) ≡ record s3 { active = or_now (seen_active s) s.active }
  last = by (seen_active s)
    where
      by : (o : Option ℤ) → machine.fold s3 (activate o s.active) ≡ record s3 { active = or_now o s.active }
      by None = refl
      by (Some id) = at (is_in id s.active) refl
        where
          same : (now : Option ℤ) → is_in id now ≡ true → now ≡ Some id
          same None e = absurd cc
          same (Some v) e = ap Some (same_key v id e)

          at : (b : Bool) → is_in id s.active ≡ b
              → machine.fold s3 (if is_in id s.active then [] else ActiveWindow id ∷ [])
              ≡ record s3 { active = Some id }
          at true e = ap (λ b. machine.fold s3 (if b then [] else ActiveWindow id ∷ [])) e
              ∙ ap (λ o. record s3 { active = o }) (same s.active e)
          at false e = ap (λ b. machine.fold s3 (if b then [] else ActiveWindow id ∷ [])) e

  keyed : (ws : List Window) (t : Tab) → tab_key (told_all f ws t) ≡ tab_key t
  keyed ws = (both-windows (λ q. Unit {0}) (λ id. Unit {0}) f ws (free ws)).keys
    where
      free-stand : (ts : List Tab) → AllStand (λ q. Unit {0}) ts
      free-stand [] = tt
      free-stand (t ∷ ts) = (tt, free-stand ts)

      free : (ws : List Window) → AllOpen (λ q. Unit {0}) (λ id. Unit {0}) f ws
      free [] = tt
      free (w ∷ ws) = ((free-stand (f w.info.id), λ page. tt), free ws)

  -- each tab of the browser is at a page, and in a group that the state knows
  each-page : (ws : List Window) → EachTab IsAtPage (tidied_windows f ws)
  each-page [] = tt
  each-page (w ∷ ws) = by (each-page ws) (f w.info.id) (all-shown w.info.id s.tabs)
    where
      at : (c : ℤ) (ps : List (ℤ × Navigation)) → has_page ps ≡ true
          → AtPage (map (λ p. p.1) ps) (pos (first_from c (map (λ p. p.0) ps)))
      at c [] some = absurd cc
      at c (p ∷ ps) some =
          let l1 = length-map ps (λ (q : ℤ × Navigation). q.1) in
          let l2 = length-map ps (λ (q : ℤ × Navigation). q.0) in
          let less = first-within c p.0 (map (λ q. q.0) ps) in
          (first_from c (p.0 ∷ map (λ q. q.0) ps), refl, omega (arith, l1, l2, less))

      tabs : (ts : List Tab) → AllByRecursion (IsShownIn w.info.id) ts → AllByRecursion IsAtPage (map tidied_tab ts)
      tabs [] all = tt
      tabs (t ∷ ts) all = (at t.current t.pages all.0.page, tabs ts all.1)

      by : EachTab IsAtPage (tidied_windows f ws) → (X : List Tab) → AllByRecursion (IsShownIn w.info.id) X
          → EachTab IsAtPage (tidied_with w X (tidied_windows f ws))
      by rest [] all = rest
      by rest (t ∷ ts) all = (tabs (t ∷ ts) all, rest)

  each-group : (bs : List BrowserWindow) → EachTab (HasGroup s.groups s.groups) bs
  each-group [] = tt
  each-group (b ∷ bs) = (tabs b.tabs, each-group bs)
    where
      known : (t : BrowserTab) → HasGroup s.groups s.groups t
      known t = by t.info.group
        where
          by : (o : Option GroupId) → IfSome o (λ id. find_row group_cmp group_key id s.groups
              ≡ find_row group_cmp group_key id s.groups)
          by None = tt
          by (Some id) = refl

      tabs : (ts : List BrowserTab) → AllByRecursion (HasGroup s.groups s.groups) ts
      tabs [] = tt
      tabs (t ∷ ts) = (known t, tabs ts)

  pub tidied-matches : Matches (machine.fold s (tidying s)) (tidied s)
  tidied-matches = subst (λ z. Matches z (tidied s)) (sym (run ∙ last)) (record {
    tabs = λ q.
        only-map int_cmp tab_key (told_all f s.windows) (keyed s.windows) q s2.tabs
        ∙ ap (map (told_all f s.windows)) (left q)
        ∙ told-all q f s.windows (subst AtMostOne
        (closed-same s is_tab_shown k.running one q ∙ sym (closed-same s is_tab_shown k.running one q) ∙ left q)
        (subst AtMostOne (sym (closed-same s is_tab_shown k.running one q))
        (at-most-filter is_tab_shown (under q s.tabs) (one q)))) (ready s.windows)
        ∙ ap (under q) (tidied-rows s.tabs s.windows);
    windows = ap (map (select_all f s.windows)) kept-windows ∙ selected-windows f s.windows k.running.windows;
    active = refl;
    groups = each-group (tidied_windows f s.windows);
    at_page = each-page s.windows;
  })

  running-tidied : IsRunning (machine.fold s (tidying s))
  running-tidied = subst IsRunning (sym (run ∙ last))
      (moved (running-both (told_all f s.windows) (select_all f s.windows) (keyed s.windows) ids s2 running2))
    where
      ids : (w : Window) → window_key (select_all f s.windows w) ≡ window_key w
      ids = (both-windows (λ q. Unit {0}) (λ id. Unit {0}) f s.windows (free s.windows)).ids
        where
          free-stand : (ts : List Tab) → AllStand (λ q. Unit {0}) ts
          free-stand [] = tt
          free-stand (t ∷ ts) = (tt, free-stand ts)

          free : (ws : List Window) → AllOpen (λ q. Unit {0}) (λ id. Unit {0}) f ws
          free [] = tt
          free (w ∷ ws) = ((free-stand (f w.info.id), λ page. tt), free ws)

      moved : IsRunning s3 → IsRunning (record s3 { active = or_now (seen_active s) s.active })
      moved r = record { tabs = r.tabs; windows = r.windows; within = r.within }

  -- the same windows are seen
  pub tidied-view : (view (machine.fold s (tidying s))).windows ≡ (view s).windows
  tidied-view = windows-seen (machine.fold s (tidying s)) (tidied s) running-tidied tidied-matches
      ∙ tidied-picture s.tabs s.windows

  pub tidied-active : (machine.fold s (tidying s)).active ≡ or_now (seen_active s) s.active
  tidied-active = ap (λ (z : State). z.active) (run ∙ last)

  pub tidied-groups : (machine.fold s (tidying s)).groups ≡ s.groups
  tidied-groups = ap (λ (z : State). z.groups) (run ∙ last)
