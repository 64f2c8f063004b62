-- A tab is opened, and its window where it isn't live: the commands lead from a state that matches to one that matches.
use Rattle.std.proofs.Common.{◌≡◌, ℕ, zero, ◌+◌, Bool, true, false, is_some, ℤ, List, [], ◌∷◌, ◌++◌, map, length, Some}
use Rattle.std.proofs.Common.{None, refl, sym, ap, subst, ◌∙◌, arith}
use Rattle.std.specs.declared.cmp.Ordering.{Ordering}
use Rattle.std.specs.declared.cmp.Ordering.TheVariants.{Less, Equal, Greater}
use Rattle.std.specs.Ordering.{int_cmp, is_eq}
use Rattle.std.specs.Cmp.{int_cmp_total}
use Rattle.std.specs.List.{AllByRecursion}
use Rattle.std.proofs.lemmas.Map.Lookups.{exact_signed}
use Rattle.std.proofs.lemmas.Map.Keys.{sorted_head, sorted_tail}
use Rattle.std.proofs.lemmas.List.{map-append, length-map, append-nil}
use Rattle.window_state.specs.declared.tab.Tab.{Tab}
use Rattle.window_state.specs.Keys.{tab_key, window_key}
use Rattle.window_state.specs.RowLists.{find_row, step_row}
use Rattle.window_state.specs.Changes.{new_tab, new_window}
use Rattle.window_state.specs.States.{State, is_within, with_both, on_tab, placed}
use Rattle.window_state.specs.TabLists.{under}
use Rattle.window_state.proofs.RowLaws.{all-step}
use Rattle.window_state.proofs.FindLaws.{is_equal}
use Rattle.window_state.proofs.OnlyLaws.{only-map, only-seen, only-none, only-made, only-beside, step-map, step-seen}
use Rattle.window_state.proofs.OnlyLaws.{earlier}
use Rattle.window_state.proofs.IdLaws.{equals_itself, same_key, flip, under-append}
use Rattle.replay_machine.specs.Step.{fold}
use Rattle.browser_model.specs.Browsers.{Browser, BrowserWindow, BrowserTab, open_key, stand_key, row_of, stands_from}
use Rattle.browser_model.specs.Browsers.{stands_in, all_stands, rows, window_row, Matches, EachTab, IsAtPage, HasGroup}
use Rattle.browser_model.specs.Opening.{fresh_tab, fresh_window, opened_tab, open_tab}
use Rattle.browser_model.specs.Tabs.{stand_of, tabs_of, with_tabs}
use Rattle.browser_model.specs.Running.{IsRunning}
use Rattle.window_state.proofs.OrderLaws.{sorted-step}
use Rattle.browser_model.proofs.Turns.{has_tab, mapped, on, on-key}
use Rattle.browser_model.proofs.Renumber.{rows_from, at_place, left-under}
use Rattle.browser_model.proofs.Splits.{stands-append, InOrder}
use Rattle.browser_model.proofs.Matching.{in-order, stands-under}

-- the rows of windows when a tab goes last in one of them
module _ (window id : ℤ) where
  abbrev opened : List BrowserWindow → List BrowserWindow
  opened ws = step_row int_cmp open_key window (fresh_window window) (with_tabs (λ tabs. tabs ++ fresh_tab id ∷ [])) ws

  under-cons : (q : ℤ) (w : BrowserWindow) (ws : List BrowserWindow)
      → under q (rows (w ∷ ws)) ≡ under q (rows_from w.info.id zero w.tabs) ++ under q (rows ws)
  under-cons q w ws = ap (under q) (map-append row_of (stands_in w) (all_stands ws))
      ∙ under-append q (rows_from w.info.id zero w.tabs) (rows ws)

  last-row : (q : ℤ) (w : BrowserWindow) → under q (rows_from w.info.id zero (w.tabs ++ fresh_tab id ∷ []))
      ≡ under q (rows_from w.info.id zero w.tabs)
      ++ under q (row_of (record { window = w.info.id; place = length w.tabs; tab = fresh_tab id }) ∷ [])
  last-row q w =
      let z : zero + length w.tabs ≡ length w.tabs = omega arith in
      ap (λ xs. under q (map row_of xs)) (stands-append w.info.id zero w.tabs (fresh_tab id ∷ [])
      ∙ ap (λ n. stands_from w.info.id zero w.tabs ++ stands_from w.info.id n (fresh_tab id ∷ [])) z)
      ∙ ap (under q) (map-append row_of (stands_from w.info.id zero w.tabs)
      (record { window = w.info.id; place = length w.tabs; tab = fresh_tab id } ∷ []))
      ∙ under-append q (rows_from w.info.id zero w.tabs)
      (row_of (record { window = w.info.id; place = length w.tabs; tab = fresh_tab id }) ∷ [])

  pub opened-beside : (q : ℤ) → is_eq (int_cmp q id) ≡ false → (ws : List BrowserWindow)
      → under q (rows (opened ws)) ≡ under q (rows ws)
  opened-beside q apart [] = rw apart refl
  opened-beside q apart (w ∷ ws) = by (opened-beside q apart ws) (int_cmp window w.info.id) refl
    where
      by : under q (rows (opened ws)) ≡ under q (rows ws) → (o : Ordering) → int_cmp window w.info.id ≡ o
          → under q (rows (opened (w ∷ ws))) ≡ under q (rows (w ∷ ws))
      by rest Less e = rw (e, apart) refl
      by rest Equal e =
          let none : under q (row_of (record { window = w.info.id; place = length w.tabs; tab = fresh_tab id }) ∷ [])
          ≡ [] = rw apart refl in
          rw e (under-cons q (with_tabs (λ tabs. tabs ++ fresh_tab id ∷ []) w) ws
          ∙ ap (λ xs. xs ++ under q (rows ws)) (last-row q w
          ∙ ap (λ xs. under q (rows_from w.info.id zero w.tabs) ++ xs) none
          ∙ append-nil (under q (rows_from w.info.id zero w.tabs))) ∙ sym (under-cons q w ws))
      by rest Greater e = rw e (under-cons q w (opened ws)
          ∙ ap (λ xs. under q (rows_from w.info.id zero w.tabs) ++ xs) rest ∙ sym (under-cons q w ws))

  pub opened-own : (ws : List BrowserWindow) → InOrder ws → under id (rows ws) ≡ []
      → under id (rows (opened ws)) ≡ row_of (record
      { window = window; place = length (tabs_of window ws); tab = fresh_tab id }) ∷ []
  opened-own [] sorted none = rw (equals_itself id) refl
  opened-own (w ∷ ws) sorted none =
      let both = empty (under id (rows_from w.info.id zero w.tabs)) (under id (rows ws))
      (sym (under-cons id w ws) ∙ none) in
      by (opened-own ws (sorted_tail int_cmp w.info.id (map open_key ws) sorted) both.1) both.0 both.1
      (int_cmp window w.info.id) refl
    where
      empty : (xs ys : List Tab) → xs ++ ys ≡ [] → (xs ≡ []) × (ys ≡ [])
      empty [] ys h = (refl, h)
      empty (z ∷ xs) ys h = absurd cc

      before : (vs : List BrowserWindow) → AllByRecursion (λ y. int_cmp window y ≡ Less) (map open_key vs)
          → find_row int_cmp open_key window vs ≡ None
      before [] all = refl
      before (v ∷ vs) all = rw all.0 (before vs all.1)

      by : under id (rows (opened ws)) ≡ row_of
          (record { window = window; place = length (tabs_of window ws); tab = fresh_tab id }) ∷ []
          → under id (rows_from w.info.id zero w.tabs) ≡ [] → under id (rows ws) ≡ []
          → (o : Ordering) → int_cmp window w.info.id ≡ o
          → under id (rows (opened (w ∷ ws))) ≡ row_of
          (record { window = window; place = length (tabs_of window (w ∷ ws)); tab = fresh_tab id }) ∷ []
      by rest here there Less e =
          let no = before ws (earlier int_cmp open_key int_cmp_total exact_signed window w.info.id ws e
          (sorted_head int_cmp w.info.id (map open_key ws) sorted)) in
          rw (e, equals_itself id, no) (ap (λ xs. row_of
          (record { window = window; place = zero; tab = fresh_tab id }) ∷ xs) none)
      by rest here there Equal e =
          let is : window ≡ w.info.id = exact_signed window w.info.id e in
          let made : under id (row_of (record { window = w.info.id; place = length w.tabs; tab = fresh_tab id }) ∷ [])
          ≡ row_of (record { window = w.info.id; place = length w.tabs; tab = fresh_tab id }) ∷ [] =
          rw (equals_itself id) refl in
          rw e (under-cons id (with_tabs (λ tabs. tabs ++ fresh_tab id ∷ []) w) ws
          ∙ ap (λ xs. xs ++ under id (rows ws)) (last-row id w)
          ∙ rw (here, there, made) (ap (λ v. row_of
          (record { window = v; place = length w.tabs; tab = fresh_tab id }) ∷ []) (sym is)))
      by rest here there Greater e = rw e (under-cons id w (opened ws) ∙ rw here rest)

pub open-matches : (s : State) (b : Browser) (window id : ℤ) → IsRunning s → Matches s b
    → is_some (stand_of id b) ≡ false → is_within (with_both window id s) ≡ true
    → Matches (fold s (open_tab window id b)) (opened_tab window id b)
open-matches s b window id r m absent room =
    let n = length (tabs_of window b.windows) in
    let sorted = in-order s b r m in
    let none : under id (rows b.windows) ≡ [] =
    only-seen int_cmp stand_key tab_key row_of (λ x. refl) id (all_stands b.windows)
    ∙ ap (map row_of) (only-none int_cmp stand_key id (all_stands b.windows) absent) in
    let none-s : under id s.tabs ≡ [] = m.tabs id ∙ none in
    let to : Tab → Tab = λ t. record t { window = Some window } in
    let s1 = with_both window id s in
    let own : int_cmp id (tab_key (to (new_tab id))) ≡ Equal = is_equal (int_cmp id id) (equals_itself id) in
    let made : under id s1.tabs ≡ to (new_tab id) ∷ [] =
    only-made int_cmp tab_key int_cmp_total exact_signed id (new_tab id) to s.tabs own none-s in
    let r1 : IsRunning s1 = record {
      tabs = sorted-step int_cmp tab_key int_cmp_total id (new_tab id) to s.tabs refl (λ t. refl) r.tabs;
      windows = sorted-step int_cmp window_key int_cmp_total window (new_window window) (λ w. w) s.windows refl
          (λ w. refl) r.windows;
      within = room;
    } in
    let there : has_tab id s1 ≡ true = stands-under id s1.tabs
    (λ empty. let no : to (new_tab id) ∷ [] ≡ [] = sym made ∙ empty in absurd cc) in
    let first : placed window id s ≡ s1 = rw room refl in
    let second : on_tab id (at_place n) s1 ≡ mapped (on id (at_place n)) s1 =
    let map_is = step-map int_cmp tab_key int_cmp_total exact_signed id (new_tab id) (at_place n) s1.tabs r1.tabs
    there in
    rw (map_is, length-map s1.tabs (on id (at_place n)), room) refl in
    let all : fold s (open_tab window id b) ≡ mapped (on id (at_place n)) s1 = ap (on_tab id (at_place n)) first
    ∙ second in
    subst (λ t. Matches t (opened_tab window id b)) (sym all) (record {
      tabs = λ q. only-map int_cmp tab_key (on id (at_place n)) (on-key id (at_place n) (λ t. refl)) q s1.tabs
          ∙ each made sorted none q (is_eq (int_cmp q id)) refl;
      windows = ap (step_row int_cmp window_key window (new_window window) (λ w. w)) m.windows
          ∙ sym (step-seen int_cmp open_key window_key window_row (λ w. refl) window (fresh_window window)
          (with_tabs (λ tabs. tabs ++ fresh_tab id ∷ [])) (λ w. w) b.windows (λ w. refl));
      active = m.active;
      groups = every (HasGroup b.groups s.groups) tt m.groups;
      at_page = every IsAtPage refl m.at_page;
    })
  where
    n : ℕ
    n = length (tabs_of window b.windows)

    each : under id (with_both window id s).tabs ≡ record (new_tab id) { window = Some window } ∷ [] → InOrder b.windows
        → under id (rows b.windows) ≡ [] → (q : ℤ) (same : Bool) → is_eq (int_cmp q id) ≡ same
        → map (on id (at_place (length (tabs_of window b.windows)))) (under q (with_both window id s).tabs)
        ≡ under q (rows (opened window id b.windows))
    each made sorted none q true e =
        let is : q ≡ id = same_key q id e in
        subst (λ j. map (on id (at_place (length (tabs_of window b.windows)))) (under j (with_both window id s).tabs)
        ≡ under j (rows (opened window id b.windows))) (sym is)
        (ap (map (on id (at_place (length (tabs_of window b.windows))))) made ∙ rw (equals_itself id) refl
        ∙ sym (opened-own window id b.windows sorted none))
    each made sorted none q false e =
        let own : int_cmp id id ≡ Equal = is_equal (int_cmp id id) (equals_itself id) in
        left-under q (on id (at_place (length (tabs_of window b.windows))))
        (λ t is. let other : is_eq (int_cmp id (tab_key t)) ≡ false = rw is (flip q id e) in rw other refl)
        (with_both window id s).tabs
        ∙ only-beside int_cmp tab_key int_cmp_total exact_signed q id (new_tab id)
        (λ t. record t { window = Some window }) s.tabs e own (λ t. refl)
        ∙ m.tabs q
        ∙ sym (opened-beside window id q e b.windows)

    every : (P : BrowserTab → Type 0) → P (fresh_tab id) → EachTab P b.windows → EachTab P (opened window id b.windows)
    every P new all = all-step int_cmp open_key (λ w. AllByRecursion P w.tabs) window (fresh_window window)
        (with_tabs (λ tabs. tabs ++ fresh_tab id ∷ [])) b.windows (new, tt) (λ w own. last w.tabs own) all
      where
        last : (ts : List BrowserTab) → AllByRecursion P ts → AllByRecursion P (ts ++ fresh_tab id ∷ [])
        last [] own = (new, tt)
        last (t ∷ ts) own = (own.0, last ts own.1)
