-- All shown tabs tidied: each gets the row of its place, and the rows are those of a browser.
use Rattle.std.proofs.Common.{◌≡◌, ℕ, zero, suc, Bool, true, false, cond, ◌&&◌, ℤ, pos, List, [], ◌∷◌, ◌++◌, map}
use Rattle.std.proofs.Common.{filter, flat_map, Option, Some, None, IfSome, refl, sym, ap, subst, ◌∙◌}
use Rattle.std.specs.declared.cmp.Ordering.TheVariants.{Less}
use Rattle.std.specs.Ordering.{int_cmp, is_eq}
use Rattle.std.specs.List.{AllByRecursion}
use Rattle.std.specs.List.Sorted.{IsStrictlySortedBy}
use Rattle.std.proofs.lemmas.Map.Keys.{sorted_head, sorted_tail}
use Rattle.std.proofs.lemmas.List.{append-nil}
use Rattle.tab_pages.specs.PageLists.{IsRising, has_page}
use Rattle.window_state.specs.declared.tab.Tab.{Tab}
use Rattle.window_state.specs.declared.window.Window.{Window}
use Rattle.window_state.specs.Keys.{tab_key, window_key}
use Rattle.window_state.specs.States.{is_in, stands}
use Rattle.window_state.specs.Views.{is_shown, is_shown_in, shown_tabs}
use Rattle.window_state.specs.TabLists.{under, AtMostOne}
use Rattle.window_state.proofs.IdLaws.{equals_itself, same_key, flip, under-append}
use Rattle.window_state.proofs.SortingLaws.{sorting}
use Rattle.browser_model.specs.Tidying.{tidy_tab, tidy_tabs}
use Rattle.browser_model.specs.Tidied.{tidied_row, tidied_rows}
use Rattle.browser_model.proofs.Turns.{Turns, has_tab, on, turns-none, turns-then}
use Rattle.browser_model.proofs.Renumber.{first-key}
use Rattle.browser_model.proofs.Matching.{empty-both}
use Rattle.browser_model.proofs.PictureLaws.{filters, at-most-filter}
use Rattle.browser_model.proofs.TidyLaws.{tidy_row, tidy-turns, tidy-row-is}

-- the commands of tabs, one after another
abbrev pub told : ℕ → List Tab → Tab → Tab
told n [] x = x
told n (t ∷ ts) x = told (suc n) ts (on t.info.id (tidy_row n t) x)

abbrev pub AllStand : (ℤ → Type 0) → List Tab → Type 0
AllStand has [] = Unit {0}
AllStand has (t ∷ ts) = has t.info.id × AllStand has ts

pub turns-told : (has open_ : ℤ → Type 0) (n : ℕ) (ts : List Tab) → AllStand has ts
    → Turns has open_ (told n ts) (tidy_tabs n ts)
turns-told has open_ n [] all = turns-none has open_
turns-told has open_ n (t ∷ ts) all =
    let turns = (tidy-turns n t).turns in
    turns-then has open_ (on t.info.id (tidy_row n t)) (told (suc n) ts) (tidy_tab n t) (tidy_tabs (suc n) ts)
    (record {
      keys = turns.keys;
      to = λ s r h o. turns.to s r
          (λ q is. subst (λ j. has_tab j s ≡ true) (sym is) (h t.info.id all.0)) (λ q no. absurd no);
    })
    (turns-told has open_ (suc n) ts all.1)

pub told-none : (n : ℕ) (ts : List Tab) (x : Tab) → under (tab_key x) ts ≡ [] → told n ts x ≡ x
told-none n [] x none = refl
told-none n (t ∷ ts) x none = by (told-none (suc n) ts x) (is_eq (int_cmp (tab_key x) (tab_key t))) refl
  where
    by : (under (tab_key x) ts ≡ [] → told (suc n) ts x ≡ x) → (b : Bool) → is_eq (int_cmp (tab_key x) (tab_key t)) ≡ b
        → told n (t ∷ ts) x ≡ x
    by rest true e = let no : t ∷ under (tab_key x) ts ≡ [] = rw e at none in absurd cc
    by rest false e = let other : is_eq (int_cmp (tab_key t) (tab_key x)) ≡ false = flip (tab_key x) (tab_key t) e in
        rw other (rest (rw e at none))

-- what is kept of a shown tab
pub record IsReady (t : Tab) : Type 0 where
  pub rising : IsRising (pos 0) t.pages
  pub page : has_page t.pages ≡ true

none-rows : (q : ℤ) (n : ℕ) (ts : List Tab) → under q ts ≡ [] → under q (tidied_rows n ts) ≡ []
none-rows q n [] none = refl
none-rows q n (t ∷ ts) none = by (none-rows q (suc n) ts) (is_eq (int_cmp q (tab_key t))) refl
  where
    by : (under q ts ≡ [] → under q (tidied_rows (suc n) ts) ≡ []) → (b : Bool) → is_eq (int_cmp q (tab_key t)) ≡ b
        → under q (tidied_rows n (t ∷ ts)) ≡ []
    by rest true e = let no : t ∷ under q ts ≡ [] = rw e at none in absurd cc
    by rest false e = rw e (rest (rw e at none))

-- two maps that agree on what has a key
under-agree : (q : ℤ) (f g : Tab → Tab) → ((t : Tab) → tab_key t ≡ q → f t ≡ g t) → (xs : List Tab)
    → map f (under q xs) ≡ map g (under q xs)
under-agree q f g same [] = refl
under-agree q f g same (x ∷ xs) = by (under-agree q f g same xs) (is_eq (int_cmp q (tab_key x))) refl
  where
    by : map f (under q xs) ≡ map g (under q xs) → (b : Bool) → is_eq (int_cmp q (tab_key x)) ≡ b
        → map f (under q (x ∷ xs)) ≡ map g (under q (x ∷ xs))
    by rest true e = rw e (rw (same x (sym (same_key q (tab_key x) e)), rest) refl)
    by rest false e = rw e rest

pub told-one : (q : ℤ) (n : ℕ) (ts : List Tab) → AtMostOne (under q ts) → AllByRecursion IsReady ts
    → map (told n ts) (under q ts) ≡ under q (tidied_rows n ts)
told-one q n [] one ready = refl
told-one q n (t ∷ ts) one ready = by (λ o. told-one q (suc n) ts o ready.1) (is_eq (int_cmp q (tab_key t))) refl
  where
    by : (AtMostOne (under q ts) → map (told (suc n) ts) (under q ts) ≡ under q (tidied_rows (suc n) ts)) → (b : Bool)
        → is_eq (int_cmp q (tab_key t)) ≡ b → map (told n (t ∷ ts)) (under q (t ∷ ts))
        ≡ under q (tidied_rows n (t ∷ ts))
    by rest true e =
        let none : under q ts ≡ [] = rw e at one in
        let is = same_key q (tab_key t) e in
        let row = tidy-row-is n t ready.0.rising ready.0.page in
        let mine : told n (t ∷ ts) t ≡ tidied_row n t =
        rw (equals_itself (tab_key t)) (ap (told (suc n) ts) row
        ∙ told-none (suc n) ts (tidied_row n t) (subst (λ j. under j ts ≡ []) is none)) in
        rw (e, none, none-rows q (suc n) ts none, mine) refl
    by rest false e =
        let apart = flip q (tab_key t) e in
        let left : map (told n (t ∷ ts)) (under q ts) ≡ map (told (suc n) ts) (under q ts) =
        under-agree q (told n (t ∷ ts)) (told (suc n) ts)
        (λ x own. let other : is_eq (int_cmp (tab_key t) (tab_key x)) ≡ false = rw own apart in rw other refl) ts in
        rw e (left ∙ rest (rw e at one))

-- the tabs of all windows
abbrev pub told_all : (ℤ → List Tab) → List Window → Tab → Tab
told_all tabs_of [] x = x
told_all tabs_of (w ∷ ws) x = told_all tabs_of ws (told zero (tabs_of w.info.id) x)

abbrev pub each_of : (ℤ → List Tab) → List Window → List Tab
each_of tabs_of ws = flat_map (λ w. tabs_of w.info.id) ws

told-all-none : (tabs_of : ℤ → List Tab) (ws : List Window) (x : Tab) → under (tab_key x) (each_of tabs_of ws) ≡ []
    → told_all tabs_of ws x ≡ x
told-all-none tabs_of [] x none = refl
told-all-none tabs_of (w ∷ ws) x none =
    let both = empty-both (under (tab_key x) (tabs_of w.info.id)) (under (tab_key x) (each_of tabs_of ws))
    (sym (under-append (tab_key x) (tabs_of w.info.id) (each_of tabs_of ws)) ∙ none) in
    ap (told_all tabs_of ws) (told-none zero (tabs_of w.info.id) x both.0) ∙ told-all-none tabs_of ws x both.1

abbrev pub all_rows : (ℤ → List Tab) → List Window → List Tab
all_rows tabs_of ws = flat_map (λ w. tidied_rows zero (tabs_of w.info.id)) ws

pub told-all : (q : ℤ) (tabs_of : ℤ → List Tab) (ws : List Window) → AtMostOne (under q (each_of tabs_of ws))
    → AllByRecursion (λ w. AllByRecursion IsReady (tabs_of w.info.id)) ws
    → map (told_all tabs_of ws) (under q (each_of tabs_of ws)) ≡ under q (all_rows tabs_of ws)
told-all q tabs_of [] one ready = refl
told-all q tabs_of (w ∷ ws) one ready =
    let X = tabs_of w.info.id in
    let parts = under-append q X (each_of tabs_of ws) in
    by (λ o. told-all q tabs_of ws o ready.1) (λ o. told-one q zero X o ready.0) (under q X) refl
    (subst AtMostOne parts one) parts (under-append q (tidied_rows zero X) (all_rows tabs_of ws))
  where
    by : (AtMostOne (under q (each_of tabs_of ws))
        → map (told_all tabs_of ws) (under q (each_of tabs_of ws)) ≡ under q (all_rows tabs_of ws))
        → (AtMostOne (under q (tabs_of w.info.id))
        → map (told zero (tabs_of w.info.id)) (under q (tabs_of w.info.id))
        ≡ under q (tidied_rows zero (tabs_of w.info.id)))
        → (xs : List Tab) → under q (tabs_of w.info.id) ≡ xs
        → AtMostOne (under q (tabs_of w.info.id) ++ under q (each_of tabs_of ws))
        → under q (each_of tabs_of (w ∷ ws)) ≡ under q (tabs_of w.info.id) ++ under q (each_of tabs_of ws)
        → under q (all_rows tabs_of (w ∷ ws)) ≡ under q (tidied_rows zero (tabs_of w.info.id))
        ++ under q (all_rows tabs_of ws)
        → map (told_all tabs_of (w ∷ ws)) (under q (each_of tabs_of (w ∷ ws))) ≡ under q (all_rows tabs_of (w ∷ ws))
    by later here [] is one parts out =
        let one' : AtMostOne (under q (each_of tabs_of ws)) = rw is at one in
        let whole : under q (each_of tabs_of (w ∷ ws)) ≡ under q (each_of tabs_of ws) = parts
        ∙ ap (λ xs. xs ++ under q (each_of tabs_of ws)) is in
        let left : map (told_all tabs_of (w ∷ ws)) (under q (each_of tabs_of ws))
        ≡ map (told_all tabs_of ws) (under q (each_of tabs_of ws)) =
        under-agree q (told_all tabs_of (w ∷ ws)) (told_all tabs_of ws)
        (λ x own. ap (told_all tabs_of ws) (told-none zero (tabs_of w.info.id) x
        (subst (λ j. under j (tabs_of w.info.id) ≡ []) (sym own) is))) (each_of tabs_of ws) in
        ap (map (told_all tabs_of (w ∷ ws))) whole ∙ left ∙ later one'
        ∙ sym (out ∙ ap (λ xs. xs ++ under q (all_rows tabs_of ws)) (none-rows q zero (tabs_of w.info.id) is))
    by later here (x ∷ xs) is one parts out =
        let one' : xs ++ under q (each_of tabs_of ws) ≡ [] = rw is at one in
        let both = empty-both xs (under q (each_of tabs_of ws)) one' in
        let single : under q (tabs_of w.info.id) ≡ x ∷ [] = is ∙ ap (λ ys. x ∷ ys) both.0 in
        let one_here : AtMostOne (under q (tabs_of w.info.id)) = rw single refl in
        let own = first-key q (tabs_of w.info.id) x xs is in
        let told_is = here one_here in
        let row : told zero (tabs_of w.info.id) x ∷ [] ≡ under q (tidied_rows zero (tabs_of w.info.id)) =
        ap (map (told zero (tabs_of w.info.id))) (sym single) ∙ told_is in
        let row_key : tab_key (told zero (tabs_of w.info.id) x) ≡ q =
        first-key q (tidied_rows zero (tabs_of w.info.id)) (told zero (tabs_of w.info.id) x) [] (sym row) in
        let rest_none : told_all tabs_of ws (told zero (tabs_of w.info.id) x) ≡ told zero (tabs_of w.info.id) x =
        told-all-none tabs_of ws (told zero (tabs_of w.info.id) x)
        (subst (λ j. under j (each_of tabs_of ws) ≡ []) (sym row_key) both.1) in
        let rows_none : under q (all_rows tabs_of ws) ≡ [] = sym (later (rw both.1 tt))
        ∙ ap (map (told_all tabs_of ws)) both.1 in
        ap (map (told_all tabs_of (w ∷ ws))) (parts ∙ ap (λ ys. ys ++ under q (each_of tabs_of ws)) single
        ∙ ap (λ ys. x ∷ ys) both.1)
        ∙ ap (λ y. y ∷ []) rest_none ∙ row ∙ sym (append-nil (under q (tidied_rows zero (tabs_of w.info.id))))
        ∙ ap (λ ys. under q (tidied_rows zero (tabs_of w.info.id)) ++ ys) (sym rows_none) ∙ sym out

-- the shown tabs stand in the windows, each once
shown-under : (q window : ℤ) (tabs : List Tab) → ((j : ℤ) → AtMostOne (under j tabs))
    → under q (shown_tabs window tabs) ≡ filter (is_shown_in window) (under q tabs)
shown-under q window tabs one =
    let p = is_shown_in window in
    let s = sorting [] (filter p tabs) tt (λ j. subst AtMostOne (filters p (λ t. is_eq (int_cmp j (tab_key t))) tabs)
    (at-most-filter p (under j tabs) (one j))) in
    s.same q ∙ sym (filters p (λ t. is_eq (int_cmp q (tab_key t))) tabs)

shown_by : Option ℤ → Tab → Bool
shown_by window t = is_shown window t

pub each-shown : (q : ℤ) (tabs : List Tab) (ws : List Window) → ((j : ℤ) → AtMostOne (under j tabs))
    → IsStrictlySortedBy int_cmp (map window_key ws)
    → AllByRecursion (λ t. IfSome t.window (λ v. stands v ws ≡ true)) (under q tabs)
    → under q (each_of (λ id. shown_tabs id tabs) ws) ≡ filter (λ t. is_shown t.window t) (under q tabs)
each-shown q tabs ws one sorted standing = by (under q tabs) refl (one q) standing
  where
    none : (vs : List Window) → under q tabs ≡ [] → under q (each_of (λ id. shown_tabs id tabs) vs) ≡ []
    none [] is = refl
    none (v ∷ vs) is = under-append q (shown_tabs v.info.id tabs) (each_of (λ id. shown_tabs id tabs) vs)
        ∙ rw (shown-under q v.info.id tabs one, is) (none vs is)

    -- of one tab in a window
    some : (x : Tab) (own : ℤ) → x.window ≡ Some own → under q tabs ≡ x ∷ [] → (vs : List Window)
        → IsStrictlySortedBy int_cmp (map window_key vs)
        → under q (each_of (λ id. shown_tabs id tabs) vs) ≡ cond (stands own vs && has_page x.pages) (x ∷ []) []
    some x own is one_is [] sorted = refl
    some x own is one_is (v ∷ vs) sorted =
        under-append q (shown_tabs v.info.id tabs) (each_of (λ id. shown_tabs id tabs) vs)
        ∙ ap (λ ys. ys ++ under q (each_of (λ id. shown_tabs id tabs) vs))
        (shown-under q v.info.id tabs one ∙ ap (filter (is_shown_in v.info.id)) one_is)
        ∙ step (some x own is one_is vs (sorted_tail int_cmp v.info.id (map window_key vs) sorted))
        (is_eq (int_cmp own v.info.id)) refl
      where
        gone : (us : List Window) → AllByRecursion (λ y. int_cmp v.info.id y ≡ Less) (map window_key us)
            → own ≡ v.info.id → stands own us ≡ false
        gone [] all e = refl
        gone (u ∷ us) all e = let less : int_cmp own u.info.id ≡ Less = rw e all.0 in rw less (gone us all.1 e)

        step : under q (each_of (λ id. shown_tabs id tabs) vs) ≡ cond (stands own vs && has_page x.pages) (x ∷ []) []
            → (b : Bool) → is_eq (int_cmp own v.info.id) ≡ b
            → filter (is_shown_in v.info.id) (x ∷ []) ++ under q (each_of (λ id. shown_tabs id tabs) vs)
            ≡ cond (stands own (v ∷ vs) && has_page x.pages) (x ∷ []) []
        step rest true e =
            let out : stands own vs ≡ false = gone vs (sorted_head int_cmp v.info.id (map window_key vs) sorted)
            (same_key own v.info.id e) in
            let rest' : under q (each_of (λ id. shown_tabs id tabs) vs) ≡ [] = rest ∙ rw out refl in
            let test : is_shown_in v.info.id x ≡ has_page x.pages = ap (λ o. is_in v.info.id o && has_page x.pages) is
            ∙ ap (λ b. b && has_page x.pages) e in
            let found : stands own (v ∷ vs) ≡ true = rw e refl in
            ap (λ b. cond b (x ∷ []) [] ++ under q (each_of (λ id. shown_tabs id tabs) vs)) test
            ∙ ap (λ ys. cond (has_page x.pages) (x ∷ []) [] ++ ys) rest'
            ∙ append-nil (cond (has_page x.pages) (x ∷ []) [])
            ∙ ap (λ b. cond (b && has_page x.pages) (x ∷ []) []) (sym found)
        step rest false e =
            let test : is_shown_in v.info.id x ≡ false = ap (λ o. is_in v.info.id o && has_page x.pages) is
            ∙ ap (λ b. b && has_page x.pages) e in
            let found : stands own (v ∷ vs) ≡ stands own vs = rw e refl in
            ap (λ b. cond b (x ∷ []) [] ++ under q (each_of (λ id. shown_tabs id tabs) vs)) test
            ∙ rest
            ∙ ap (λ b. cond (b && has_page x.pages) (x ∷ []) []) (sym found)

    by : (xs : List Tab) → under q tabs ≡ xs → AtMostOne (under q tabs)
        → AllByRecursion (λ t. IfSome t.window (λ v. stands v ws ≡ true)) (under q tabs)
        → under q (each_of (λ id. shown_tabs id tabs) ws) ≡ filter (λ t. is_shown t.window t) (under q tabs)
    by [] is o st = none ws is ∙ rw is refl
    by (x ∷ xs) is o st =
        let rest : xs ≡ [] = rw is at o in
        let one_is : under q tabs ≡ x ∷ [] = is ∙ ap (λ ys. x ∷ ys) rest in
        let st' : IfSome x.window (λ v. stands v ws ≡ true) = (rw one_is at st).0 in
        at x one_is x.window refl st' ∙ ap (filter (λ t. is_shown t.window t)) (sym one_is)
      where
        at : (x : Tab) → under q tabs ≡ x ∷ [] → (w : Option ℤ) → x.window ≡ w
            → IfSome x.window (λ v. stands v ws ≡ true)
            → under q (each_of (λ id. shown_tabs id tabs) ws) ≡ filter (λ t. is_shown t.window t) (x ∷ [])
        at x one_is None e st = apart ws ∙ ap (λ b. cond b (x ∷ []) []) (sym (ap (λ o. is_shown o x) e))
          where
            apart : (vs : List Window) → under q (each_of (λ id. shown_tabs id tabs) vs) ≡ []
            apart [] = refl
            apart (v ∷ vs) =
                let test : is_shown_in v.info.id x ≡ false = ap (λ o. is_in v.info.id o && has_page x.pages) e in
                under-append q (shown_tabs v.info.id tabs) (each_of (λ id. shown_tabs id tabs) vs)
                ∙ ap (λ ys. ys ++ under q (each_of (λ id. shown_tabs id tabs) vs))
                (shown-under q v.info.id tabs one ∙ ap (filter (is_shown_in v.info.id)) one_is
                ∙ ap (λ b. cond b (x ∷ []) []) test)
                ∙ apart vs
        at x one_is (Some own) e st =
            let there : stands own ws ≡ true = subst (λ w. IfSome w (λ v. stands v ws ≡ true)) e st in
            some x own e one_is ws sorted ∙ ap (λ b. cond (b && has_page x.pages) (x ∷ []) []) there
            ∙ ap (λ b. cond b (x ∷ []) []) (sym (ap (λ o. is_shown o x) e))
