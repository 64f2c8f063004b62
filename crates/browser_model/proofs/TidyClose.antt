-- Tabs and windows that aren't shown are closed.
use Rattle.std.proofs.Common.{◌≡◌, Bool, true, false, cond, not, ℤ, List, [], ◌∷◌, map, filter, refl, sym, ap, subst}
use Rattle.std.proofs.Common.{◌∙◌}
use Rattle.std.specs.declared.cmp.Ordering.TheVariants.{Less}
use Rattle.std.specs.Ordering.{int_cmp, is_eq}
use Rattle.std.specs.Cmp.{int_cmp_total}
use Rattle.std.specs.List.{AllByRecursion}
use Rattle.std.specs.List.Sorted.{IsStrictlySortedBy}
use Rattle.std.proofs.lemmas.Map.Keys.{sorted_head, sorted_tail}
use Rattle.std.proofs.lemmas.Map.Lookups.{exact_signed}
use Rattle.window_state.specs.declared.tab.Tab.{Tab}
use Rattle.window_state.specs.declared.window.Window.{Window}
use Rattle.window_state.specs.Keys.{tab_key, window_key}
use Rattle.window_state.specs.RowLists.{without_row}
use Rattle.window_state.specs.States.{State, tab_closed}
use Rattle.window_state.specs.TabLists.{under, AtMostOne}
use Rattle.window_state.proofs.OnlyLaws.{only-gone, only-kept}
use Rattle.window_state.proofs.IdLaws.{equals_itself, same_key, flip}
use Rattle.replay_machine.specs.Step.{fold}
use Rattle.browser_model.specs.Running.{IsRunning}
use Rattle.browser_model.specs.Tidying.{close_tabs}
use Rattle.browser_model.proofs.Matching.{running-closed}
use Rattle.browser_model.proofs.PictureLaws.{filters}

abbrev pub without_tabs : List Tab → List Tab → List Tab
without_tabs [] xs = xs
without_tabs (t ∷ ts) xs = without_tabs ts (without_row int_cmp tab_key t.info.id xs)

pub closes-run : (s : State) (ts : List Tab) → fold s (close_tabs ts) ≡ record s { tabs = without_tabs ts s.tabs }
closes-run s [] = refl
closes-run s (t ∷ ts) = closes-run (tab_closed t.info.id s) ts

pub running-closes : (s : State) (ts : List Tab) → IsRunning s → IsRunning (record s { tabs = without_tabs ts s.tabs })
running-closes s [] r = r
running-closes s (t ∷ ts) r = running-closes (tab_closed t.info.id s) ts (running-closed t.info.id s r)

under-empty : (q : ℤ) (s : State) (ts : List Tab) → IsRunning s → under q s.tabs ≡ []
    → under q (without_tabs ts s.tabs) ≡ []
under-empty q s [] r none = none
under-empty q s (t ∷ ts) r none = by (λ n. under-empty q (tab_closed t.info.id s) ts (running-closed t.info.id s r) n)
    (is_eq (int_cmp q t.info.id)) refl
  where
    by : (under q (without_row int_cmp tab_key t.info.id s.tabs) ≡ []
        → under q (without_tabs ts (without_row int_cmp tab_key t.info.id s.tabs)) ≡ []) → (b : Bool)
        → is_eq (int_cmp q t.info.id) ≡ b → under q (without_tabs (t ∷ ts) s.tabs) ≡ []
    by rest true e = rest (subst (λ j. under j (without_row int_cmp tab_key t.info.id s.tabs) ≡ [])
        (sym (same_key q t.info.id e)) (only-gone int_cmp tab_key int_cmp_total exact_signed t.info.id s.tabs r.tabs))
    by rest false e = rest (only-kept int_cmp tab_key int_cmp_total exact_signed q t.info.id s.tabs e ∙ none)

under-out : (q : ℤ) (s : State) (ts : List Tab) (x : Tab) (xs : List Tab) → IsRunning s → under q ts ≡ x ∷ xs
    → under q (without_tabs ts s.tabs) ≡ []
under-out q s [] x xs r is = absurd cc
under-out q s (t ∷ ts) x xs r is = by (λ n. under-out q (tab_closed t.info.id s) ts x xs (running-closed t.info.id s r)
    n) (is_eq (int_cmp q t.info.id)) refl
  where
    by : (under q ts ≡ x ∷ xs → under q (without_tabs ts (without_row int_cmp tab_key t.info.id s.tabs)) ≡ [])
        → (b : Bool) → is_eq (int_cmp q t.info.id) ≡ b → under q (without_tabs (t ∷ ts) s.tabs) ≡ []
    by rest true e = under-empty q (tab_closed t.info.id s) ts (running-closed t.info.id s r)
        (subst (λ j. under j (without_row int_cmp tab_key t.info.id s.tabs) ≡ []) (sym (same_key q t.info.id e))
        (only-gone int_cmp tab_key int_cmp_total exact_signed t.info.id s.tabs r.tabs))
    by rest false e = rest (rw e at is)

under-stays : (q : ℤ) (ts xs : List Tab) → under q ts ≡ [] → under q (without_tabs ts xs) ≡ under q xs
under-stays q [] xs none = refl
under-stays q (t ∷ ts) xs none = by (λ n. under-stays q ts (without_row int_cmp tab_key t.info.id xs) n)
    (is_eq (int_cmp q t.info.id)) refl
  where
    by : (under q ts ≡ [] → under q (without_tabs ts (without_row int_cmp tab_key t.info.id xs))
        ≡ under q (without_row int_cmp tab_key t.info.id xs)) → (b : Bool) → is_eq (int_cmp q t.info.id) ≡ b
        → under q (without_tabs (t ∷ ts) xs) ≡ under q xs
    by rest true e = let no : t ∷ under q ts ≡ [] = rw e at none in absurd cc
    by rest false e = rest (rw e at none) ∙ only-kept int_cmp tab_key int_cmp_total exact_signed q t.info.id xs e

-- of a state's tabs those go that fail a test
pub closed-same : (s : State) (p : Tab → Bool) → IsRunning s → ((q : ℤ) → AtMostOne (under q s.tabs)) → (q : ℤ)
    → under q (without_tabs (filter (λ t. not (p t)) s.tabs) s.tabs) ≡ filter p (under q s.tabs)
closed-same s p r one q = by (under q s.tabs) refl (one q)
    (filters (λ t. is_eq (int_cmp q (tab_key t))) (λ t. not (p t)) s.tabs)
  where
    by : (xs : List Tab) → under q s.tabs ≡ xs → AtMostOne (under q s.tabs)
        → under q (filter (λ t. not (p t)) s.tabs) ≡ filter (λ t. not (p t)) (under q s.tabs)
        → under q (without_tabs (filter (λ t. not (p t)) s.tabs) s.tabs) ≡ filter p (under q s.tabs)
    by [] is o through = under-empty q s (filter (λ t. not (p t)) s.tabs) r is ∙ sym (ap (filter p) is)
    by (x ∷ xs) is o through =
        let rest : xs ≡ [] = rw is at o in
        let one_is : under q s.tabs ≡ x ∷ [] = is ∙ ap (λ ys. x ∷ ys) rest in
        test (p x) refl one_is (through ∙ ap (filter (λ t. not (p t))) one_is)
      where
        test : (b : Bool) → p x ≡ b → under q s.tabs ≡ x ∷ []
            → under q (filter (λ t. not (p t)) s.tabs) ≡ filter (λ t. not (p t)) (x ∷ [])
            → under q (without_tabs (filter (λ t. not (p t)) s.tabs) s.tabs) ≡ filter p (under q s.tabs)
        test true e one_is through =
            let none : under q (filter (λ t. not (p t)) s.tabs) ≡ [] = through ∙ ap (λ b. cond (not b) (x ∷ []) []) e in
            under-stays q (filter (λ t. not (p t)) s.tabs) s.tabs none ∙ one_is
            ∙ sym (ap (filter p) one_is ∙ ap (λ b. cond b (x ∷ []) []) e)
        test false e one_is through =
            let some : under q (filter (λ t. not (p t)) s.tabs) ≡ x ∷ [] = through
            ∙ ap (λ b. cond (not b) (x ∷ []) []) e in
            under-out q s (filter (λ t. not (p t)) s.tabs) x [] r some
            ∙ sym (ap (filter p) one_is ∙ ap (λ b. cond b (x ∷ []) []) e)

-- windows
abbrev pub without_windows : List Window → List Window → List Window
without_windows [] ws = ws
without_windows (c ∷ cs) ws = without_windows cs (without_row int_cmp window_key c.info.id ws)

skip : (w : Window) (cs vs : List Window) → AllByRecursion (λ c. is_eq (int_cmp c.info.id w.info.id) ≡ false) cs
    → without_windows cs (w ∷ vs) ≡ w ∷ without_windows cs vs
skip w [] vs all = refl
skip w (c ∷ cs) vs all = ap (without_windows cs) (rw all.0 refl)
    ∙ skip w cs (without_row int_cmp window_key c.info.id vs) all.1

pub windows-left : (p : Window → Bool) (ws : List Window) → IsStrictlySortedBy int_cmp (map window_key ws)
    → without_windows (filter (λ w. not (p w)) ws) ws ≡ filter p ws
windows-left p [] sorted = refl
windows-left p (w ∷ ws) sorted = by (windows-left p ws (sorted_tail int_cmp w.info.id (map window_key ws) sorted)) (p w)
    refl
  where
    others : (vs : List Window) → AllByRecursion (λ y. int_cmp w.info.id y ≡ Less) (map window_key vs)
        → AllByRecursion (λ c. is_eq (int_cmp c.info.id w.info.id) ≡ false) (filter (λ v. not (p v)) vs)
    others [] all = tt
    others (v ∷ vs) all =
        let less = all.0 in
        let apart : is_eq (int_cmp w.info.id v.info.id) ≡ false = rw less refl in
        let rest = others vs all.1 in
        elim (p v) as (λ b. AllByRecursion (λ c. is_eq (int_cmp c.info.id w.info.id) ≡ false)
        (cond (not b) (v ∷ filter (λ u. not (p u)) vs) (filter (λ u. not (p u)) vs)))
        [ true ↦ rest | false ↦ (flip w.info.id v.info.id apart, rest) ]

    by : without_windows (filter (λ v. not (p v)) ws) ws ≡ filter p ws → (b : Bool) → p w ≡ b
        → without_windows (filter (λ v. not (p v)) (w ∷ ws)) (w ∷ ws) ≡ filter p (w ∷ ws)
    by rest true e = rw e (skip w (filter (λ v. not (p v)) ws) ws
        (others ws (sorted_head int_cmp w.info.id (map window_key ws) sorted)) ∙ ap (λ vs. w ∷ vs) rest)
    by rest false e =
        let mine = equals_itself w.info.id in
        rw e (ap (without_windows (filter (λ v. not (p v)) ws)) (rw mine refl) ∙ rest)
