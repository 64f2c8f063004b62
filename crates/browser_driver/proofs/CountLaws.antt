-- How many tabs a state has, and each window of a browser that the state matches.
use Rattle.std.proofs.Common.{◌≡◌, ℕ, zero, suc, ◌+◌, ◌≤◌, nat_le, ◌&&◌, not, Bool, true, false, ℤ, List, [], ◌∷◌, map}
use Rattle.std.proofs.Common.{filter, length, refl, sym, ap, subst, ◌∙◌, arith}
use Rattle.std.specs.declared.cmp.Ordering.TheVariants.{Less}
use Rattle.std.specs.Ordering.{int_cmp, is_eq}
use Rattle.std.specs.List.{AllByRecursion}
use Rattle.std.specs.List.Sorted.{IsStrictlySortedBy}
use Rattle.std.proofs.lemmas.Bool.Decides.{nat_tests}
use Rattle.std.proofs.lemmas.List.{length-append, length-map}
use Rattle.std.proofs.lemmas.List.Filters.{length-filter_both}
use Rattle.std.proofs.lemmas.Map.Keys.{sorted_head, sorted_tail}
use Rattle.closed_entries.specs.declared.entry.Entry.{Entry}
use Rattle.window_state.specs.declared.tab.Tab.{Tab}
use Rattle.window_state.specs.Keys.{tab_key}
use Rattle.window_state.specs.Limits.{limit}
use Rattle.window_state.specs.States.{State}
use Rattle.window_state.specs.TabLists.{Same, under}
use Rattle.window_state.proofs.IdLaws.{equals_itself, same_key}
use Rattle.browser_model.specs.Running.{IsRunning}
use Rattle.browser_model.specs.Browsers.{Browser, BrowserTab, BrowserWindow, own_id, open_key, row_of, stands_from}
use Rattle.browser_model.specs.Browsers.{stands_in, all_stands, rows, Matches}
use Rattle.browser_model.specs.Tabs.{tabs_of}
use Rattle.browser_driver.specs.Orders.{order_of}
use Rattle.browser_driver.specs.Held.{held, IsHeld}
use Rattle.browser_driver.specs.Seats.{AreFew}

pub few-tabs : (s : State) → IsRunning s → length s.tabs ≤ limit
few-tabs s r = by (nat_le (length s.tabs) limit) (nat_le (length s.windows) limit) refl r.within
  where
    by : (a b : Bool) → nat_le (length s.tabs) limit ≡ a → (a && b) ≡ true → length s.tabs ≤ limit
    by true b is e = grind (arith, nat_tests)
    by false b is e = absurd cc

-- lists with the same rows under each id are as long
same-length : (xs ys : List Tab) → IsStrictlySortedBy int_cmp (map tab_key xs) → Same xs ys → length ys ≡ length xs
same-length [] [] sorted same = refl
same-length [] (y ∷ ys) sorted same =
    let here : [] ≡ under (tab_key y) (y ∷ ys) = same (tab_key y) in
    let mine : under (tab_key y) (y ∷ ys) ≡ y ∷ under (tab_key y) ys = rw (equals_itself (tab_key y)) refl in
    let none : [] ≡ y ∷ under (tab_key y) ys = here ∙ mine in
    absurd cc
same-length (x ∷ xs) ys sorted same =
    let p : Tab → Bool = λ t. is_eq (int_cmp (tab_key x) (tab_key t)) in
    let other : Tab → Bool = λ t. not (is_eq (int_cmp (tab_key x) (tab_key t))) in
    let both = length-filter_both p other (λ t. refl) ys in
    let none : under (tab_key x) xs ≡ [] = above xs (sorted_head int_cmp (tab_key x) (map tab_key xs) sorted) in
    let mine : under (tab_key x) ys ≡ x ∷ [] =
    sym (same (tab_key x)) ∙ rw (equals_itself (tab_key x)) (ap (λ zs. x ∷ zs) none) in
    let one : length (filter p ys) ≡ 1 = ap length mine in
    let rest = same-length xs (filter other ys) (sorted_tail int_cmp (tab_key x) (map tab_key xs) sorted)
    (λ q. by none q (is_eq (int_cmp q (tab_key x))) refl) in
    omega (arith, both, one, rest)
  where
    above : (zs : List Tab) → AllByRecursion (λ z. int_cmp (tab_key x) z ≡ Less) (map tab_key zs)
        → under (tab_key x) zs ≡ []
    above [] all = refl
    above (z ∷ zs) all = rw all.0 (above zs all.1)

    cut : (q : ℤ) → q ≡ tab_key x → (zs : List Tab)
        → under q (filter (λ t. not (is_eq (int_cmp (tab_key x) (tab_key t)))) zs) ≡ []
    cut q is [] = refl
    cut q is (z ∷ zs) = step (cut q is zs) (is_eq (int_cmp (tab_key x) (tab_key z))) refl
      where
        step : under q (filter (λ t. not (is_eq (int_cmp (tab_key x) (tab_key t)))) zs) ≡ [] → (b : Bool)
            → is_eq (int_cmp (tab_key x) (tab_key z)) ≡ b
            → under q (filter (λ t. not (is_eq (int_cmp (tab_key x) (tab_key t)))) (z ∷ zs)) ≡ []
        step more true e = rw e more
        step more false e = let e' : is_eq (int_cmp q (tab_key z)) ≡ false = rw is e in rw (e, e') more

    kept : (q : ℤ) → is_eq (int_cmp q (tab_key x)) ≡ false → (zs : List Tab)
        → under q (filter (λ t. not (is_eq (int_cmp (tab_key x) (tab_key t)))) zs) ≡ under q zs
    kept q is [] = refl
    kept q is (z ∷ zs) = step (kept q is zs) (is_eq (int_cmp (tab_key x) (tab_key z))) refl
      where
        step : under q (filter (λ t. not (is_eq (int_cmp (tab_key x) (tab_key t)))) zs) ≡ under q zs → (b : Bool)
            → is_eq (int_cmp (tab_key x) (tab_key z)) ≡ b
            → under q (filter (λ t. not (is_eq (int_cmp (tab_key x) (tab_key t)))) (z ∷ zs)) ≡ under q (z ∷ zs)
        step more true e =
            let e' : is_eq (int_cmp q (tab_key z)) ≡ false =
            subst (λ j. is_eq (int_cmp q j) ≡ false) (same_key (tab_key x) (tab_key z) e) is in
            rw (e, e') more
        step more false e = rw (e, more) refl

    by : under (tab_key x) xs ≡ [] → (q : ℤ) (b : Bool) → is_eq (int_cmp q (tab_key x)) ≡ b
        → under q xs ≡ under q (filter (λ t. not (is_eq (int_cmp (tab_key x) (tab_key t)))) ys)
    by none q true e =
        let is = same_key q (tab_key x) e in
        subst (λ j. under j xs ≡ []) (sym is) none ∙ sym (cut q is ys)
    by none q false e =
        let out : under q (x ∷ xs) ≡ under q xs = rw e refl in
        sym out ∙ same q ∙ sym (kept q e ys)

-- as many tabs stand in a browser as in a state that matches it
pub stands-count : (s : State) (b : Browser) → IsRunning s → Matches s b → length (all_stands b.windows) ≡ length s.tabs
stands-count s b r m =
    sym (length-map (all_stands b.windows) row_of) ∙ same-length s.tabs (rows b.windows) r.tabs m.tabs

stands-length : (window : ℤ) (n : ℕ) (ts : List BrowserTab) → length (stands_from window n ts) ≡ length ts
stands-length window n [] = refl
stands-length window n (t ∷ ts) = ap suc (stands-length window (suc n) ts)

tabs-within : (w : ℤ) (ws : List BrowserWindow) → length (tabs_of w ws) ≤ length (all_stands ws)
tabs-within w [] = omega arith
tabs-within w (v ∷ ws) = by (tabs-within w ws) (is_eq (int_cmp w (open_key v))) refl
  where
    count : length (all_stands (v ∷ ws)) ≡ length v.tabs + length (all_stands ws)
    count = length-append (stands_in v) (all_stands ws)
        ∙ ap (λ n. n + length (all_stands ws)) (stands-length v.info.id zero v.tabs)

    by : length (tabs_of w ws) ≤ length (all_stands ws) → (b : Bool) → is_eq (int_cmp w (open_key v)) ≡ b
        → length (tabs_of w (v ∷ ws)) ≤ length (all_stands (v ∷ ws))
    by rest true e = rw e (omega (arith, count))
    by rest false e = rw e (omega (arith, count, rest))

-- no window has more tabs than there may be
pub few-seats : (s : State) (orders : List (ℤ × List ℤ)) (closed : List Entry) (moment : ℤ)
    → IsHeld s orders closed moment → (w : ℤ) → length (order_of w orders) ≤ limit
few-seats s orders closed moment h w =
    let b = held s orders closed moment in
    let few = few-tabs s h.running in
    let all = stands-count s b h.running h.matches in
    let within = tabs-within w b.windows in
    let seats = ap length (h.seated w) ∙ length-map (tabs_of w b.windows) own_id in
    omega (arith, few, all, within, seats)

-- nor have two windows together
two-within : (v w : ℤ) (ws : List BrowserWindow) → is_eq (int_cmp v w) ≡ false
    → length (tabs_of v ws) + length (tabs_of w ws) ≤ length (all_stands ws)
two-within v w [] apart = omega arith
two-within v w (u ∷ us) apart =
    by (two-within v w us apart) (is_eq (int_cmp v (open_key u))) refl (is_eq (int_cmp w (open_key u))) refl
  where
    count : length (all_stands (u ∷ us)) ≡ length u.tabs + length (all_stands us)
    count = length-append (stands_in u) (all_stands us)
        ∙ ap (λ n. n + length (all_stands us)) (stands-length u.info.id zero u.tabs)

    by : length (tabs_of v us) + length (tabs_of w us) ≤ length (all_stands us) → (c : Bool)
        → is_eq (int_cmp v (open_key u)) ≡ c → (d : Bool) → is_eq (int_cmp w (open_key u)) ≡ d
        → length (tabs_of v (u ∷ us)) + length (tabs_of w (u ∷ us)) ≤ length (all_stands (u ∷ us))
    by rest true e true f =
        let same = same_key v (open_key u) e ∙ sym (same_key w (open_key u) f) in
        let never : is_eq (int_cmp v w) ≡ true = ap (λ q. is_eq (int_cmp v q)) (sym same) ∙ equals_itself v in
        absurd cc
    by rest true e false f = let within = tabs-within w us in rw (e, f) (omega (arith, count, within))
    by rest false e true f = let within = tabs-within v us in rw (e, f) (omega (arith, count, within))
    by rest false e false f = rw (e, f) (omega (arith, count, rest))

pub few-both : (s : State) (orders : List (ℤ × List ℤ)) (closed : List Entry) (moment : ℤ)
    → IsHeld s orders closed moment → AreFew orders
few-both s orders closed moment h v w apart =
    let b = held s orders closed moment in
    let few = few-tabs s h.running in
    let all = stands-count s b h.running h.matches in
    let within = two-within v w b.windows apart in
    let first = ap length (h.seated v) ∙ length-map (tabs_of v b.windows) own_id in
    let second = ap length (h.seated w) ∙ length-map (tabs_of w b.windows) own_id in
    omega (arith, few, all, within, first, second)
