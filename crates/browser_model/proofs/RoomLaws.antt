-- A state has as many tabs and windows as a browser that it matches, so there is room in one where there is room in the
-- other.
use Rattle.std.proofs.Common.{◌≡◌, suc, ◌≤◌, nat_le, ◌&&◌, ◌||◌, not, Bool, true, false, cond, is_some, ℤ, List, []}
use Rattle.std.proofs.Common.{◌∷◌, map, filter, length, Some, refl, sym, ap, ◌∙◌, arith}
use Rattle.std.specs.declared.cmp.Ordering.{Ordering}
use Rattle.std.specs.declared.cmp.Ordering.TheVariants.{Less, Equal, Greater}
use Rattle.std.specs.Ordering.{int_cmp, is_eq, match_ordering}
use Rattle.std.specs.Cmp.{int_cmp_total}
use Rattle.std.specs.List.{AllByRecursion}
use Rattle.std.specs.List.Sorted.{IsStrictlySortedBy}
use Rattle.std.proofs.lemmas.Map.Keys.{sorted_head, sorted_tail}
use Rattle.std.proofs.lemmas.Map.Lookups.{exact_signed}
use Rattle.std.proofs.lemmas.Bool.Decides.{nat_tests}
use Rattle.std.proofs.lemmas.List.{length-map}
use Rattle.std.proofs.lemmas.List.Filters.{length-filter_both}
use Rattle.window_state.specs.declared.tab.Tab.{Tab}
use Rattle.window_state.specs.declared.window.Window.{Window}
use Rattle.window_state.specs.Keys.{tab_key, window_key}
use Rattle.window_state.specs.Limits.{limit}
use Rattle.window_state.specs.RowLists.{find_row, step_row, on_key}
use Rattle.window_state.specs.Changes.{new_tab, new_window}
use Rattle.window_state.specs.States.{State, is_within, stands, with_window, with_both}
use Rattle.window_state.specs.TabLists.{Same, under}
use Rattle.window_state.proofs.IdLaws.{equals_itself, same_key, flip}
use Rattle.window_state.proofs.OnlyLaws.{step-map}
use Rattle.browser_model.specs.Running.{IsRunning}
use Rattle.browser_model.specs.Browsers.{Browser, row_of, open_key, all_stands, window_row, Matches}
use Rattle.browser_model.proofs.PictureLaws.{filters}
use Rattle.browser_model.proofs.WindowLaws.{stands-is}

-- lists with the same rows under each id, one of them in order, are as long
same-length : (xs ys : List Tab) → IsStrictlySortedBy int_cmp (map tab_key xs) → Same xs ys → length ys ≡ length xs
same-length [] [] sorted same = refl
same-length [] (y ∷ ys) sorted same =
    let mine : under (tab_key y) (y ∷ ys) ≡ y ∷ under (tab_key y) ys = rw (equals_itself (tab_key y)) refl in
    let no : [] ≡ y ∷ under (tab_key y) ys = same (tab_key y) ∙ mine in
    absurd cc
same-length (x ∷ xs) ys sorted same =
    let own : Tab → Bool = λ t. is_eq (int_cmp (tab_key x) (tab_key t)) in
    let other : Tab → Bool = λ t. not (is_eq (int_cmp (tab_key x) (tab_key t))) in
    let both = length-filter_both own other (λ t. refl) ys in
    let above = sorted_head int_cmp (tab_key x) (map tab_key xs) sorted in
    let mine : under (tab_key x) ys ≡ x ∷ [] = sym (same (tab_key x))
    ∙ rw (equals_itself (tab_key x)) (ap (λ zs. x ∷ zs) (none xs above)) in
    let one : length (filter own ys) ≡ 1 = ap length mine in
    let rest = same-length xs (filter other ys) (sorted_tail int_cmp (tab_key x) (map tab_key xs) sorted)
    (λ q. by above q (is_eq (int_cmp q (tab_key x))) refl) in
    omega (arith, both, one, rest)
  where
    none : (zs : List Tab) → AllByRecursion (λ y. int_cmp (tab_key x) y ≡ Less) (map tab_key zs)
        → under (tab_key x) zs ≡ []
    none [] all = refl
    none (z ∷ zs) all = rw all.0 (none zs all.1)

    -- of the others none has its id, and all have another one
    out : (zs : List Tab) → filter (λ t. not (is_eq (int_cmp (tab_key x) (tab_key t)))) (under (tab_key x) zs) ≡ []
    out [] = refl
    out (z ∷ zs) = at (is_eq (int_cmp (tab_key x) (tab_key z))) refl (out zs)
      where
        at : (b : Bool) → is_eq (int_cmp (tab_key x) (tab_key z)) ≡ b
            → filter (λ t. not (is_eq (int_cmp (tab_key x) (tab_key t)))) (under (tab_key x) zs) ≡ []
            → filter (λ t. not (is_eq (int_cmp (tab_key x) (tab_key t)))) (under (tab_key x) (z ∷ zs)) ≡ []
        at true e rest = simp e rest
        at false e rest = simp e rest

    still : (q : ℤ) → is_eq (int_cmp q (tab_key x)) ≡ false → (zs : List Tab)
        → filter (λ t. not (is_eq (int_cmp (tab_key x) (tab_key t)))) (under q zs) ≡ under q zs
    still q apart [] = refl
    still q apart (z ∷ zs) = at (is_eq (int_cmp q (tab_key z))) refl (still q apart zs)
      where
        at : (b : Bool) → is_eq (int_cmp q (tab_key z)) ≡ b
            → filter (λ t. not (is_eq (int_cmp (tab_key x) (tab_key t)))) (under q zs) ≡ under q zs
            → filter (λ t. not (is_eq (int_cmp (tab_key x) (tab_key t)))) (under q (z ∷ zs)) ≡ under q (z ∷ zs)
        at true e rest =
            let is = same_key q (tab_key z) e in
            let differs : is_eq (int_cmp (tab_key x) (tab_key z)) ≡ false = rw is at (flip q (tab_key x) apart) in
            rw e (rw differs (ap (λ ws. z ∷ ws) rest))
        at false e rest = rw e rest

    by : AllByRecursion (λ y. int_cmp (tab_key x) y ≡ Less) (map tab_key xs) → (q : ℤ) (b : Bool)
        → is_eq (int_cmp q (tab_key x)) ≡ b
        → under q xs ≡ under q (filter (λ t. not (is_eq (int_cmp (tab_key x) (tab_key t)))) ys)
    by above q true e =
        let is = same_key q (tab_key x) e in
        let gone : under q (filter (λ t. not (is_eq (int_cmp (tab_key x) (tab_key t)))) ys) ≡ [] =
        filters (λ t. is_eq (int_cmp q (tab_key t))) (λ t. not (is_eq (int_cmp (tab_key x) (tab_key t)))) ys
        ∙ ap (λ j. filter (λ t. not (is_eq (int_cmp (tab_key x) (tab_key t)))) (under j ys)) is ∙ out ys in
        ap (λ j. under j xs) is ∙ none xs above ∙ sym gone
    by above q false e =
        let kept : under q (x ∷ xs) ≡ under q xs = ap (λ b. cond b (x ∷ under q xs) (under q xs)) e in
        sym kept ∙ same q ∙ sym (still q e ys)
        ∙ sym (filters (λ t. is_eq (int_cmp q (tab_key t))) (λ t. not (is_eq (int_cmp (tab_key x) (tab_key t)))) ys)

pub count-tabs : (s : State) (b : Browser) → IsRunning s → Matches s b → length (all_stands b.windows) ≡ length s.tabs
count-tabs s b r m = sym (length-map (all_stands b.windows) row_of)
    ∙ same-length s.tabs (map row_of (all_stands b.windows)) r.tabs m.tabs

pub count-windows : (s : State) (b : Browser) → Matches s b → length s.windows ≡ length b.windows
count-windows s b m = ap length m.windows ∙ length-map b.windows window_row

-- a step makes one row at most
one-more : {K R : Type 0} (cmp : K → K → Ordering) (key : R → K) (k : K) (fresh : R) (change : R → R) (rows : List R)
    → length (step_row cmp key k fresh change rows) ≤ suc (length rows)
one-more cmp key k fresh change [] = omega arith
one-more cmp key k fresh change (r ∷ rs) =
    let rest = one-more cmp key k fresh change rs in
    elim (cmp k (key r)) as (λ o. length (match_ordering o (change fresh ∷ r ∷ rs) (change r ∷ rs)
    (r ∷ step_row cmp key k fresh change rs)) ≤ suc (suc (length rs)))
    [ Less ↦ omega arith | Equal ↦ omega arith | Greater ↦ omega (arith, rest) ]

both-true : (a b : Bool) → (a && b) ≡ true → (a ≡ true) × (b ≡ true)
both-true true b e = (refl, e)
both-true false b e = absurd cc

both-false : (a b : Bool) → (a || b) ≡ false → (a ≡ false) × (b ≡ false)
both-false true b e = absurd cc
both-false false b e = (refl, e)

room-windows : (s : State) (b : Browser) (id : ℤ) (change : Window → Window) → Matches s b
    → nat_le limit (length b.windows) ≡ false
    → nat_le (length (step_row int_cmp window_key id (new_window id) change s.windows)) limit ≡ true
room-windows s b id change m few =
    let same = count-windows s b m in
    let more = one-more int_cmp window_key id (new_window id) change s.windows in
    grind (arith, nat_tests)

-- for a window more
pub room-window : (s : State) (b : Browser) (id : ℤ) (change : Window → Window) → IsRunning s → Matches s b
    → nat_le limit (length b.windows) ≡ false → is_within (with_window id change s) ≡ true
room-window s b id change r m few =
    let tabs = (both-true (nat_le (length s.tabs) limit) (nat_le (length s.windows) limit) r.within).0 in
    rw (tabs, room-windows s b id change m few) refl

-- for a tab more, and for its window where that isn't live
pub room-tab : (s : State) (b : Browser) (window id : ℤ) → IsRunning s → Matches s b
    → (nat_le limit (length (all_stands b.windows))
    || (not (is_some (find_row int_cmp open_key window b.windows)) && nat_le limit (length b.windows))) ≡ false
    → is_within (with_both window id s) ≡ true
room-tab s b window id r m room =
    let live = is_some (find_row int_cmp open_key window b.windows) in
    let parts = both-false (nat_le limit (length (all_stands b.windows))) (not live && nat_le limit (length b.windows))
    room in
    let few : nat_le limit (length (all_stands b.windows)) ≡ false = parts.0 in
    let same = count-tabs s b r m in
    let to : Tab → Tab = λ t. record t { window = Some window } in
    let more = one-more int_cmp tab_key id (new_tab id) to s.tabs in
    let tabs : nat_le (length (step_row int_cmp tab_key id (new_tab id) to s.tabs)) limit ≡ true =
    grind (arith, nat_tests) in
    rw (tabs, windows live refl parts.1) refl
  where
    windows : (b' : Bool) → is_some (find_row int_cmp open_key window b.windows) ≡ b'
        → (not b' && nat_le limit (length b.windows)) ≡ false
        → nat_le (length (step_row int_cmp window_key window (new_window window) (λ w. w) s.windows)) limit ≡ true
    windows true there few =
        let found : stands window s.windows ≡ true = stands-is s b window m ∙ there in
        let map_is = step-map int_cmp window_key int_cmp_total exact_signed window (new_window window) (λ w. w)
        s.windows r.windows found in
        ap (λ ws. nat_le (length ws) limit) map_is
        ∙ rw (length-map s.windows (on_key int_cmp window_key window (λ w. w)))
        (both-true (nat_le (length s.tabs) limit) (nat_le (length s.windows) limit) r.within).1
    windows false there few = room-windows s b window (λ w. w) m few
