-- A tab moved within its window.
use Rattle.std.proofs.Common.{◌≡◌, ℕ, zero, suc, ◌+◌, ◌-◌, ◌≤◌, ◌<◌, nat_lt, Bool, true, false, ℤ, List, [], ◌∷◌, ◌++◌}
use Rattle.std.proofs.Common.{map, filter, length, take, drop, Some, refl, sym, ap, subst, ◌∙◌, append_assoc, arith}
use Rattle.std.specs.Ordering.{int_cmp}
use Rattle.std.proofs.lemmas.Bool.Decides.{nat_tests}
use Rattle.std.proofs.lemmas.List.{map-append, length-take, length-drop, length-append, take-append-drop}
use Rattle.std.proofs.lemmas.List.{take-append-le, drop-append-le, append-nil}
use Rattle.window_state.specs.declared.tab.Tab.{Tab}
use Rattle.window_state.specs.Keys.{tab_key}
use Rattle.window_state.specs.States.{State}
use Rattle.window_state.specs.RowLists.{only}
use Rattle.window_state.specs.TabLists.{under, AtMostOne}
use Rattle.window_state.proofs.OnlyLaws.{only-map}
use Rattle.window_state.proofs.IdLaws.{under-append}
use Rattle.replay_machine.specs.Step.{fold}
use Rattle.browser_model.specs.Running.{IsRunning}
use Rattle.browser_model.specs.Browsers.{Browser, BrowserWindow, BrowserTab, Stand, own_id, stand_key, row_of}
use Rattle.browser_model.specs.Browsers.{stands_from, rows, Matches, IsAtPage, HasGroup}
use Rattle.browser_model.specs.Tabs.{stand_of, tabs_of, tabs_or_none, with_tabs, is_other, taken_out, put_at, put_in}
use Rattle.browser_model.specs.Tabs.{places}
use Rattle.browser_model.specs.Moving.{others_of, moved_tab, move_within}
use Rattle.browser_model.proofs.Turns.{has_tab}
use Rattle.browser_model.proofs.Renumber.{rows_from, unplaced, renumber, renumber-key, renumbered, turns-places}
use Rattle.browser_model.proofs.Renumber.{AllHave, none-under}
use Rattle.browser_model.proofs.Splits.{Split, split, stands-append, front, rows-split, InOrder, taken-split, find-own}
use Rattle.browser_model.proofs.Splits.{change-own}
use Rattle.browser_model.proofs.Matching.{at-most-one, one-stand, in-order, same-windows, stands-under, all-have}
use Rattle.browser_model.proofs.Matching.{empty-both}
use Rattle.browser_model.proofs.CloseLaws.{each-taken, bare-rows}
use Rattle.browser_model.proofs.TabLaws.{of-found}
use Rattle.browser_model.proofs.MoveLaws.{swap-front, swap-back, each-in, same-put, in-order-taken, at-most-map}

part : (q : ℤ) (a x b : List Tab) → AtMostOne (under q (a ++ (x ++ b))) → AtMostOne (under q x)
part q a x b one = cut (under q a) (under q x) (under q b)
    (subst AtMostOne (under-append q a (x ++ b) ∙ ap (λ z. under q a ++ z) (under-append q x b)) one)
  where
    cut : (p r s : List Tab) → AtMostOne (p ++ (r ++ s)) → AtMostOne r
    cut p [] s h = tt
    cut [] (y ∷ r) s h = (empty-both r s h).0
    cut (z ∷ p) (y ∷ r) s h = absurd (no p h)
      where
        no : (p : List Tab) → p ++ ((y ∷ r) ++ s) ≡ [] → ⊥
        no [] h = absurd cc
        no (w ∷ p) h = absurd cc

-- a part of a window's tabs stands in another order
module _ (before : List BrowserWindow) (own : BrowserWindow) (after : List BrowserWindow)
    (pre seg new post : List BrowserTab) (tabs : own.tabs ≡ pre ++ (seg ++ post)) (long : length seg ≡ length new) where
  whole-rows : (us : List BrowserTab) → rows (before ++ with_tabs (λ ts. pre ++ (us ++ post)) own ∷ after)
      ≡ front before own pre ++ (rows_from own.info.id (length pre) us
      ++ (rows_from own.info.id (length pre + length us) post ++ rows after))
  whole-rows us =
      let w = own.info.id in
      let n = length pre in
      rows-split before (with_tabs (λ ts. pre ++ (us ++ post)) own) after pre (us ++ post) refl
      ∙ ap (λ xs. front before own pre ++ (xs ++ rows after))
      (ap (map row_of) (stands-append w n us post)
      ∙ map-append row_of (stands_from w n us) (stands_from w (n + length us) post))
      ∙ ap (λ xs. front before own pre ++ xs) (append_assoc (rows_from w n us) (rows_from w (n + length us) post)
      (rows after))

  pub reordered : (q : ℤ) → AtMostOne (under q (rows (before ++ own ∷ after)))
      → (AtMostOne (under q (rows_from own.info.id (length pre) seg))
      → map unplaced (under q (rows_from own.info.id (length pre) seg))
      ≡ map unplaced (under q (rows_from own.info.id (length pre) new)))
      → under q (map (renumber (length pre) new) (rows (before ++ own ∷ after)))
      ≡ under q (rows (before ++ with_tabs (λ ts. pre ++ (new ++ post)) own ∷ after))
  reordered q one alike =
      let w = own.info.id in
      let n = length pre in
      let b = rows_from w (n + length seg) post ++ rows after in
      let same : with_tabs (λ ts. pre ++ (seg ++ post)) own ≡ own = ap (λ ts. with_tabs (λ us. ts) own) (sym tabs) in
      let is : rows (before ++ own ∷ after) ≡ front before own pre ++ (rows_from w n seg ++ b) =
      ap (λ o. rows (before ++ o ∷ after)) (sym same) ∙ whole-rows seg in
      let one' = subst (λ xs. AtMostOne (under q xs)) is one in
      ap (λ xs. under q (map (renumber n new) xs)) is
      ∙ renumbered q w n new (front before own pre) (rows_from w n seg) b
      (alike (part q (front before own pre) (rows_from w n seg) b one')) one'
      ∙ ap (λ k. under q (front before own pre ++ (rows_from w n new ++ (rows_from w (n + k) post ++ rows after)))) long
      ∙ ap (under q) (sym (whole-rows new))

bare-under-map : (q : ℤ) (xs : List Tab) → map unplaced (under q xs) ≡ under q (map unplaced xs)
bare-under-map q xs = sym (only-map int_cmp tab_key unplaced (λ z. refl) q xs)

bare-append : (w : ℤ) (n : ℕ) (us vs : List BrowserTab)
    → map unplaced (rows_from w n (us ++ vs)) ≡ map unplaced (rows_from w n us) ++ map unplaced (rows_from w n vs)
bare-append w n us vs =
    ap (λ ss. map unplaced (map row_of ss)) (stands-append w n us vs)
    ∙ ap (map unplaced) (map-append row_of (stands_from w n us) (stands_from w (n + length us) vs))
    ∙ map-append unplaced (rows_from w n us) (rows_from w (n + length us) vs)
    ∙ ap (λ xs. map unplaced (rows_from w n us) ++ xs) (bare-rows w (n + length us) n vs)

-- the first goes last, and the last first
to-last : (q w : ℤ) (n : ℕ) (t : BrowserTab) (mid : List BrowserTab) → AtMostOne (under q (rows_from w n (t ∷ mid)))
    → map unplaced (under q (rows_from w n (t ∷ mid))) ≡ map unplaced (under q (rows_from w n (mid ++ t ∷ [])))
to-last q w n t mid one =
    let u = unplaced (row_of (record { window = w; place = n; tab = t })) in
    let v = map unplaced (rows_from w n mid) in
    let first : map unplaced (rows_from w n (t ∷ mid)) ≡ u ∷ (v ++ []) =
    ap (λ xs. u ∷ xs) (bare-rows w (suc n) n mid ∙ sym (append-nil v)) in
    let one' : AtMostOne (under q (u ∷ (v ++ []))) =
    subst AtMostOne (bare-under-map q (rows_from w n (t ∷ mid)) ∙ ap (under q) first)
    (at-most-map unplaced (under q (rows_from w n (t ∷ mid))) one) in
    bare-under-map q (rows_from w n (t ∷ mid)) ∙ ap (under q) first ∙ swap-front q u v [] one'
    ∙ ap (under q) (sym (bare-append w n mid (t ∷ []))) ∙ sym (bare-under-map q (rows_from w n (mid ++ t ∷ [])))

to-first : (q w : ℤ) (n : ℕ) (t : BrowserTab) (mid : List BrowserTab)
    → AtMostOne (under q (rows_from w n (mid ++ t ∷ [])))
    → map unplaced (under q (rows_from w n (mid ++ t ∷ []))) ≡ map unplaced (under q (rows_from w n (t ∷ mid)))
to-first q w n t mid one =
    let u = unplaced (row_of (record { window = w; place = n; tab = t })) in
    let v = map unplaced (rows_from w n mid) in
    let first : map unplaced (rows_from w n (t ∷ mid)) ≡ u ∷ (v ++ []) =
    ap (λ xs. u ∷ xs) (bare-rows w (suc n) n mid ∙ sym (append-nil v)) in
    let one' : AtMostOne (under q (v ++ u ∷ [])) =
    subst AtMostOne (bare-under-map q (rows_from w n (mid ++ t ∷ [])) ∙ ap (under q) (bare-append w n mid (t ∷ [])))
    (at-most-map unplaced (under q (rows_from w n (mid ++ t ∷ []))) one) in
    bare-under-map q (rows_from w n (mid ++ t ∷ [])) ∙ ap (under q) (bare-append w n mid (t ∷ []))
    ∙ sym (swap-back q u v [] one') ∙ ap (under q) (sym first) ∙ sym (bare-under-map q (rows_from w n (t ∷ mid)))

-- fronts and rests of joined lists
take-past : {X : Type 0} (m : ℕ) (xs ys : List X) → take (length xs + m) (xs ++ ys) ≡ xs ++ take m ys
take-past m [] ys = let z : zero + m ≡ m = omega arith in ap (λ k. take k ys) z
take-past m (x ∷ xs) ys = let z : suc (length xs) + m ≡ suc (length xs + m) = omega arith in
    ap (λ k. take k (x ∷ xs ++ ys)) z ∙ ap (λ zs. x ∷ zs) (take-past m xs ys)

drop-past : {X : Type 0} (m : ℕ) (xs ys : List X) → drop (length xs + m) (xs ++ ys) ≡ drop m ys
drop-past m [] ys = let z : zero + m ≡ m = omega arith in ap (λ k. drop k ys) z
drop-past m (x ∷ xs) ys = let z : suc (length xs) + m ≡ suc (length xs + m) = omega arith in
    ap (λ k. drop k (x ∷ xs ++ ys)) z ∙ drop-past m xs ys

-- what a segment that is told its places makes of a state
segment-matches : (s : State) (b : Browser) (id : ℤ) (st : Stand) (place : ℕ) (before : List BrowserWindow)
    (own : BrowserWindow) (after : List BrowserWindow) (pre seg new post : List BrowserTab) → IsRunning s → Matches s b
    → stand_of id b ≡ Some st
    → b.windows ≡ before ++ own ∷ after → own.tabs ≡ pre ++ (seg ++ post) → length seg ≡ length new
    → ((q w : ℤ) (n : ℕ) → AtMostOne (under q (rows_from w n seg))
    → map unplaced (under q (rows_from w n seg)) ≡ map unplaced (under q (rows_from w n new)))
    → put_in st.window place st.tab (taken_out (stand_key st) b.windows) ≡ before
    ++ with_tabs (λ ts. pre ++ (new ++ post)) own ∷ after
    → Matches (fold s (places (length pre) new)) (moved_tab st st.window place b)
segment-matches s b id st place before own after pre seg new post r m found is tabs long alike effect =
    let n = length pre in
    let one = at-most-one s b r m in
    let at : (q : ℤ) → under q (map (renumber n new) (rows b.windows))
    ≡ under q (rows (put_in st.window place st.tab (taken_out (stand_key st) b.windows))) = λ q.
    ap (λ ws. under q (map (renumber n new) (rows ws))) is
    ∙ reordered before own after pre seg new post tabs long q (subst (λ ws. AtMostOne (under q (rows ws))) is (one q))
    (alike q own.info.id n)
    ∙ ap (λ ws. under q (rows ws)) (sym effect) in
    let has : ℤ → Type 0 = λ q. has_tab q s ≡ true in
    let have : AllHave has new = all-have has new
    (λ q some. stands-under q s.tabs (λ none. some
    (absent q (sym (at q) ∙ only-map int_cmp tab_key (renumber n new) (renumber-key n new) q (rows b.windows)
    ∙ ap (map (renumber n new)) (sym (m.tabs q) ∙ none))))) in
    let turns = turns-places has (λ q. ⊥) n new have in
    let run = turns.to s r (λ q h. h) (λ q no. absurd no) in
    subst (λ z. Matches z (moved_tab st st.window place b)) (sym run) (record {
      tabs = λ q.
          only-map int_cmp tab_key (renumber n new) (renumber-key n new) q s.tabs ∙ ap (map (renumber n new)) (m.tabs q)
          ∙ sym (only-map int_cmp tab_key (renumber n new) (renumber-key n new) q (rows b.windows)) ∙ at q;
      windows = m.windows ∙ sym (same-windows (filter (is_other (stand_key st))) b.windows)
          ∙ sym (same-put st.window (with_tabs (put_at place st.tab)) (λ w. refl) (taken_out (stand_key st) b.windows));
      active = m.active;
      groups = each-in (HasGroup b.groups s.groups) st.window place st.tab (taken_out (stand_key st) b.windows)
          (of-found (HasGroup b.groups s.groups) s b id st r m found m.groups)
          (each-taken (HasGroup b.groups s.groups) (stand_key st) b.windows m.groups);
      at_page = each-in IsAtPage st.window place st.tab (taken_out (stand_key st) b.windows)
          (of-found IsAtPage s b id st r m found m.at_page) (each-taken IsAtPage (stand_key st) b.windows m.at_page);
    })
  where
    absent : (q : ℤ) → under q (rows (put_in st.window place st.tab (taken_out (stand_key st) b.windows))) ≡ []
        → only int_cmp own_id q new ≡ []
    absent q none =
        let w = own.info.id in
        let n = length pre in
        let none' : under q (front before own pre
        ++ (rows_from w n new ++ (rows_from w (n + length new) post ++ rows after))) ≡ [] =
        ap (under q) (sym (whole-rows before own after pre seg new post tabs long new))
        ∙ ap (λ ws. under q (rows ws)) (sym effect) ∙ none in
        let back = empty-both (under q (front before own pre))
        (under q (rows_from w n new ++ (rows_from w (n + length new) post ++ rows after)))
        (sym (under-append q (front before own pre)
        (rows_from w n new ++ (rows_from w (n + length new) post ++ rows after))) ∙ none') in
        let mid = empty-both (under q (rows_from w n new)) (under q (rows_from w (n + length new) post ++ rows after))
        (sym (under-append q (rows_from w n new) (rows_from w (n + length new) post ++ rows after)) ∙ back.1) in
        none-under q w n new mid.0

pub move-within-matches : (s : State) (b : Browser) (id : ℤ) (st : Stand) (place : ℕ) → IsRunning s → Matches s b
    → stand_of id b ≡ Some st → place ≤ length (others_of st st.window b.windows)
    → Matches (fold s (move_within st place b)) (moved_tab st st.window place b)
move-within-matches s b id st place r m found room =
    let p = split id b.windows st (one-stand s b id st r m found) in
    let sorted = in-order s b r m in
    let key_is : id ≡ stand_key st = p.tab.key in
    let n_is : st.place ≡ length p.tab.pre = let e = p.tab.place in omega (arith, e) in
    let left_is : taken_out (stand_key st) b.windows ≡ p.before
    ++ with_tabs (λ ts. p.tab.pre ++ p.tab.post) p.own ∷ p.after = ap (λ j. taken_out j b.windows) (sym key_is)
    ∙ taken-split id b.windows st p in
    let sorted' : InOrder (p.before ++ with_tabs (λ ts. p.tab.pre ++ p.tab.post) p.own ∷ p.after) =
    subst InOrder left_is (in-order-taken (stand_key st) b.windows sorted) in
    let others : others_of st st.window b.windows ≡ p.tab.pre ++ p.tab.post =
    ap (tabs_of st.window) left_is ∙ ap (λ w. tabs_of w
    (p.before ++ with_tabs (λ ts. p.tab.pre ++ p.tab.post) p.own ∷ p.after)) p.tab.window_is
    ∙ ap tabs_or_none (find-own p.before (with_tabs (λ ts. p.tab.pre ++ p.tab.post) p.own) p.after sorted') in
    let effect : put_in st.window place st.tab (taken_out (stand_key st) b.windows) ≡ p.before
    ++ with_tabs (λ ts. put_at place st.tab (p.tab.pre ++ p.tab.post)) p.own ∷ p.after =
    ap (put_in st.window place st.tab) left_is
    ∙ ap (λ w. put_in w place st.tab (p.before ++ with_tabs (λ ts. p.tab.pre ++ p.tab.post) p.own ∷ p.after))
    p.tab.window_is
    ∙ change-own (with_tabs (put_at place st.tab)) p.before (with_tabs (λ ts. p.tab.pre ++ p.tab.post) p.own) p.after
    sorted' in
    by p n_is others effect (subst (λ ts. place ≤ length ts) others room) (nat_lt st.place place) refl
  where
    by : (p : Split id b.windows st) → st.place ≡ length p.tab.pre
        → others_of st st.window b.windows ≡ p.tab.pre ++ p.tab.post
        → put_in st.window place st.tab (taken_out (stand_key st) b.windows) ≡ p.before
        ++ with_tabs (λ ts. put_at place st.tab (p.tab.pre ++ p.tab.post)) p.own ∷ p.after
        → place ≤ length (p.tab.pre ++ p.tab.post)
        → (right : Bool) → nat_lt st.place place ≡ right
        → Matches (fold s (move_within st place b)) (moved_tab st st.window place b)
    by p n_is others effect room true e =
        let pre = p.tab.pre in
        let post = p.tab.post in
        let n = length pre in
        let t = st.tab in
        let less : st.place < place = grind (arith, nat_tests) in
        let k = place - st.place in
        let mid = take k post in
        let tail = drop k post in
        let place_is : place ≡ n + k = omega (arith, n_is, less) in
        let all_long = length-append pre post in
        let short : k ≤ length post = omega (arith, place_is, room, all_long) in
        let mid_long : length mid ≡ k = simp length-take (omega (arith, short)) in
        let post_is : post ≡ mid ++ tail = sym (take-append-drop k post) in
        let put : put_at place t (pre ++ post) ≡ pre ++ ((mid ++ t ∷ []) ++ tail) =
        ap (λ j. put_at j t (pre ++ post)) place_is
        ∙ rw (take-past k pre post, drop-past k pre post) refl
        ∙ append_assoc pre mid (t ∷ tail) ∙ ap (λ xs. pre ++ xs) (sym (append_assoc mid (t ∷ []) tail)) in
        let new_long : length (mid ++ t ∷ []) ≡ suc k = length-append mid (t ∷ [])
        ∙ (let z : length mid + 1 ≡ suc k = omega (arith, mid_long) in z) in
        let commands : move_within st place b ≡ places n (mid ++ t ∷ []) =
        rw e (ap (λ ts. places st.place (take (suc k) (drop st.place (put_at place t ts)))) others
        ∙ ap (λ ts. places st.place (take (suc k) (drop st.place ts))) put
        ∙ ap (λ j. places j (take (suc k) (drop j (pre ++ ((mid ++ t ∷ []) ++ tail))))) n_is
        ∙ ap (λ ts. places n (take (suc k) ts)) (let z : n ≡ n + zero = omega arith in
        ap (λ j. drop j (pre ++ ((mid ++ t ∷ []) ++ tail))) z ∙ drop-past zero pre ((mid ++ t ∷ []) ++ tail))
        ∙ ap (λ j. places n (take j ((mid ++ t ∷ []) ++ tail)))
        (sym new_long ∙ (let z : length (mid ++ t ∷ []) ≡ length (mid ++ t ∷ []) + zero = omega arith in z))
        ∙ ap (places n) (take-past zero (mid ++ t ∷ []) tail ∙ append-nil (mid ++ t ∷ []))) in
        subst (λ cs. Matches (fold s cs) (moved_tab st st.window place b)) (sym commands)
        (segment-matches s b id st place p.before p.own p.after pre (t ∷ mid) (mid ++ t ∷ []) tail r m found p.is
        (p.tab.is ∙ ap (λ ts. pre ++ t ∷ ts) post_is) (ap suc mid_long ∙ sym new_long)
        (λ q w j one. to-last q w j t mid one)
        (effect ∙ ap (λ ts. p.before ++ with_tabs (λ us. ts) p.own ∷ p.after) put))
    by p n_is others effect room false e =
        let pre0 = p.tab.pre in
        let post = p.tab.post in
        let t = st.tab in
        let least : place ≤ st.place = grind (arith, nat_tests) in
        let short : place ≤ length pre0 = omega (arith, least, n_is) in
        let pre = take place pre0 in
        let mid = drop place pre0 in
        let pre_long : length pre ≡ place = simp length-take (omega (arith, short)) in
        let mid_long : length mid ≡ length pre0 - place = length-drop place pre0 in
        let pre_is : pre0 ≡ pre ++ mid = sym (take-append-drop place pre0) in
        let k = st.place - place in
        let put : put_at place t (pre0 ++ post) ≡ pre ++ ((t ∷ mid) ++ post) =
        rw (take-append-le place pre0 post short, drop-append-le place pre0 post short) refl in
        let seg_long : length (mid ++ t ∷ []) ≡ length (t ∷ mid) = length-append mid (t ∷ [])
        ∙ (let z : length mid + 1 ≡ suc (length mid) = omega arith in z) in
        let new_long : length (t ∷ mid) ≡ suc k = omega (arith, mid_long, n_is, least) in
        let commands : move_within st place b ≡ places (length pre) (t ∷ mid) =
        rw e (ap (λ ts. places place (take (suc k) (drop place (put_at place t ts)))) others
        ∙ ap (λ ts. places place (take (suc k) (drop place ts))) put
        ∙ ap (λ j. places j (take (suc k) (drop j (pre ++ ((t ∷ mid) ++ post))))) (sym pre_long)
        ∙ ap (λ ts. places (length pre) (take (suc k) ts))
        (let z : length pre ≡ length pre + zero = omega arith in ap (λ j. drop j (pre ++ ((t ∷ mid) ++ post))) z
        ∙ drop-past zero pre ((t ∷ mid) ++ post))
        ∙ ap (λ j. places (length pre) (take j ((t ∷ mid) ++ post)))
        (sym new_long ∙ (let z : length (t ∷ mid) ≡ length (t ∷ mid) + zero = omega arith in z))
        ∙ ap (places (length pre)) (take-past zero (t ∷ mid) post ∙ append-nil (t ∷ mid))) in
        subst (λ cs. Matches (fold s cs) (moved_tab st st.window place b)) (sym commands)
        (segment-matches s b id st place p.before p.own p.after pre (mid ++ t ∷ []) (t ∷ mid) post r m found p.is
        (p.tab.is ∙ ap (λ ts. ts ++ t ∷ post) pre_is ∙ append_assoc pre mid (t ∷ post)
        ∙ ap (λ ts. pre ++ ts) (sym (append_assoc mid (t ∷ []) post))) seg_long
        (λ q w j one. to-first q w j t mid one)
        (effect ∙ ap (λ ts. p.before ++ with_tabs (λ us. ts) p.own ∷ p.after) put))
