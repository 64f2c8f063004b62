-- Pairs of windows and tabs, and the tabs that they tell of, after each change of both.
use Rattle.std.proofs.Common.{◌≡◌, ◌≢◌, ℤ, Bool, true, false, not, ◌&&◌, ◌||◌, if◌then◌else◌, List, [], ◌∷◌, map}
use Rattle.std.proofs.Common.{filter, length, nat_le, Option, Some, None, IfSome, refl, sym, ap, subst, ◌∙◌, true≢false}
use Rattle.std.proofs.lemmas.Cmp.{int_eq_equiv}
use Rattle.std.proofs.lemmas.Map.Keys.{sorted_tail}
use Rattle.std.proofs.lemmas.Map.Lookups.{exact_signed}
use Rattle.std.specs.Cmp.{int_cmp_total}
use Rattle.std.specs.Ordering.{int_cmp, int_eq}
use Rattle.std.specs.Option.{unwrap_or}
use Rattle.std.specs.List.{list_any}
use Rattle.std.specs.List.Sorted.{IsStrictlySortedBy}
use Rattle.window_state.specs.declared.tab.Tab.{Tab}
use Rattle.window_state.specs.RowLists.{find_row, step_row, without_row}
use Rattle.window_state.specs.Keys.{tab_key, window_key}
use Rattle.window_state.specs.Changes.{new_tab, new_window}
use Rattle.window_state.specs.Fits.{IsKeptTab}
use Rattle.window_state.specs.Limits.{limit}
use Rattle.window_state.specs.States.{State, is_in, tab_closed, with_both, with_tab}
use Rattle.window_state.specs.Members.{has_pair, own_window, stands_in, window_of, AreMembers, IsHeld, LeavesWindow}
use Rattle.window_state.specs.Members.{SetsPair}
use Rattle.window_state.proofs.FindLaws.{find-first, find-step, find-beside, find-gone, find-kept, filter-all}
use Rattle.window_state.proofs.FindLaws.{filter-without}
use Rattle.window_state.proofs.PairLaws.{same_number}
use Rattle.window_state.proofs.StateLaws.{itself, kept-both, kept-tab, kept-tab_closed}

-- one tab's window is this one, and those of the others are as before
abbrev pub SetsWindow : ℤ → Option ℤ → List Tab → List Tab → Type 0
SetsWindow id own old new = (t : ℤ) → window_of t new ≡ (if int_eq id t then own else window_of t old)

other : (q k : ℤ) → int_eq k q ≡ false → q ≢ k
other q k apart same = let equal : int_eq k q ≡ true = rw (same, itself k) refl in true≢false (sym equal ∙ apart)

-- the window of each tab, after a step and after a removal
module _ (id : ℤ) (tabs : List Tab) (sorted : IsStrictlySortedBy int_cmp (map tab_key tabs)) where
  step-window : (change : Tab → Tab) → ((t : Tab) → tab_key (change t) ≡ tab_key t)
      → SetsWindow id (change (unwrap_or (find_row int_cmp tab_key id tabs) (new_tab id))).window tabs (step_row int_cmp tab_key id (new_tab id) change tabs)
  step-window change same t = by (int_eq id t) refl
    where
      by : (b : Bool) → int_eq id t ≡ b → window_of t (step_row int_cmp tab_key id (new_tab id) change tabs) ≡ (if int_eq id t then (change (unwrap_or (find_row int_cmp tab_key id tabs) (new_tab id))).window else window_of t tabs)
      by true is =
          let here = find-step int_cmp tab_key int_cmp_total exact_signed id (new_tab id) change tabs (itself id) refl same sorted in
          rw (is, ← same_number id t is) (ap own_window here)
      by false is = rw is (ap own_window (find-beside int_cmp tab_key int_cmp_total exact_signed t id (new_tab id) change tabs (other t id is) (itself id) refl same))

  pub placed-window : (window : ℤ) → SetsWindow id (Some window) tabs (step_row int_cmp tab_key id (new_tab id) (λ t. record t { window = Some window }) tabs)
  placed-window window = step-window (λ t. record t { window = Some window }) (λ t. refl)

  pub changed-window : (change : Tab → Tab) → ((t : Tab) → tab_key (change t) ≡ tab_key t) → ((t : Tab) → (change t).window ≡ t.window) → (t : ℤ) → window_of t (step_row int_cmp tab_key id (new_tab id) change tabs) ≡ window_of t tabs
  changed-window change same stays t = step-window change same t ∙ by (int_eq id t) refl
    where
      own : (o : Option Tab) → (change (unwrap_or o (new_tab id))).window ≡ own_window o
      own None = stays (new_tab id)
      own (Some t) = stays t

      by : (b : Bool) → int_eq id t ≡ b → (if int_eq id t then (change (unwrap_or (find_row int_cmp tab_key id tabs) (new_tab id))).window else window_of t tabs) ≡ window_of t tabs
      by true is = rw (is, ← same_number id t is) (own (find_row int_cmp tab_key id tabs))
      by false is = rw is refl

  pub closed-window : SetsWindow id None tabs (without_row int_cmp tab_key id tabs)
  closed-window t = by (int_eq id t) refl
    where
      by : (b : Bool) → int_eq id t ≡ b → window_of t (without_row int_cmp tab_key id tabs) ≡ (if int_eq id t then None else window_of t tabs)
      by true is = rw (is, ← same_number id t is) (ap own_window (find-gone int_cmp tab_key int_cmp_total exact_signed id tabs sorted))
      by false is = rw is (ap own_window (find-kept int_cmp tab_key int_cmp_total exact_signed t id tabs (other t id is)))

-- the tab with an id, among tabs in order
listed : (w t : ℤ) (tabs : List Tab) → IsStrictlySortedBy int_cmp (map tab_key tabs)
    → list_any (stands_in w t) tabs ≡ is_in w (window_of t tabs)
listed w t [] sorted = refl
listed w t (r ∷ rs) sorted =
    by (listed w t rs (sorted_tail int_cmp (tab_key r) (map tab_key rs) sorted)) (int_eq t (tab_key r)) refl
  where
    by : list_any (stands_in w t) rs ≡ is_in w (window_of t rs) → (b : Bool) → int_eq t (tab_key r) ≡ b
        → list_any (stands_in w t) (r ∷ rs) ≡ is_in w (window_of t (r ∷ rs))
    by rest true is =
        let none = find-first int_cmp tab_key int_cmp_total exact_signed r rs sorted in
        let gone : window_of t rs ≡ None =
        ap (λ k. window_of k rs) (same_number t (tab_key r) is) ∙ ap own_window none in
        let same : int_eq (tab_key r) t ≡ true = int_eq_equiv.symm (tab_key r) t ∙ is in
        rw (is, same, rest, gone)
        (elim (is_in w r.window) as (λ b. (b && true) || false ≡ b) [ true ↦ refl | false ↦ refl ])
    by rest false is =
        let apart : int_eq (tab_key r) t ≡ false = int_eq_equiv.symm (tab_key r) t ∙ is in
        rw (is, apart, rest)
        (elim (is_in w r.window) as (λ b. (b && false) || is_in w (window_of t rs) ≡ is_in w (window_of t rs))
        [ true ↦ refl | false ↦ refl ])

-- the pairs of all tabs, once none is left
pub listed-members : (pairs : List (ℤ × ℤ)) (left tabs : List Tab) → left ≡ []
    → IsStrictlySortedBy int_cmp (map tab_key tabs)
    → ((w t : ℤ) → has_pair w t pairs || list_any (stands_in w t) left ≡ list_any (stands_in w t) tabs)
    → AreMembers pairs tabs
listed-members pairs left tabs none sorted are w t =
    let all : has_pair w t pairs || false ≡ list_any (stands_in w t) tabs = rw none at (are w t) in
    elim (has_pair w t pairs) as (λ b. b ≡ b || false) [ true ↦ refl | false ↦ refl ] ∙ all ∙ listed w t tabs sorted

-- a tab that is changed in its window
pub changed-members : (pairs : List (ℤ × ℤ)) (old new : List Tab) → ((t : ℤ) → window_of t new ≡ window_of t old) → AreMembers pairs old → AreMembers pairs new
changed-members pairs old new same are w t = are w t ∙ ap (is_in w) (sym (same t))

-- what stands of the pairs beside a tab
beside : (a b : Bool) → ((if a && false then true else b) && true) ≡ b
beside true true = refl
beside true false = refl
beside false true = refl
beside false false = refl

alike : (w tab t : ℤ) (tabs : List Tab) → int_eq tab t ≡ true → is_in w (window_of tab tabs) ≡ is_in w (window_of t tabs)
alike w tab t tabs is = ap (λ u. is_in w (window_of u tabs)) (same_number tab t is)

-- a tab that is put into a window
pub placed-members : (window tab : ℤ) (pairs more left : List (ℤ × ℤ)) (old new : List Tab) → SetsPair window tab true pairs more → LeavesWindow tab (window_of tab old) (Some window) more left
    → SetsWindow tab (Some window) old new → AreMembers pairs old → AreMembers left new
placed-members window tab pairs more left old new put leave set are w t = rw (leave w t, put w t, are w t, set t) (by (int_eq tab t) refl)
  where
    here : (a b : Bool) → ((if a && true then true else b) && not (b && not a)) ≡ a
    here true true = refl
    here true false = refl
    here false true = refl
    here false false = refl

    by : (b : Bool) → int_eq tab t ≡ b → (if int_eq window w && int_eq tab t then true else is_in w (window_of t old)) && not (int_eq tab t && is_in w (window_of tab old) && not (int_eq window w)) ≡ is_in w (if int_eq tab t then Some window else window_of t old)
    by true is = rw (alike w tab t old is, is) (here (int_eq window w) (is_in w (window_of t old)))
    by false is = rw is (beside (int_eq window w) (is_in w (window_of t old)))

-- a pair that was put in for a tab which then finds no memory goes again
pub undone-members : (window tab : ℤ) (pairs more left : List (ℤ × ℤ)) (tabs : List Tab) → SetsPair window tab true pairs more → LeavesWindow tab (Some window) (window_of tab tabs) more left → AreMembers pairs tabs → AreMembers left tabs
undone-members window tab pairs more left tabs put leave are w t = rw (leave w t, put w t, are w t) (by (int_eq tab t) refl)
  where
    here : (a b : Bool) → ((if a && true then true else b) && not (a && not b)) ≡ b
    here true true = refl
    here true false = refl
    here false true = refl
    here false false = refl

    by : (b : Bool) → int_eq tab t ≡ b → (if int_eq window w && int_eq tab t then true else is_in w (window_of t tabs)) && not (int_eq tab t && int_eq window w && not (is_in w (window_of tab tabs))) ≡ is_in w (window_of t tabs)
    by true is = rw (alike w tab t tabs is, is) (here (int_eq window w) (is_in w (window_of t tabs)))
    by false is = rw is (beside (int_eq window w) (is_in w (window_of t tabs)))

-- a tab that is closed
pub closed-members : (tab : ℤ) (pairs left : List (ℤ × ℤ)) (old new : List Tab) → LeavesWindow tab (window_of tab old) None pairs left → SetsWindow tab None old new → AreMembers pairs old → AreMembers left new
closed-members tab pairs left old new leave set are w t = rw (leave w t, are w t, set t) (by (int_eq tab t) refl)
  where
    by : (b : Bool) → int_eq tab t ≡ b → is_in w (window_of t old) && not (int_eq tab t && is_in w (window_of tab old) && true) ≡ is_in w (if int_eq tab t then None else window_of t old)
    by true is = rw (alike w tab t old is, is) (elim (is_in w (window_of t old)) as (λ b. b && not (b && true) ≡ false) [ true ↦ refl | false ↦ refl ])
    by false is = rw is (elim (is_in w (window_of t old)) as (λ b. b && true ≡ b) [ true ↦ refl | false ↦ refl ])

-- one of the tabs of a window that is closed
elsewhere : (window w : ℤ) (own : Option ℤ) → is_in window own ≡ true → int_eq window w ≡ false → is_in w own ≡ false
elsewhere window w None here apart = refl
elsewhere window w (Some own) here apart = subst (λ o. int_eq o w ≡ false) (sym (same_number own window here)) apart

pub taken-members : (window tab : ℤ) (pairs left : List (ℤ × ℤ)) (old new : List Tab) → has_pair window tab pairs ≡ true → SetsPair window tab false pairs left → SetsWindow tab None old new → AreMembers pairs old → AreMembers left new
taken-members window tab pairs left old new had take set are w t = rw (take w t, are w t, set t) (by (int_eq tab t) refl (int_eq window w) refl)
  where
    by : (b : Bool) → int_eq tab t ≡ b → (a : Bool) → int_eq window w ≡ a → (if int_eq window w && int_eq tab t then false else is_in w (window_of t old)) ≡ is_in w (if int_eq tab t then None else window_of t old)
    by true is true here = rw (here, is) refl
    by true is false apart = rw (apart, is, ← same_number tab t is) (elsewhere window w (window_of tab old) (sym (are window tab) ∙ had) apart)
    by false is true here = rw (here, is) refl
    by false is false apart = rw (apart, is) refl

-- the tabs that stay, when one of the window goes, and when none of it is left
pub taken-tabs : (window tab : ℤ) (pairs : List (ℤ × ℤ)) (tabs : List Tab) → has_pair window tab pairs ≡ true → AreMembers pairs tabs
    → filter (λ t. not (is_in window t.window)) (without_row int_cmp tab_key tab tabs) ≡ filter (λ t. not (is_in window t.window)) tabs
taken-tabs window tab pairs tabs had are = by (find_row int_cmp tab_key tab tabs) refl
  where
    by : (o : Option Tab) → find_row int_cmp tab_key tab tabs ≡ o → filter (λ t. not (is_in window t.window)) (without_row int_cmp tab_key tab tabs) ≡ filter (λ t. not (is_in window t.window)) tabs
    by None found =
        let here : false ≡ true = rw found at (sym (are window tab) ∙ had) in
        absurd (true≢false (sym here))
    by (Some t) found =
        let here : is_in window t.window ≡ true = rw found at (sym (are window tab) ∙ had) in
        filter-without int_cmp tab_key int_cmp_total exact_signed (λ t. not (is_in window t.window)) tab t tabs found (ap not here)

pub left-tabs : (window : ℤ) (pairs : List (ℤ × ℤ)) (tabs : List Tab) → ((t : ℤ) → has_pair window t pairs ≡ false) → AreMembers pairs tabs → IsStrictlySortedBy int_cmp (map tab_key tabs)
    → filter (λ t. not (is_in window t.window)) tabs ≡ tabs
left-tabs window pairs tabs none are sorted = filter-all int_cmp tab_key int_cmp_total exact_signed (λ t. not (is_in window t.window)) tabs itself sorted (λ t. by t (find_row int_cmp tab_key t tabs) refl)
  where
    by : (t : ℤ) → (o : Option Tab) → find_row int_cmp tab_key t tabs ≡ o → IfSome o (λ t. not (is_in window t.window) ≡ true)
    by t None found = tt
    by t (Some tab) found =
        let here : is_in window tab.window ≡ false = rw found at (sym (are window t) ∙ none t) in
        ap not here

-- what a state and its pairs keep
pub held-changed : (id : ℤ) (change : Tab → Tab) (pairs : List (ℤ × ℤ)) (s : State) → ((t : Tab) → IsKeptTab t → IsKeptTab (change t)) → ((t : Tab) → (tab_key (change t) ≡ tab_key t) × ((change t).window ≡ t.window))
    → nat_le (length (step_row int_cmp tab_key id (new_tab id) change s.tabs)) limit ≡ true → IsStrictlySortedBy int_cmp (map tab_key s.tabs) → IsHeld pairs s → IsHeld pairs (with_tab id change s)
held-changed id change pairs s keeps stays room sorted h = record {
  kept = kept-tab id change s keeps (λ t. (stays t).1) room h.kept;
  members = changed-members pairs s.tabs (step_row int_cmp tab_key id (new_tab id) change s.tabs) (changed-window id s.tabs sorted change (λ t. (stays t).0) (λ t. (stays t).1)) h.members;
}

pub held-closed : (id : ℤ) (pairs left : List (ℤ × ℤ)) (s : State) → LeavesWindow id (window_of id s.tabs) None pairs left → IsStrictlySortedBy int_cmp (map tab_key s.tabs) → IsHeld pairs s → IsHeld left (tab_closed id s)
held-closed id pairs left s leave sorted h = record {
  kept = kept-tab_closed id s h.kept;
  members = closed-members id pairs left s.tabs (without_row int_cmp tab_key id s.tabs) leave (closed-window id s.tabs sorted) h.members;
}

pub held-placed : (window tab : ℤ) (pairs more left : List (ℤ × ℤ)) (s : State) → SetsPair window tab true pairs more → LeavesWindow tab (window_of tab s.tabs) (Some window) more left
    → nat_le (length (step_row int_cmp window_key window (new_window window) (λ w. w) s.windows)) limit ≡ true
    → nat_le (length (step_row int_cmp tab_key tab (new_tab tab) (λ t. record t { window = Some window }) s.tabs)) limit ≡ true
    → IsStrictlySortedBy int_cmp (map tab_key s.tabs) → IsHeld pairs s → IsHeld left (with_both window tab s)
held-placed window tab pairs more left s put leave room_window room_tab sorted h = record {
  kept = kept-both window tab s room_window room_tab h.kept;
  members = placed-members window tab pairs more left s.tabs (step_row int_cmp tab_key tab (new_tab tab) (λ t. record t { window = Some window }) s.tabs) put leave (placed-window tab s.tabs sorted window) h.members;
}

pub held-undone : (window tab : ℤ) (pairs more left : List (ℤ × ℤ)) (s : State) → SetsPair window tab true pairs more → LeavesWindow tab (Some window) (window_of tab s.tabs) more left → IsHeld pairs s → IsHeld left s
held-undone window tab pairs more left s put leave h = record { kept = h.kept; members = undone-members window tab pairs more left s.tabs put leave h.members }
