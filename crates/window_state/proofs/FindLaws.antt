-- Which row a key finds after a step and after a removal, where the rows are in order.
use Rattle.std.proofs.Common.{◌≡◌, ◌≢◌, Bool, true, false, cond, if◌then◌else◌, List, [], ◌∷◌, map, filter, Some, None, IfSome, refl, sym, ap, subst, ◌∙◌}
use Rattle.std.specs.declared.cmp.Ordering.{Ordering}
use Rattle.std.specs.declared.cmp.Ordering.TheVariants.{Less, Equal, Greater}
use Rattle.std.specs.Ordering.{is_eq}
use Rattle.std.specs.Option.{unwrap_or}
use Rattle.std.specs.List.{AllByRecursion}
use Rattle.std.specs.List.Sorted.{IsStrictlySortedBy}
use Rattle.std.specs.Cmp.{IsTotalOrder}
use Rattle.std.proofs.lemmas.Map.Keys.{sorted_head, sorted_tail}
use Rattle.window_state.specs.RowLists.{find_row, step_row, without_row}

pub is_equal : (o : Ordering) → is_eq o ≡ true → o ≡ Equal
is_equal Less e = absurd cc
is_equal Equal e = refl
is_equal Greater e = absurd cc

module _ {K R : Type 0} (cmp : K → K → Ordering) (key : R → K) (total : IsTotalOrder cmp) (exact : (x y : K) → cmp x y ≡ Equal → x ≡ y) where
  -- a key before all others, or before the first, finds no row
  find-before : (k : K) (rows : List R) → AllByRecursion (λ y. cmp k y ≡ Less) (map key rows) → find_row cmp key k rows ≡ None
  find-before k [] all = refl
  find-before k (r ∷ rs) all = rw all.0 (find-before k rs all.1)

  find-less : (k : K) (r : R) (rs : List R) → IsStrictlySortedBy cmp (map key (r ∷ rs)) → cmp k (key r) ≡ Less → find_row cmp key k (r ∷ rs) ≡ None
  find-less k r rs sorted less = find-before k (r ∷ rs) (less, after rs (sorted_head cmp (key r) (map key rs) sorted))
    where
      after : (rs : List R) → AllByRecursion (λ y. cmp (key r) y ≡ Less) (map key rs) → AllByRecursion (λ y. cmp k y ≡ Less) (map key rs)
      after [] all = tt
      after (s ∷ ss) all = (total.trans k (key r) (key s) less all.0, after ss all.1)

  -- the first row's key finds no other row
  pub find-first : (r : R) (rs : List R) → IsStrictlySortedBy cmp (map key (r ∷ rs))
      → find_row cmp key (key r) rs ≡ None
  find-first r rs sorted = find-before (key r) rs (sorted_head cmp (key r) (map key rs) sorted)

  -- the row of a step
  pub find-step : (k : K) (fresh : R) (change : R → R) (rows : List R) → cmp k k ≡ Equal → key fresh ≡ k → ((r : R) → key (change r) ≡ key r) → IsStrictlySortedBy cmp (map key rows)
      → find_row cmp key k (step_row cmp key k fresh change rows) ≡ Some (change (unwrap_or (find_row cmp key k rows) fresh))
  find-step k fresh change [] itself own same sorted = rw (same fresh, own, itself) refl
  find-step k fresh change (r ∷ rs) itself own same sorted = by (find-step k fresh change rs itself own same (sorted_tail cmp (key r) (map key rs) sorted)) (cmp k (key r)) refl
    where
      by : find_row cmp key k (step_row cmp key k fresh change rs) ≡ Some (change (unwrap_or (find_row cmp key k rs) fresh)) → (o : Ordering) → cmp k (key r) ≡ o
          → find_row cmp key k (step_row cmp key k fresh change (r ∷ rs)) ≡ Some (change (unwrap_or (find_row cmp key k (r ∷ rs)) fresh))
      by rest Less is = rw (find-less k r rs sorted is, is, same fresh, own, itself) refl
      by rest Equal is = rw (is, same r, is) refl
      by rest Greater is = rw (is, is) rest

  -- a key beside that of a row, and of a fresh one
  differs : (q k : K) (r : R) → q ≢ k → cmp k (key r) ≡ Equal → is_eq (cmp q (key r)) ≡ false
  differs q k r apart is = by (is_eq (cmp q (key r))) refl
    where
      by : (b : Bool) → is_eq (cmp q (key r)) ≡ b → is_eq (cmp q (key r)) ≡ false
      by true same = absurd (apart (exact q (key r) (is_equal (cmp q (key r)) same) ∙ sym (exact k (key r) is)))
      by false other = other

  pub find-beside : (q k : K) (fresh : R) (change : R → R) (rows : List R) → q ≢ k → cmp k k ≡ Equal → key fresh ≡ k → ((r : R) → key (change r) ≡ key r) → find_row cmp key q (step_row cmp key k fresh change rows) ≡ find_row cmp key q rows
  find-beside q k fresh change [] apart itself own same = rw (same fresh, differs q k fresh apart (ap (cmp k) own ∙ itself)) refl
  find-beside q k fresh change (r ∷ rs) apart itself own same = by (find-beside q k fresh change rs apart itself own same) (cmp k (key r)) refl
    where
      by : find_row cmp key q (step_row cmp key k fresh change rs) ≡ find_row cmp key q rs → (o : Ordering) → cmp k (key r) ≡ o → find_row cmp key q (step_row cmp key k fresh change (r ∷ rs)) ≡ find_row cmp key q (r ∷ rs)
      by rest Less is = rw (is, same fresh, differs q k fresh apart (ap (cmp k) own ∙ itself)) refl
      by rest Equal is = rw (is, same r, differs q k r apart is) refl
      by rest Greater is = rw is (ap (λ found. if is_eq (cmp q (key r)) then Some r else found) rest)

  -- a row that goes is found no more, and another one still
  pub find-gone : (k : K) (rows : List R) → IsStrictlySortedBy cmp (map key rows) → find_row cmp key k (without_row cmp key k rows) ≡ None
  find-gone k [] sorted = refl
  find-gone k (r ∷ rs) sorted = by (find-gone k rs (sorted_tail cmp (key r) (map key rs) sorted)) (is_eq (cmp k (key r))) refl
    where
      by : find_row cmp key k (without_row cmp key k rs) ≡ None → (b : Bool) → is_eq (cmp k (key r)) ≡ b → find_row cmp key k (without_row cmp key k (r ∷ rs)) ≡ None
      by rest true is = rw is (subst (λ j. find_row cmp key j rs ≡ None) (sym (exact k (key r) (is_equal (cmp k (key r)) is))) (find-first r rs sorted))
      by rest false is = rw (is, is) rest

  pub find-kept : (q k : K) (rows : List R) → q ≢ k → find_row cmp key q (without_row cmp key k rows) ≡ find_row cmp key q rows
  find-kept q k [] apart = refl
  find-kept q k (r ∷ rs) apart = by (find-kept q k rs apart) (is_eq (cmp k (key r))) refl
    where
      by : find_row cmp key q (without_row cmp key k rs) ≡ find_row cmp key q rs → (b : Bool) → is_eq (cmp k (key r)) ≡ b → find_row cmp key q (without_row cmp key k (r ∷ rs)) ≡ find_row cmp key q (r ∷ rs)
      by rest true is = rw (is, differs q k r apart (is_equal (cmp k (key r)) is)) refl
      by rest false is = rw is (ap (λ found. if is_eq (cmp q (key r)) then Some r else found) rest)

  -- rows that pass a test, when one goes that doesn't pass, and when all pass that a key finds
  module _ (test : R → Bool) where
    pub filter-without : (k : K) (r : R) (rows : List R) → find_row cmp key k rows ≡ Some r → test r ≡ false → filter test (without_row cmp key k rows) ≡ filter test rows
    filter-without k r [] found fails = refl
    filter-without k r (s ∷ ss) found fails = by (λ later. filter-without k r ss later fails) (is_eq (cmp k (key s))) refl
      where
        by : (find_row cmp key k ss ≡ Some r → filter test (without_row cmp key k ss) ≡ filter test ss) → (b : Bool) → is_eq (cmp k (key s)) ≡ b → filter test (without_row cmp key k (s ∷ ss)) ≡ filter test (s ∷ ss)
        by rest true is =
            let found' : Some s ≡ Some r = rw is at found in
            let same : s ≡ r = cc in
            rw (is, ap test same ∙ fails) refl
        by rest false is = rw is (ap (λ kept. cond (test s) (s ∷ kept) kept) (rest (rw is at found)))

    pub filter-all : (rows : List R) → ((k : K) → cmp k k ≡ Equal) → IsStrictlySortedBy cmp (map key rows) → ((k : K) → IfSome (find_row cmp key k rows) (λ r. test r ≡ true)) → filter test rows ≡ rows
    filter-all [] itself sorted all = refl
    filter-all (r ∷ rs) itself sorted all =
        let first : test r ≡ true = rw (itself (key r)) at (all (key r)) in
        rw first (ap (λ kept. r ∷ kept) (filter-all rs itself (sorted_tail cmp (key r) (map key rs) sorted) (λ k. by k (is_eq (cmp k (key r))) refl)))
      where
        by : (k : K) → (b : Bool) → is_eq (cmp k (key r)) ≡ b → IfSome (find_row cmp key k rs) (λ r. test r ≡ true)
        by k true is = subst (λ j. IfSome (find_row cmp key j rs) (λ r. test r ≡ true)) (sym (exact k (key r) (is_equal (cmp k (key r)) is))) (rw (find-first r rs sorted) tt)
        by k false is = rw is at (all k)
