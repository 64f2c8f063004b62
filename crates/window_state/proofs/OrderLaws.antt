-- Rows in order stay so when a row is made or changed, when one goes, and where only some of them stay.
use Rattle.std.proofs.Common.{◌≡◌, Bool, true, false, cond, List, [], ◌∷◌, map, filter, refl, ap, ◌∙◌}
use Rattle.std.specs.declared.cmp.Ordering.{Ordering}
use Rattle.std.specs.declared.cmp.Ordering.TheVariants.{Less, Equal, Greater}
use Rattle.std.specs.Ordering.{is_eq}
use Rattle.std.specs.List.{AllByRecursion}
use Rattle.std.specs.List.Sorted.{IsStrictlySortedBy}
use Rattle.std.specs.Cmp.{IsTotalOrder}
use Rattle.tab_pages.proofs.RangeLaws.{all-filter}
use Rattle.window_state.specs.RowLists.{step_row, without_row}
use Rattle.window_state.proofs.RowLaws.{all-without}

module _ {K R : Type 0} (cmp : K → K → Ordering) (key : R → K) where
  all-keys : (P : K → Type 0) (rows : List R) → AllByRecursion P (map key rows) → AllByRecursion (λ r. P (key r)) rows
  all-keys P [] all = tt
  all-keys P (r ∷ rs) all = (all.0, all-keys P rs all.1)

  keys-all : (P : K → Type 0) (rows : List R) → AllByRecursion (λ r. P (key r)) rows → AllByRecursion P (map key rows)
  keys-all P [] all = tt
  keys-all P (r ∷ rs) all = (all.0, keys-all P rs all.1)

  pub sorted-without : (k : K) (rows : List R) → IsStrictlySortedBy cmp (map key rows)
      → IsStrictlySortedBy cmp (map key (without_row cmp key k rows))
  unfolding IsStrictlySortedBy
  sorted-without k [] sorted = tt
  sorted-without k (r ∷ rs) sorted =
      let rest = sorted-without k rs sorted.1 in
      let above = keys-all (λ y. cmp (key r) y ≡ Less) (without_row cmp key k rs)
      (all-without cmp key (λ s. cmp (key r) (key s) ≡ Less) k rs
      (all-keys (λ y. cmp (key r) y ≡ Less) rs sorted.0)) in
      elim (is_eq (cmp k (key r))) as
      (λ b. IsStrictlySortedBy cmp (map key (cond b rs (r ∷ without_row cmp key k rs))))
      [ true ↦ sorted.1 | false ↦ (above, rest) ]

  pub sorted-filter : (test : R → Bool) (rows : List R) → IsStrictlySortedBy cmp (map key rows)
      → IsStrictlySortedBy cmp (map key (filter test rows))
  unfolding IsStrictlySortedBy
  sorted-filter test [] sorted = tt
  sorted-filter test (r ∷ rs) sorted =
      let rest = sorted-filter test rs sorted.1 in
      let above = keys-all (λ y. cmp (key r) y ≡ Less) (filter test rs)
      (all-filter (λ s. cmp (key r) (key s) ≡ Less) test rs
      (all-keys (λ y. cmp (key r) y ≡ Less) rs sorted.0)) in
      elim (test r) as (λ b. IsStrictlySortedBy cmp (map key (cond b (r ∷ filter test rs) (filter test rs))))
      [ true ↦ (above, rest) | false ↦ rest ]

  module _ (total : IsTotalOrder cmp) where
    pub sorted-step : (k : K) (fresh : R) (change : R → R) (rows : List R) → key (change fresh) ≡ k
        → ((r : R) → key (change r) ≡ key r) → IsStrictlySortedBy cmp (map key rows)
        → IsStrictlySortedBy cmp (map key (step_row cmp key k fresh change rows))
    unfolding IsStrictlySortedBy
    sorted-step k fresh change [] own same sorted = (tt, tt)
    sorted-step k fresh change (r ∷ rs) own same sorted =
        by (sorted-step k fresh change rs own same sorted.1) (cmp k (key r)) refl
      where
        below : (z : K) (xs : List R) → cmp z k ≡ Less → AllByRecursion (λ y. cmp z y ≡ Less) (map key xs)
            → AllByRecursion (λ y. cmp z y ≡ Less) (map key (step_row cmp key k fresh change xs))
        below z [] less all = (ap (cmp z) own ∙ less, tt)
        below z (x ∷ xs) less all = by (below z xs less all.1) (cmp k (key x)) refl
          where
            by : AllByRecursion (λ y. cmp z y ≡ Less) (map key (step_row cmp key k fresh change xs)) → (o : Ordering)
                → cmp k (key x) ≡ o → AllByRecursion (λ y. cmp z y ≡ Less)
                (map key (step_row cmp key k fresh change (x ∷ xs)))
            by rest Less e = rw e (ap (cmp z) own ∙ less, all)
            by rest Equal e = rw e (ap (cmp z) (same x) ∙ all.0, all.1)
            by rest Greater e = rw e (all.0, rest)

        above : (xs : List R) → cmp k (key r) ≡ Less → AllByRecursion (λ y. cmp (key r) y ≡ Less) (map key xs)
            → AllByRecursion (λ y. cmp (key (change fresh)) y ≡ Less) (map key xs)
        above [] less all = tt
        above (x ∷ xs) less all = (
          ap (λ j. cmp j (key x)) own
              ∙ total.trans k (key r) (key x) less all.0,
          above xs less all.1,
        )

        moved : (xs : List R) → AllByRecursion (λ y. cmp (key r) y ≡ Less) (map key xs)
            → AllByRecursion (λ y. cmp (key (change r)) y ≡ Less) (map key xs)
        moved [] all = tt
        moved (x ∷ xs) all = (ap (λ j. cmp j (key x)) (same r) ∙ all.0, moved xs all.1)

        by : IsStrictlySortedBy cmp (map key (step_row cmp key k fresh change rs)) → (o : Ordering) → cmp k (key r) ≡ o
            → IsStrictlySortedBy cmp (map key (step_row cmp key k fresh change (r ∷ rs)))
        by rest Less e = rw e ((ap (λ j. cmp j (key r)) own ∙ e, above rs e sorted.0), sorted)
        by rest Equal e = rw e (moved rs sorted.0, sorted.1)
        by rest Greater e =
            let less : cmp (key r) k ≡ Less = total.antisymm (key r) k ∙ rw e refl in
            rw e (below (key r) rs less sorted.0, rest)
