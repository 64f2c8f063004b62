-- Rows and pairs put in behind all others, a row changed at the end of its list, and one made where it stands.
use Rattle.std.proofs.Common.{◌≡◌, ℕ, is_some, true, false, List, [], ◌∷◌, ◌++◌, map, refl, sym, ap, subst}
use Rattle.std.specs.declared.cmp.Ordering.{Ordering}
use Rattle.std.specs.declared.cmp.Ordering.TheVariants.{Less, Equal, Greater}
use Rattle.std.specs.List.{AllByRecursion}
use Rattle.std.specs.List.Sorted.{IsStrictlySortedBy}
use Rattle.std.specs.Cmp.{IsTotalOrder}
use Rattle.std.proofs.lemmas.Map.Keys.{sorted_head, sorted_tail}
use Rattle.window_state.specs.Changes.{set_pair}
use Rattle.window_state.specs.Fits.{HasDistinctKeys}
use Rattle.window_state.specs.RowLists.{find_row, put_row, step_row}
use Rattle.window_state.proofs.ExtraLaws.{insert-next}

module _ {K R : Type 0} (cmp : K → K → Ordering) (key : R → K) where
  -- a key behind those of all rows
  abbrev pub IsBehind : K → List R → Type 0
  IsBehind k rows = AllByRecursion (λ r. cmp k (key r) ≡ Greater) rows

  pub behind-sorted : ((x y : K) → cmp x y ≡ Less → cmp y x ≡ Greater) → (done rest : List R) (row : R) → IsStrictlySortedBy cmp (map key (done ++ row ∷ rest)) → IsBehind (key row) done
  behind-sorted flips [] rest row sorted = tt
  behind-sorted flips (d ∷ ds) rest row sorted =
      (flips (key d) (key row) (less ds (sorted_head cmp (key d) (map key (ds ++ row ∷ rest)) sorted)), behind-sorted flips ds rest row (sorted_tail cmp (key d) (map key (ds ++ row ∷ rest)) sorted))
    where
      less : (fs : List R) → AllByRecursion (λ y. cmp (key d) y ≡ Less) (map key (fs ++ row ∷ rest)) → cmp (key d) (key row) ≡ Less
      less [] all = all.0
      less (f ∷ fs) all = less fs all.1

  pub put-behind : (row : R) (done : List R) → IsBehind (key row) done → put_row cmp key row done ≡ done ++ row ∷ []
  put-behind row [] behind = refl
  put-behind row (d ∷ ds) behind = rw behind.0 (ap (λ rs. d ∷ rs) (put-behind row ds behind.1))

  pub step-behind : (k : K) (fresh : R) (change : R → R) (done : List R) → IsBehind k done → step_row cmp key k fresh change done ≡ done ++ change fresh ∷ []
  step-behind k fresh change [] behind = refl
  step-behind k fresh change (d ∷ ds) behind = rw behind.0 (ap (λ rs. d ∷ rs) (step-behind k fresh change ds behind.1))

  pub step-last : (k : K) (fresh : R) (change : R → R) (done : List R) (row : R) → IsBehind k done → cmp k (key row) ≡ Equal → step_row cmp key k fresh change (done ++ row ∷ []) ≡ done ++ change row ∷ []
  step-last k fresh change [] row behind same = rw same refl
  step-last k fresh change (d ∷ ds) row behind same = rw behind.0 (ap (λ rs. d ∷ rs) (step-last k fresh change ds row behind.1 same))

  -- a row that stands is left
  pub step-standing : IsTotalOrder cmp → (k : K) (fresh : R) (rows : List R) → IsStrictlySortedBy cmp (map key rows) → is_some (find_row cmp key k rows) ≡ true → step_row cmp key k fresh (λ row. row) rows ≡ rows
  step-standing total k fresh [] sorted found = absurd cc
  step-standing total k fresh (r ∷ rs) sorted found = by (λ later. step-standing total k fresh rs (sorted_tail cmp (key r) (map key rs) sorted) later) (cmp k (key r)) refl
    where
      none : (rows : List R) → AllByRecursion (λ y. cmp (key r) y ≡ Less) (map key rows) → cmp k (key r) ≡ Less → is_some (find_row cmp key k rows) ≡ false
      none [] all before = refl
      none (q ∷ qs) all before = rw (total.trans k (key r) (key q) before all.0) (none qs all.1 before)

      by : (is_some (find_row cmp key k rs) ≡ true → step_row cmp key k fresh (λ row. row) rs ≡ rs) → (o : Ordering) → cmp k (key r) ≡ o → step_row cmp key k fresh (λ row. row) (r ∷ rs) ≡ r ∷ rs
      by rest Less is =
          let found' = rw is at found in
          let no = none rs (sorted_head cmp (key r) (map key rs) sorted) is in
          absurd cc
      by rest Equal is = rw is refl
      by rest Greater is = rw is (ap (λ rs'. r ∷ rs') (rest (rw is at found)))

-- pairs under keys that differ
pub set-pair-behind : (extra done rest : List (List ℕ × List ℕ)) (pair : List ℕ × List ℕ) → HasDistinctKeys extra → done ++ pair ∷ rest ≡ extra → set_pair pair.0 pair.1 done ≡ done ++ pair ∷ []
set-pair-behind extra done rest pair distinct whole = insert-next done rest pair.0 pair.1 (subst HasDistinctKeys (sym whole) distinct)
