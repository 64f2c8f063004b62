-- Pairs under keys that differ, when one of them is set and when they are copied one after another.
use Rattle.std.proofs.Common.{◌≡◌, ℕ, nat_eq, Bool, true, false, List, [], ◌∷◌, ◌++◌, refl, sym, ap, subst, ◌∙◌, append_assoc, arith}
use Rattle.std.proofs.lemmas.Bool.Decides.{nat_tests}
use Rattle.std.specs.List.{AllByRecursion, IsDistinct}
use Rattle.std.specs.Map.{keys_of}
use Rattle.std.specs.Cmp.Lexicographic.{pointwise, nat_list_eq_equiv}
use Rattle.std.proofs.lemmas.Map.Keys.{IsDistinct-head, IsDistinct-tail, IsDistinct-cons}
use Rattle.indexmap.specs.IndexMap.{insert_entry}
use Rattle.window_state.specs.Fits.{FitsPair, HasDistinctKeys}
use Rattle.window_state.specs.Changes.{set_pair}

same_key : (a b : List ℕ) → pointwise nat_eq a b ≡ true → a ≡ b
same_key [] [] e = refl
same_key [] (y ∷ ys) e = absurd cc
same_key (x ∷ xs) [] e = absurd cc
same_key (x ∷ xs) (y ∷ ys) e = grind (arith, nat_tests, same_key xs ys)

-- pairs fit when one more does
pub fits-set : (key value : List ℕ) (extra : List (List ℕ × List ℕ)) → FitsPair (key, value) → AllByRecursion FitsPair extra → AllByRecursion FitsPair (set_pair key value extra)
fits-set key value [] fits all = (fits, tt)
fits-set key value (e ∷ es) fits all = by (fits-set key value es fits all.1) (pointwise nat_eq key e.0) refl
  where
    by : AllByRecursion FitsPair (set_pair key value es) → (b : Bool) → pointwise nat_eq key e.0 ≡ b → AllByRecursion FitsPair (set_pair key value (e ∷ es))
    by rest true is = rw is (subst (λ k. FitsPair (k, value)) (same_key key e.0 is) fits, all.1)
    by rest false is = rw is (all.0, rest)

-- keys differ still when one is set
keys-set : (P : List ℕ → Type 0) (key value : List ℕ) (extra : List (List ℕ × List ℕ)) → P key → AllByRecursion P (keys_of extra) → AllByRecursion P (keys_of (set_pair key value extra))
keys-set P key value [] new all = (new, tt)
keys-set P key value (e ∷ es) new all = by (keys-set P key value es new all.1) (pointwise nat_eq key e.0) refl
  where
    by : AllByRecursion P (keys_of (set_pair key value es)) → (b : Bool) → pointwise nat_eq key e.0 ≡ b → AllByRecursion P (keys_of (set_pair key value (e ∷ es)))
    by rest true is = rw is all
    by rest false is = rw is (all.0, rest)

pub distinct-none : HasDistinctKeys []
unfolding IsDistinct
distinct-none = tt

pub distinct-set : (key value : List ℕ) (extra : List (List ℕ × List ℕ)) → HasDistinctKeys extra → HasDistinctKeys (set_pair key value extra)
distinct-set key value [] d = IsDistinct-cons (pointwise nat_eq) key [] tt d
distinct-set key value (e ∷ es) d = by (distinct-set key value es (IsDistinct-tail (pointwise nat_eq) e.0 (keys_of es) d)) (pointwise nat_eq key e.0) refl
  where
    by : HasDistinctKeys (set_pair key value es) → (b : Bool) → pointwise nat_eq key e.0 ≡ b → HasDistinctKeys (set_pair key value (e ∷ es))
    by rest true is = rw is d
    by rest false is =
        let apart = nat_list_eq_equiv.symm e.0 key ∙ is in
        rw is (IsDistinct-cons (pointwise nat_eq) e.0 (keys_of (set_pair key value es))
        (keys-set (λ y. pointwise nat_eq e.0 y ≡ false) key value es apart (IsDistinct-head (pointwise nat_eq) e.0 (keys_of es) d)) rest)

here : {K V : Type 0} (P : K → Type 0) (es rest : List (K × V)) (k : K) (v : V) → AllByRecursion P (keys_of (es ++ (k, v) ∷ rest)) → P k
here P [] rest k v all = all.0
here P (e ∷ es) rest k v all = here P es rest k v all.1

-- a key that stands behind others is new to them
pub insert-next : (es rest : List (List ℕ × List ℕ)) (k v : List ℕ) → IsDistinct (pointwise nat_eq) (keys_of (es ++ (k, v) ∷ rest)) → insert_entry (pointwise nat_eq) es k v ≡ es ++ (k, v) ∷ []
insert-next [] rest k v d = refl
insert-next (e ∷ es) rest k v d =
    let apart = here (λ y. pointwise nat_eq e.0 y ≡ false) es rest k v (IsDistinct-head (pointwise nat_eq) e.0 (keys_of (es ++ (k, v) ∷ rest)) d) in
    let new : pointwise nat_eq k e.0 ≡ false = nat_list_eq_equiv.symm k e.0 ∙ apart in
    rw new (ap (λ es'. e ∷ es') (insert-next es rest k v (IsDistinct-tail (pointwise nat_eq) e.0 (keys_of (es ++ (k, v) ∷ rest)) d)))

-- a pair copied behind those before it
pub copied-next : (es left rest all new : List (List ℕ × List ℕ)) (k v k' v' : List ℕ) → es ++ left ≡ all → left ≡ (k, v) ∷ rest → IsDistinct (pointwise nat_eq) (keys_of all)
    → k' ≡ k → v' ≡ v → new ≡ insert_entry (pointwise nat_eq) es k' v' → new ++ rest ≡ all
copied-next es left rest all new k v k' v' whole first distinct key value put =
    let whole' : es ++ (k, v) ∷ rest ≡ all = ap (λ l. es ++ l) (sym first) ∙ whole in
    let next = insert-next es rest k v (subst (λ l. IsDistinct (pointwise nat_eq) (keys_of l)) (sym whole') distinct) in
    rw (put, key, value, next) (append_assoc es ((k, v) ∷ []) rest ∙ whole')
