-- Rows in any order: the ones under a key, and what changes of rows in order leave of them.
use Rattle.std.proofs.Common.{◌≡◌, is_some, Bool, true, false, cond, List, []}
use Rattle.std.proofs.Common.{◌∷◌, map, Some, None, refl, sym, ap, subst, ◌∙◌}
use Rattle.std.specs.declared.cmp.Ordering.{Ordering}
use Rattle.std.specs.declared.cmp.Ordering.TheVariants.{Less, Equal, Greater}
use Rattle.std.specs.Ordering.{is_eq}
use Rattle.std.specs.List.{AllByRecursion}
use Rattle.std.specs.List.Sorted.{IsStrictlySortedBy}
use Rattle.std.specs.Cmp.{IsTotalOrder}
use Rattle.std.proofs.lemmas.Map.Keys.{sorted_head, sorted_tail}
use Rattle.window_state.specs.RowLists.{find_row, on_key, only, step_row, without_row}
use Rattle.window_state.proofs.FindLaws.{is_equal}

module _ {K R : Type 0} (cmp : K → K → Ordering) (key : R → K) where
  -- a change that keeps keys goes through
  pub only-map : (g : R → R) → ((r : R) → key (g r) ≡ key r) → (k : K) (rows : List R)
      → only cmp key k (map g rows) ≡ map g (only cmp key k rows)
  only-map g same k [] = refl
  only-map g same k (r ∷ rs) =
      let rest = only-map g same k rs in
      rw (same r, rest) (elim (is_eq (cmp k (key r))) as (λ b. cond b (g r ∷ map g (only cmp key k rs))
      (map g (only cmp key k rs)) ≡ map g (cond b (r ∷ only cmp key k rs) (only cmp key k rs)))
      [ true ↦ refl | false ↦ refl ])

  -- the first row under a key
  pub find-only : (k : K) (r : R) (rest rows : List R) → only cmp key k rows ≡ r ∷ rest
      → find_row cmp key k rows ≡ Some r
  find-only k r rest [] is = absurd cc
  find-only k r rest (x ∷ xs) is = by (λ later. find-only k r rest xs later) (is_eq (cmp k (key x))) refl
    where
      by : (only cmp key k xs ≡ r ∷ rest → find_row cmp key k xs ≡ Some r) → (b : Bool) → is_eq (cmp k (key x)) ≡ b
          → find_row cmp key k (x ∷ xs) ≡ Some r
      by later true e =
          let is' : x ∷ only cmp key k xs ≡ r ∷ rest = rw e at is in
          let same : x ≡ r = cc in
          rw e (ap Some same)
      by later false e = rw e (later (rw e at is))

  pub find-none : (k : K) (rows : List R) → only cmp key k rows ≡ [] → find_row cmp key k rows ≡ None
  find-none k [] is = refl
  find-none k (x ∷ xs) is = by (λ later. find-none k xs later) (is_eq (cmp k (key x))) refl
    where
      by : (only cmp key k xs ≡ [] → find_row cmp key k xs ≡ None) → (b : Bool) → is_eq (cmp k (key x)) ≡ b
          → find_row cmp key k (x ∷ xs) ≡ None
      by later true e = let is' : x ∷ only cmp key k xs ≡ [] = rw e at is in absurd cc
      by later false e = rw e (later (rw e at is))

  pub only-some : (k : K) (rows : List R) → is_some (find_row cmp key k rows) ≡ true
      → (r : R) × (rest : List R) × (only cmp key k rows ≡ r ∷ rest)
  only-some k [] found = absurd cc
  only-some k (x ∷ xs) found = by (only-some k xs) (is_eq (cmp k (key x))) refl
    where
      by : (is_some (find_row cmp key k xs) ≡ true → (r : R) × (rest : List R) × (only cmp key k xs ≡ r ∷ rest))
          → (b : Bool) → is_eq (cmp k (key x)) ≡ b → (r : R) × (rest : List R) × (only cmp key k (x ∷ xs) ≡ r ∷ rest)
      by later true e = (x, only cmp key k xs, rw e refl)
      by later false e = rw e (later (rw e at found))

  pub only-none : (k : K) (rows : List R) → is_some (find_row cmp key k rows) ≡ false → only cmp key k rows ≡ []
  only-none k [] found = refl
  only-none k (x ∷ xs) found = by (only-none k xs) (is_eq (cmp k (key x))) refl
    where
      by : (is_some (find_row cmp key k xs) ≡ false → only cmp key k xs ≡ []) → (b : Bool) → is_eq (cmp k (key x)) ≡ b
          → only cmp key k (x ∷ xs) ≡ []
      by later true e = let found' = rw e at found in absurd cc
      by later false e = rw e (later (rw e at found))

  module _ (total : IsTotalOrder cmp) (exact : (x y : K) → cmp x y ≡ Equal → x ≡ y) where
    above-none : (k : K) (rows : List R) → AllByRecursion (λ y. cmp k y ≡ Less) (map key rows)
        → only cmp key k rows ≡ []
    above-none k [] all = refl
    above-none k (r ∷ rs) all = rw all.0 (above-none k rs all.1)

    above-map : (k : K) (f : R → R) (rows : List R) → AllByRecursion (λ y. cmp k y ≡ Less) (map key rows)
        → map (on_key cmp key k f) rows ≡ rows
    above-map k f [] all = refl
    above-map k f (r ∷ rs) all = rw all.0 (ap (λ xs. r ∷ xs) (above-map k f rs all.1))

    pub later : (k y : K) (rows : List R) → cmp k y ≡ Equal → AllByRecursion (λ z. cmp y z ≡ Less) (map key rows)
        → AllByRecursion (λ z. cmp k z ≡ Less) (map key rows)
    later k y [] e all = tt
    later k y (r ∷ rs) e all = (total.congr k y (key r) e ∙ all.0, later k y rs e all.1)

    pub earlier : (k y : K) (rows : List R) → cmp k y ≡ Less → AllByRecursion (λ z. cmp y z ≡ Less) (map key rows)
        → AllByRecursion (λ z. cmp k z ≡ Less) (map key rows)
    earlier k y [] e all = tt
    earlier k y (r ∷ rs) e all = (total.trans k y (key r) e all.0, earlier k y rs e all.1)

    -- rows in order: one at most under a key
    pub alone : (k : K) (r : R) (rest rows : List R) → IsStrictlySortedBy cmp (map key rows)
        → only cmp key k rows ≡ r ∷ rest → rest ≡ []
    alone k r rest [] sorted is = absurd cc
    alone k r rest (x ∷ xs) sorted is = by (alone k r rest xs (sorted_tail cmp (key x) (map key xs) sorted))
        (cmp k (key x)) refl
      where
        by : (only cmp key k xs ≡ r ∷ rest → rest ≡ []) → (o : Ordering) → cmp k (key x) ≡ o → rest ≡ []
        by more Less e = more (rw e at is)
        by more Equal e =
            let is' : x ∷ only cmp key k xs ≡ r ∷ rest = rw e at is in
            let none : only cmp key k xs ≡ [] = above-none k xs
            (later k (key x) xs e (sorted_head cmp (key x) (map key xs) sorted)) in
            cc
        by more Greater e = more (rw e at is)

    -- a step on a row that stands changes that row
    pub step-map : (k : K) (fresh : R) (change : R → R) (rows : List R) → IsStrictlySortedBy cmp (map key rows)
        → is_some (find_row cmp key k rows) ≡ true
        → step_row cmp key k fresh change rows ≡ map (on_key cmp key k change) rows
    step-map k fresh change [] sorted found = absurd cc
    step-map k fresh change (x ∷ xs) sorted found =
        by (step-map k fresh change xs (sorted_tail cmp (key x) (map key xs) sorted)) (cmp k (key x)) refl
      where
        by : (is_some (find_row cmp key k xs) ≡ true
            → step_row cmp key k fresh change xs ≡ map (on_key cmp key k change) xs) → (o : Ordering)
            → cmp k (key x) ≡ o → step_row cmp key k fresh change (x ∷ xs) ≡ map (on_key cmp key k change) (x ∷ xs)
        by more Less e =
            let none : find_row cmp key k xs ≡ None =
            find-none k xs (above-none k xs (earlier k (key x) xs e
            (sorted_head cmp (key x) (map key xs) sorted))) in
            let found' = rw (e, none) at found in
            absurd cc
        by more Equal e = rw e (ap (λ ys. change x ∷ ys)
            (sym (above-map k change xs (later k (key x) xs e (sorted_head cmp (key x) (map key xs) sorted)))))
        by more Greater e = rw e (ap (λ ys. x ∷ ys) (more (rw e at found)))

    -- a row that is made
    pub only-made : (k : K) (fresh : R) (change : R → R) (rows : List R) → cmp k (key (change fresh)) ≡ Equal
        → only cmp key k rows ≡ [] → only cmp key k (step_row cmp key k fresh change rows) ≡ change fresh ∷ []
    only-made k fresh change [] own none = rw own refl
    only-made k fresh change (x ∷ xs) own none = by (only-made k fresh change xs own) (cmp k (key x)) refl
      where
        by : (only cmp key k xs ≡ [] → only cmp key k (step_row cmp key k fresh change xs) ≡ change fresh ∷ [])
            → (o : Ordering) → cmp k (key x) ≡ o → only cmp key k (step_row cmp key k fresh change (x ∷ xs))
            ≡ change fresh ∷ []
        by more Less e = let none' = rw e at none in rw (e, own, e) (ap (λ ys. change fresh ∷ ys) none')
        by more Equal e = let none' : x ∷ only cmp key k xs ≡ [] = rw e at none in absurd cc
        by more Greater e = rw (e, e) (more (rw e at none))

    -- rows beside the one that is changed or made
    pub only-beside : (q k : K) (fresh : R) (change : R → R) (rows : List R) → is_eq (cmp q k) ≡ false
        → cmp k (key (change fresh)) ≡ Equal → ((r : R) → key (change r) ≡ key r)
        → only cmp key q (step_row cmp key k fresh change rows) ≡ only cmp key q rows
    only-beside q k fresh change rows apart own same = all rows
      where
        new : is_eq (cmp q (key (change fresh))) ≡ false
        new = let e = exact k (key (change fresh)) own in subst (λ j. is_eq (cmp q j) ≡ false) e apart

        all : (rows : List R) → only cmp key q (step_row cmp key k fresh change rows) ≡ only cmp key q rows
        all [] = rw new refl
        all (x ∷ xs) = by (all xs) (cmp k (key x)) refl
          where
            by : only cmp key q (step_row cmp key k fresh change xs) ≡ only cmp key q xs → (o : Ordering)
                → cmp k (key x) ≡ o → only cmp key q (step_row cmp key k fresh change (x ∷ xs))
                ≡ only cmp key q (x ∷ xs)
            by more Less e = rw (e, new) refl
            by more Equal e =
                let other : is_eq (cmp q (key x)) ≡ false =
                subst (λ j. is_eq (cmp q j) ≡ false) (exact k (key x) e) apart in
                rw (e, same x, other) refl
            by more Greater e = rw (e, more) refl

    -- a row that goes, and the ones beside it
    pub only-gone : (k : K) (rows : List R) → IsStrictlySortedBy cmp (map key rows)
        → only cmp key k (without_row cmp key k rows) ≡ []
    only-gone k [] sorted = refl
    only-gone k (x ∷ xs) sorted = by (only-gone k xs (sorted_tail cmp (key x) (map key xs) sorted)) (cmp k (key x)) refl
      where
        by : only cmp key k (without_row cmp key k xs) ≡ [] → (o : Ordering) → cmp k (key x) ≡ o
            → only cmp key k (without_row cmp key k (x ∷ xs)) ≡ []
        by more Less e = rw (e, e) more
        by more Equal e = rw e (above-none k xs (later k (key x) xs e (sorted_head cmp (key x) (map key xs) sorted)))
        by more Greater e = rw (e, e) more

    pub only-kept : (q k : K) (rows : List R) → is_eq (cmp q k) ≡ false
        → only cmp key q (without_row cmp key k rows) ≡ only cmp key q rows
    only-kept q k [] apart = refl
    only-kept q k (x ∷ xs) apart = by (only-kept q k xs apart) (is_eq (cmp k (key x))) refl
      where
        by : only cmp key q (without_row cmp key k xs) ≡ only cmp key q xs → (b : Bool) → is_eq (cmp k (key x)) ≡ b
            → only cmp key q (without_row cmp key k (x ∷ xs)) ≡ only cmp key q (x ∷ xs)
        by more true e =
            let other : is_eq (cmp q (key x)) ≡ false =
            subst (λ j. is_eq (cmp q j) ≡ false) (exact k (key x) (is_equal (cmp k (key x)) e)) apart in
            rw (e, other) refl
        by more false e = rw (e, more) refl

-- rows seen as other rows
module _ {K R S : Type 0} (cmp : K → K → Ordering) (key : R → K) (key' : S → K) (h : R → S)
    (same : (r : R) → key' (h r) ≡ key r) where
  pub only-seen : (k : K) (rows : List R) → only cmp key' k (map h rows) ≡ map h (only cmp key k rows)
  only-seen k [] = refl
  only-seen k (r ∷ rs) =
      let rest = only-seen k rs in
      rw (same r, rest) (elim (is_eq (cmp k (key r))) as (λ b. cond b (h r ∷ map h (only cmp key k rs))
      (map h (only cmp key k rs)) ≡ map h (cond b (r ∷ only cmp key k rs) (only cmp key k rs)))
      [ true ↦ refl | false ↦ refl ])

  pub step-seen : (k : K) (fresh : R) (change : R → R) (change' : S → S) (rows : List R)
      → ((r : R) → h (change r) ≡ change' (h r))
      → map h (step_row cmp key k fresh change rows) ≡ step_row cmp key' k (h fresh) change' (map h rows)
  step-seen k fresh change change' [] goes = ap (λ x. x ∷ []) (goes fresh)
  step-seen k fresh change change' (r ∷ rs) goes = by (step-seen k fresh change change' rs goes) (cmp k (key r)) refl
    where
      by : map h (step_row cmp key k fresh change rs) ≡ step_row cmp key' k (h fresh) change' (map h rs)
          → (o : Ordering) → cmp k (key r) ≡ o → map h (step_row cmp key k fresh change (r ∷ rs))
          ≡ step_row cmp key' k (h fresh) change' (map h (r ∷ rs))
      by rest Less e = rw (same r, e) (ap (λ x. x ∷ h r ∷ map h rs) (goes fresh))
      by rest Equal e = rw (same r, e) (ap (λ x. x ∷ map h rs) (goes r))
      by rest Greater e = rw (same r, e) (ap (λ xs. h r ∷ xs) rest)

  pub without-seen : (k : K) (rows : List R) → map h (without_row cmp key k rows) ≡ without_row cmp key' k (map h rows)
  without-seen k [] = refl
  without-seen k (r ∷ rs) =
      let rest = without-seen k rs in
      rw (same r, sym rest) (elim (is_eq (cmp k (key r))) as (λ b. map h (cond b rs (r ∷ without_row cmp key k rs))
      ≡ cond b (map h rs) (h r ∷ map h (without_row cmp key k rs))) [ true ↦ refl | false ↦ refl ])
