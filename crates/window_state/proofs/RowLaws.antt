-- A map of rows under their own keys, seen as the list of its rows: what each call of the map does to that list.
use Rattle.std.proofs.Common.{◌≡◌, ◌≢◌, suc, ◌+◌, ◌≤◌, is_some, nat_le, nat_eq, not, Bool, true, false, cond, if◌then◌else◌, List, [], ◌∷◌, ◌++◌, map, length, Option, Some, None, refl, sym, ap, subst, ◌∙◌, append_assoc, arith}
use Rattle.std.specs.declared.cmp.Ordering.{Ordering}
use Rattle.std.specs.declared.cmp.Ordering.TheVariants.{Less, Equal, Greater}
use Rattle.std.specs.Ordering.{is_eq, match_ordering}
use Rattle.std.specs.List.{AllByRecursion}
use Rattle.std.specs.List.Sorted.{IsStrictlySortedBy}
use Rattle.std.specs.Cmp.{IsTotalOrder}
use Rattle.std.specs.Map.{keys_of, values_of, lookup, remove_entry, set_value}
use Rattle.std.specs.BTreeMap.{insert_entry, is_at}
use Rattle.std.proofs.lemmas.Map.{lookup-none}
use Rattle.std.proofs.lemmas.Map.Keys.{sorted_head, sorted_tail}
use Rattle.std.proofs.lemmas.Map.Entries.{none_below_head, length-values_of}
use Rattle.std.proofs.lemmas.Map.Steps.{set_value_same}
use Rattle.std.proofs.lemmas.Bool.Decides.{nat_tests}
use Rattle.window_state.specs.Limits.{limit}
use Rattle.window_state.specs.RowLists.{find_row, put_row, step_row, without_row, IsKeyed}

pub is_none : {X : Type 0} (o : Option X) → is_some o ≡ false → o ≡ None
is_none None e = refl
is_none (Some x) e = absurd cc

module _ {K R : Type 0} (cmp : K → K → Ordering) (key : R → K) where
  pub find-values : (k : K) (es : List (K × R)) → IsKeyed key es → lookup (is_at (cmp k)) es ≡ find_row cmp key k (values_of es)
  find-values k [] keyed = refl
  find-values k (e ∷ es) keyed = rw keyed.0 (ap (λ rest. if is_eq (cmp k (key e.1)) then Some e.1 else rest) (find-values k es keyed.1))

  pub put-values : (k : K) (row : R) → k ≡ key row → (es : List (K × R)) → IsKeyed key es → values_of (insert_entry cmp es k row) ≡ put_row cmp key row (values_of es)
  put-values k row own [] keyed = refl
  put-values k row own (e ∷ es) keyed = by (put-values k row own es keyed.1) (cmp k e.0) refl
    where
      by : values_of (insert_entry cmp es k row) ≡ put_row cmp key row (values_of es) → (o : Ordering) → cmp k e.0 ≡ o → values_of (insert_entry cmp (e ∷ es) k row) ≡ put_row cmp key row (values_of (e ∷ es))
      by rest Less is =
          let is' : cmp (key row) (key e.1) ≡ Less = ap (λ j. cmp j (key e.1)) (sym own) ∙ ap (cmp k) (sym keyed.0) ∙ is in
          rw (is, is') refl
      by rest Equal is =
          let is' : cmp (key row) (key e.1) ≡ Equal = ap (λ j. cmp j (key e.1)) (sym own) ∙ ap (cmp k) (sym keyed.0) ∙ is in
          rw (is, is') refl
      by rest Greater is =
          let is' : cmp (key row) (key e.1) ≡ Greater = ap (λ j. cmp j (key e.1)) (sym own) ∙ ap (cmp k) (sym keyed.0) ∙ is in
          rw (is, is') (ap (λ rs. e.1 ∷ rs) rest)

  pub put-keyed : ((x y : K) → cmp x y ≡ Equal → x ≡ y) → (k : K) (row : R) → k ≡ key row → (es : List (K × R)) → IsKeyed key es → IsKeyed key (insert_entry cmp es k row)
  put-keyed same k row own [] keyed = (own, tt)
  put-keyed same k row own (e ∷ es) keyed = by (put-keyed same k row own es keyed.1) (cmp k e.0) refl
    where
      by : IsKeyed key (insert_entry cmp es k row) → (o : Ordering) → cmp k e.0 ≡ o → IsKeyed key (insert_entry cmp (e ∷ es) k row)
      by rest Less is = rw is (own, keyed)
      by rest Equal is = rw is (sym (same k e.0 is) ∙ own, keyed.1)
      by rest Greater is = rw is (keyed.0, rest)

  pub remove-values : (k : K) (es : List (K × R)) → IsKeyed key es → values_of (remove_entry (is_at (cmp k)) es) ≡ without_row cmp key k (values_of es)
  remove-values k [] keyed = refl
  remove-values k (e ∷ es) keyed = by (remove-values k es keyed.1) (is_eq (cmp k e.0)) refl
    where
      by : values_of (remove_entry (is_at (cmp k)) es) ≡ without_row cmp key k (values_of es) → (b : Bool) → is_eq (cmp k e.0) ≡ b → values_of (remove_entry (is_at (cmp k)) (e ∷ es)) ≡ without_row cmp key k (values_of (e ∷ es))
      by rest true is =
          let is' : is_eq (cmp k (key e.1)) ≡ true = ap (λ j. is_eq (cmp k j)) (sym keyed.0) ∙ is in
          rw (is, is') refl
      by rest false is =
          let is' : is_eq (cmp k (key e.1)) ≡ false = ap (λ j. is_eq (cmp k j)) (sym keyed.0) ∙ is in
          rw (is, is') (ap (λ rs. e.1 ∷ rs) rest)

  pub remove-keyed : (k : K) (es : List (K × R)) → IsKeyed key es → IsKeyed key (remove_entry (is_at (cmp k)) es)
  remove-keyed k [] keyed = tt
  remove-keyed k (e ∷ es) keyed =
      let rest = remove-keyed k es keyed.1 in
      elim (is_eq (cmp k e.0)) as (λ b. IsKeyed key (cond b es (e ∷ remove_entry (is_at (cmp k)) es))) [ true ↦ keyed.1 | false ↦ (keyed.0, rest) ]

  -- the row that stands is changed
  pub set-keyed : (k : K) (r w : R) (es : List (K × R)) → lookup (is_at (cmp k)) es ≡ Some r → key w ≡ key r → IsKeyed key es → IsKeyed key (set_value (is_at (cmp k)) es w)
  set-keyed k r w [] found own keyed = tt
  set-keyed k r w (e ∷ es) found own keyed = by (λ later. set-keyed k r w es later own keyed.1) (is_eq (cmp k e.0)) refl
    where
      by : (lookup (is_at (cmp k)) es ≡ Some r → IsKeyed key (set_value (is_at (cmp k)) es w)) → (b : Bool) → is_eq (cmp k e.0) ≡ b → IsKeyed key (set_value (is_at (cmp k)) (e ∷ es) w)
      by rest true is =
          let found' : Some e.1 ≡ Some r = rw is at found in
          let same : e.1 ≡ r = cc in
          rw is (keyed.0 ∙ ap key same ∙ sym own, keyed.1)
      by rest false is = rw is (keyed.0, rest (rw is at found))

  pub set-values : IsTotalOrder cmp → (k : K) (r fresh : R) (change : R → R) (es : List (K × R)) → IsStrictlySortedBy cmp (keys_of es) → lookup (is_at (cmp k)) es ≡ Some r → IsKeyed key es
      → values_of (set_value (is_at (cmp k)) es (change r)) ≡ step_row cmp key k fresh change (values_of es)
  set-values total k r fresh change [] sorted found keyed = absurd cc
  set-values total k r fresh change (e ∷ es) sorted found keyed =
      by (λ later. set-values total k r fresh change es (sorted_tail cmp e.0 (keys_of es) sorted) later keyed.1) (cmp k e.0) refl
    where
      by : (lookup (is_at (cmp k)) es ≡ Some r → values_of (set_value (is_at (cmp k)) es (change r)) ≡ step_row cmp key k fresh change (values_of es))
          → (o : Ordering) → cmp k e.0 ≡ o → values_of (set_value (is_at (cmp k)) (e ∷ es) (change r)) ≡ step_row cmp key k fresh change (values_of (e ∷ es))
      by rest Less is =
          let none = lookup-none (is_at (cmp k)) (e ∷ es) (none_below_head total k e es sorted is) in
          absurd cc
      by rest Equal is =
          let is' : cmp k (key e.1) ≡ Equal = ap (cmp k) (sym keyed.0) ∙ is in
          let found' : Some e.1 ≡ Some r = rw is at found in
          let same : e.1 ≡ r = cc in
          rw (is, is') (ap (λ row. change row ∷ values_of es) (sym same))
      by rest Greater is =
          let is' : cmp k (key e.1) ≡ Greater = ap (cmp k) (sym keyed.0) ∙ is in
          rw (is, is') (ap (λ rs. e.1 ∷ rs) (rest (rw is at found)))

  -- a fresh row is changed and put in
  pub fresh-values : (k : K) (fresh : R) (change : R → R) (es : List (K × R)) → lookup (is_at (cmp k)) es ≡ None → IsKeyed key es
      → values_of (insert_entry cmp es k (change fresh)) ≡ step_row cmp key k fresh change (values_of es)
  fresh-values k fresh change [] absent keyed = refl
  fresh-values k fresh change (e ∷ es) absent keyed = by (λ later. fresh-values k fresh change es later keyed.1) (cmp k e.0) refl
    where
      by : (lookup (is_at (cmp k)) es ≡ None → values_of (insert_entry cmp es k (change fresh)) ≡ step_row cmp key k fresh change (values_of es))
          → (o : Ordering) → cmp k e.0 ≡ o → values_of (insert_entry cmp (e ∷ es) k (change fresh)) ≡ step_row cmp key k fresh change (values_of (e ∷ es))
      by rest Less is =
          let is' : cmp k (key e.1) ≡ Less = ap (cmp k) (sym keyed.0) ∙ is in
          rw (is, is') refl
      by rest Equal is =
          let absent' : Some e.1 ≡ None = rw is at absent in
          absurd cc
      by rest Greater is =
          let is' : cmp k (key e.1) ≡ Greater = ap (cmp k) (sym keyed.0) ∙ is in
          rw (is, is') (ap (λ rs. e.1 ∷ rs) (rest (rw is at absent)))

  -- an entry copied behind those before it
  next_is_last : IsTotalOrder cmp → (es rest : List (K × R)) (k : K) (row : R) → IsStrictlySortedBy cmp (keys_of (es ++ (k, row) ∷ rest)) → insert_entry cmp es k row ≡ es ++ (k, row) ∷ []
  next_is_last total [] rest k row sorted = refl
  next_is_last total (e ∷ es) rest k row sorted =
      let later = next_is_last total es rest k row (sorted_tail cmp e.0 (keys_of (es ++ (k, row) ∷ rest)) sorted) in
      let above : cmp k e.0 ≡ Greater = greater total e.0 k (here (λ y. cmp e.0 y ≡ Less) es (sorted_head cmp e.0 (keys_of (es ++ (k, row) ∷ rest)) sorted)) in
      rw above (ap (λ es'. e ∷ es') later)
    where
      here : (P : K → Type 0) (fs : List (K × R)) → AllByRecursion P (keys_of (fs ++ (k, row) ∷ rest)) → P k
      here P [] all = all.0
      here P (f ∷ fs) all = here P fs all.1

      greater : IsTotalOrder cmp → (x y : K) → cmp x y ≡ Less → cmp y x ≡ Greater
      greater total x y less = total.antisymm y x ∙ rw less refl

  pub copied-next : IsTotalOrder cmp → (es left rest all new : List (K × R)) (k k' : K) (row row' : R) → es ++ left ≡ all → left ≡ (k, row) ∷ rest → IsStrictlySortedBy cmp (keys_of all)
      → k' ≡ k → row' ≡ row → new ≡ insert_entry cmp es k' row' → new ++ rest ≡ all
  copied-next total es left rest all new k k' row row' whole first sorted same_key same_row put =
      let whole' : es ++ (k, row) ∷ rest ≡ all = ap (λ l. es ++ l) (sym first) ∙ whole in
      let next = next_is_last total es rest k row (subst (λ l. IsStrictlySortedBy cmp (keys_of l)) (sym whole') sorted) in
      rw (put, same_key, same_row, next) (append_assoc es ((k, row) ∷ []) rest ∙ whole')

  -- the keys of the entries are those of the rows
  pub keys-values : (es : List (K × R)) → IsKeyed key es → keys_of es ≡ map key (values_of es)
  keys-values [] keyed = refl
  keys-values (e ∷ es) keyed = rw keyed.0 (ap (λ ks. key e.1 ∷ ks) (keys-values es keyed.1))

  -- how many rows there are after a step
  pub step-length : IsTotalOrder cmp → (k : K) (fresh : R) (change : R → R) (es : List (K × R)) → IsStrictlySortedBy cmp (keys_of es) → IsKeyed key es
      → length (step_row cmp key k fresh change (values_of es)) ≡ length es + (if is_some (lookup (is_at (cmp k)) es) then 0 else 1)
  step-length total k fresh change [] sorted keyed = refl
  step-length total k fresh change (e ∷ es) sorted keyed = by (step-length total k fresh change es (sorted_tail cmp e.0 (keys_of es) sorted) keyed.1) (cmp k e.0) refl
    where
      by : length (step_row cmp key k fresh change (values_of es)) ≡ length es + (if is_some (lookup (is_at (cmp k)) es) then 0 else 1) → (o : Ordering) → cmp k e.0 ≡ o
          → length (step_row cmp key k fresh change (values_of (e ∷ es))) ≡ length (e ∷ es) + (if is_some (lookup (is_at (cmp k)) (e ∷ es)) then 0 else 1)
      by rest Less is =
          let is' : cmp k (key e.1) ≡ Less = ap (cmp k) (sym keyed.0) ∙ is in
          let none = lookup-none (is_at (cmp k)) (e ∷ es) (none_below_head total k e es sorted is) in
          let n = length-values_of es in
          rw (none, is') (omega (arith, n))
      by rest Equal is =
          let is' : cmp k (key e.1) ≡ Equal = ap (cmp k) (sym keyed.0) ∙ is in
          let n = length-values_of es in
          rw (is, is') (omega (arith, n))
      by rest Greater is =
          let is' : cmp k (key e.1) ≡ Greater = ap (cmp k) (sym keyed.0) ∙ is in
          rw (is, is') (omega (arith, rest))

  -- a fresh row put in unchanged, where none stands, and none where one does
  pub made-values : IsTotalOrder cmp → (k : K) (fresh : R) (es : List (K × R)) → IsStrictlySortedBy cmp (keys_of es) → is_some (lookup (is_at (cmp k)) es) ≡ true → IsKeyed key es
      → values_of es ≡ step_row cmp key k fresh (λ row. row) (values_of es)
  made-values total k fresh es sorted found keyed = by (lookup (is_at (cmp k)) es) refl
    where
      by : (o : Option R) → lookup (is_at (cmp k)) es ≡ o → values_of es ≡ step_row cmp key k fresh (λ row. row) (values_of es)
      by None is = let found' = rw is at found in absurd cc
      by (Some r) is = ap values_of (sym (set_value_same (is_at (cmp k)) es r is)) ∙ set-values total k r fresh (λ row. row) es sorted is keyed

  module _ (P : R → Type 0) where
    -- what holds of all rows, after a step and after a removal
    pub all-step : (k : K) (fresh : R) (change : R → R) (rows : List R) → P (change fresh) → ((r : R) → P r → P (change r)) → AllByRecursion P rows → AllByRecursion P (step_row cmp key k fresh change rows)
    all-step k fresh change [] new old all = (new, tt)
    all-step k fresh change (r ∷ rs) new old all =
        let rest = all-step k fresh change rs new old all.1 in
        elim (cmp k (key r)) as (λ o. AllByRecursion P (match_ordering o (change fresh ∷ r ∷ rs) (change r ∷ rs) (r ∷ step_row cmp key k fresh change rs)))
        [ Less ↦ (new, all) | Equal ↦ (old r all.0, all.1) | Greater ↦ (all.0, rest) ]

    pub all-without : (k : K) (rows : List R) → AllByRecursion P rows → AllByRecursion P (without_row cmp key k rows)
    all-without k [] all = tt
    all-without k (r ∷ rs) all =
        let rest = all-without k rs all.1 in
        elim (is_eq (cmp k (key r))) as (λ b. AllByRecursion P (cond b rs (r ∷ without_row cmp key k rs))) [ true ↦ all.1 | false ↦ (all.0, rest) ]

  pub length-without : (k : K) (rows : List R) → length (without_row cmp key k rows) ≤ length rows
  length-without k [] = omega arith
  length-without k (r ∷ rs) =
      let rest = length-without k rs in
      elim (is_eq (cmp k (key r))) as (λ b. length (cond b rs (r ∷ without_row cmp key k rs)) ≤ suc (length rs)) [ true ↦ omega arith | false ↦ omega arith ]

  -- room for one more row
  pub room-present : IsTotalOrder cmp → (k : K) (es : List (K × R)) (rows : List R) → values_of es ≡ rows → IsStrictlySortedBy cmp (keys_of es) → IsKeyed key es → is_some (lookup (is_at (cmp k)) es) ≡ true
      → length rows ≤ limit → (fresh : R) (change : R → R) → nat_le (length (step_row cmp key k fresh change rows)) limit ≡ true
  room-present total k es rows view sorted keyed found small fresh change =
      let n = rw (found, view) at (step-length total k fresh change es sorted keyed) in
      let m = rw view at (length-values_of es) in
      grind (arith, nat_tests)

  pub room-absent : IsTotalOrder cmp → (k : K) (es : List (K × R)) (rows : List R) → values_of es ≡ rows → IsStrictlySortedBy cmp (keys_of es) → IsKeyed key es → is_some (lookup (is_at (cmp k)) es) ≡ false
      → length rows ≤ limit → (fresh : R) (change : R → R) → nat_le (length (step_row cmp key k fresh change rows)) limit ≡ not (nat_eq (length es) limit)
  room-absent total k es rows view sorted keyed found small fresh change =
      let n = rw (found, view) at (step-length total k fresh change es sorted keyed) in
      let m = rw view at (length-values_of es) in
      grind (arith, nat_tests)

  module _ (total : IsTotalOrder cmp) where
    -- a row that stands does so after a step
    pub stands-step : (q k : K) (fresh : R) (change : R → R) (rows : List R) → ((r : R) → key (change r) ≡ key r) → is_some (find_row cmp key q rows) ≡ true → is_some (find_row cmp key q (step_row cmp key k fresh change rows)) ≡ true
    stands-step q k fresh change [] same found = absurd cc
    stands-step q k fresh change (r ∷ rs) same found = by (stands-step q k fresh change rs same) (cmp k (key r)) refl
      where
        by : (is_some (find_row cmp key q rs) ≡ true → is_some (find_row cmp key q (step_row cmp key k fresh change rs)) ≡ true) → (o : Ordering) → cmp k (key r) ≡ o → is_some (find_row cmp key q (step_row cmp key k fresh change (r ∷ rs))) ≡ true
        by rest Less is = rw is (elim (is_eq (cmp q (key (change fresh)))) as (λ b. is_some (if b then Some (change fresh) else find_row cmp key q (r ∷ rs)) ≡ true) [ true ↦ refl | false ↦ found ])
        by rest Equal is = rw (is, same r) (subst (λ b. b ≡ true) (elim (is_eq (cmp q (key r))) as (λ b. is_some (if b then Some r else find_row cmp key q rs) ≡ is_some (if b then Some (change r) else find_row cmp key q rs)) [ true ↦ refl | false ↦ refl ]) found)
        by rest Greater is = rw is (at (is_eq (cmp q (key r))) refl)
          where
            at : (b : Bool) → is_eq (cmp q (key r)) ≡ b → is_some (if is_eq (cmp q (key r)) then Some r else find_row cmp key q (step_row cmp key k fresh change rs)) ≡ true
            at true e = rw e refl
            at false e = rw e (rest (rw e at found))

    -- the row of a step stands behind it
    pub stands-made : (k : K) (fresh : R) (rows : List R) → cmp k k ≡ Equal → key fresh ≡ k → is_some (find_row cmp key k (step_row cmp key k fresh (λ row. row) rows)) ≡ true
    stands-made k fresh [] itself own = rw (own, itself) refl
    stands-made k fresh (r ∷ rs) itself own = by (stands-made k fresh rs itself own) (cmp k (key r)) refl
      where
        by : is_some (find_row cmp key k (step_row cmp key k fresh (λ row. row) rs)) ≡ true → (o : Ordering) → cmp k (key r) ≡ o → is_some (find_row cmp key k (step_row cmp key k fresh (λ row. row) (r ∷ rs))) ≡ true
        by rest Less is = rw (is, own, itself) refl
        by rest Equal is = rw (is, is) refl
        by rest Greater is = rw (is, is) rest

    -- a row stands where another goes
    pub stands-without : ((x y : K) → cmp x y ≡ Equal → x ≡ y) → (q k : K) (rows : List R) → q ≢ k → is_some (find_row cmp key q rows) ≡ true → is_some (find_row cmp key q (without_row cmp key k rows)) ≡ true
    stands-without exact q k [] apart found = absurd cc
    stands-without exact q k (r ∷ rs) apart found = by (stands-without exact q k rs apart) (cmp k (key r)) refl (cmp q (key r)) refl
      where
        by : (is_some (find_row cmp key q rs) ≡ true → is_some (find_row cmp key q (without_row cmp key k rs)) ≡ true) → (o : Ordering) → cmp k (key r) ≡ o → (p : Ordering) → cmp q (key r) ≡ p → is_some (find_row cmp key q (without_row cmp key k (r ∷ rs))) ≡ true
        by rest Equal is Equal at = absurd (apart (exact q (key r) at ∙ sym (exact k (key r) is)))
        by rest Equal is Less at = rw is (rw at at found)
        by rest Equal is Greater at = rw is (rw at at found)
        by rest Less is Equal at = rw (is, at) refl
        by rest Less is Less at = rw (is, at) (rest (rw at at found))
        by rest Less is Greater at = rw (is, at) (rest (rw at at found))
        by rest Greater is Equal at = rw (is, at) refl
        by rest Greater is Less at = rw (is, at) (rest (rw at at found))
        by rest Greater is Greater at = rw (is, at) (rest (rw at at found))

  -- a fresh row that goes again
  pub made-undone : (k : K) (fresh : R) (rows : List R) → cmp k k ≡ Equal → key fresh ≡ k → is_some (find_row cmp key k rows) ≡ false → without_row cmp key k (step_row cmp key k fresh (λ row. row) rows) ≡ rows
  made-undone k fresh [] itself own absent = rw (own, itself) refl
  made-undone k fresh (r ∷ rs) itself own absent = by (made-undone k fresh rs itself own) (cmp k (key r)) refl
    where
      by : (is_some (find_row cmp key k rs) ≡ false → without_row cmp key k (step_row cmp key k fresh (λ row. row) rs) ≡ rs) → (o : Ordering) → cmp k (key r) ≡ o → without_row cmp key k (step_row cmp key k fresh (λ row. row) (r ∷ rs)) ≡ r ∷ rs
      by rest Less is = rw (is, own, itself) refl
      by rest Equal is = let no = rw is at absent in absurd cc
      by rest Greater is = rw (is, is) (ap (λ rs'. r ∷ rs') (rest (rw is at absent)))
