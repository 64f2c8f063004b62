-- Rows that are put one after another: rows in order stay as they are, and tabs of which none has another's id stand
-- under their ids.
use Rattle.std.proofs.Common.{◌≡◌, suc, ◌+◌, ◌≤◌, Bool, true, false, ℤ, List, [], ◌∷◌, ◌++◌, map, length, refl, sym, ap}
use Rattle.std.proofs.Common.{subst, ◌∙◌, append_assoc, append-nil, arith}
use Rattle.std.specs.declared.cmp.Ordering.{Ordering}
use Rattle.std.specs.declared.cmp.Ordering.TheVariants.{Less, Equal, Greater}
use Rattle.std.specs.Ordering.{int_cmp, is_eq, match_ordering}
use Rattle.std.specs.Cmp.{IsTotalOrder, int_cmp_total}
use Rattle.std.specs.List.{AllByRecursion}
use Rattle.std.specs.List.Sorted.{IsStrictlySortedBy}
use Rattle.std.proofs.lemmas.Map.Keys.{sorted_head, sorted_tail}
use Rattle.std.proofs.lemmas.Map.Lookups.{exact_signed}
use Rattle.window_state.specs.declared.tab.Tab.{Tab}
use Rattle.window_state.specs.Keys.{tab_key}
use Rattle.window_state.specs.RowLists.{put_row, step_row, only}
use Rattle.window_state.specs.TabLists.{Same, under, AtMostOne}
use Rattle.window_state.proofs.IdLaws.{equals_itself, same_key, under-append}
use Rattle.window_state.proofs.OnlyLaws.{only-made, only-beside}
use Rattle.window_state.proofs.OrderLaws.{sorted-step}
use Rattle.window_state.proofs.StateLaws.{itself}
use Rattle.browser_driver.specs.Begun.{with_rows, with_tabs}

module _ {K R : Type 0} (cmp : K → K → Ordering) (key : R → K) where
  pub put-append : (known xs ys : List R)
      → with_rows cmp key known (xs ++ ys) ≡ with_rows cmp key (with_rows cmp key known xs) ys
  put-append known [] ys = refl
  put-append known (x ∷ xs) ys = put-append (put_row cmp key x known) xs ys

  all-put : (P : R → Type 0) (row : R) (rows : List R) → P row → AllByRecursion P rows
      → AllByRecursion P (put_row cmp key row rows)
  all-put P row [] one all = (one, tt)
  all-put P row (r ∷ rs) one all =
      let rest = all-put P row rs one all.1 in
      elim (cmp (key row) (key r)) as
      (λ o. AllByRecursion P (match_ordering o (row ∷ r ∷ rs) (row ∷ rs) (r ∷ put_row cmp key row rs)))
      [ Less ↦ (one, all) | Equal ↦ (one, all.1) | Greater ↦ (all.0, rest) ]

  pub all-rows : (P : R → Type 0) (known more : List R) → AllByRecursion P known → AllByRecursion P more
      → AllByRecursion P (with_rows cmp key known more)
  all-rows P known [] old new = old
  all-rows P known (r ∷ rs) old new = all-rows P (put_row cmp key r known) rs (all-put P r known new.0 old) new.1

  length-put : (row : R) (rows : List R) → length (put_row cmp key row rows) ≤ suc (length rows)
  length-put row [] = omega arith
  length-put row (r ∷ rs) =
      let rest = length-put row rs in
      elim (cmp (key row) (key r)) as
      (λ o. length (match_ordering o (row ∷ r ∷ rs) (row ∷ rs) (r ∷ put_row cmp key row rs)) ≤ suc (length (r ∷ rs)))
      [ Less ↦ omega arith | Equal ↦ omega arith | Greater ↦ omega arith ]

  pub length-rows : (known more : List R) → length (with_rows cmp key known more) ≤ length known + length more
  length-rows known [] = omega arith
  length-rows known (r ∷ rs) =
      let rest = length-rows (put_row cmp key r known) rs in
      let one = length-put r known in
      omega arith

  module _ (total : IsTotalOrder cmp) where
    -- a row behind all others
    put-last : (row : R) (done : List R) → AllByRecursion (λ r. cmp (key r) (key row) ≡ Less) done
        → put_row cmp key row done ≡ done ++ row ∷ []
    put-last row [] all = refl
    put-last row (r ∷ rs) all =
        let behind : cmp (key row) (key r) ≡ Greater = total.antisymm (key row) (key r) ∙ rw all.0 refl in
        rw behind (ap (λ xs. r ∷ xs) (put-last row rs all.1))

    all-before : (done rest : List R) (row : R) → IsStrictlySortedBy cmp (map key (done ++ row ∷ rest))
        → AllByRecursion (λ r. cmp (key r) (key row) ≡ Less) done
    all-before [] rest row sorted = tt
    all-before (r ∷ rs) rest row sorted = (
      less rs (sorted_head cmp (key r) (map key (rs ++ row ∷ rest)) sorted),
      all-before rs rest row (sorted_tail cmp (key r) (map key (rs ++ row ∷ rest)) sorted),
    )
      where
        less : (xs : List R) → AllByRecursion (λ y. cmp (key r) y ≡ Less) (map key (xs ++ row ∷ rest))
            → cmp (key r) (key row) ≡ Less
        less [] all = all.0
        less (x ∷ xs) all = less xs all.1

    behind-done : (done rest : List R) → IsStrictlySortedBy cmp (map key (done ++ rest))
        → with_rows cmp key done rest ≡ done ++ rest
    behind-done done [] sorted = sym (append-nil done)
    behind-done done (r ∷ rs) sorted =
        let moved : (done ++ r ∷ []) ++ rs ≡ done ++ r ∷ rs = append_assoc done (r ∷ []) rs in
        ap (λ known. with_rows cmp key known rs) (put-last r done (all-before done rs r sorted))
        ∙ behind-done (done ++ r ∷ []) rs
        (subst (λ xs. IsStrictlySortedBy cmp (map key xs)) (sym moved) sorted)
        ∙ moved

    pub in-order-stay : (rows : List R) → IsStrictlySortedBy cmp (map key rows) → with_rows cmp key [] rows ≡ rows
    in-order-stay rows sorted = behind-done [] rows sorted

  -- a row whose key no other has
  put-fresh : (row : R) (rows : List R) → only cmp key (key row) rows ≡ []
      → put_row cmp key row rows ≡ step_row cmp key (key row) row (λ r. r) rows
  put-fresh row [] none = refl
  put-fresh row (r ∷ rs) none = by (put-fresh row rs) (cmp (key row) (key r)) refl
    where
      by : (only cmp key (key row) rs ≡ [] → put_row cmp key row rs ≡ step_row cmp key (key row) row (λ r. r) rs)
          → (o : Ordering) → cmp (key row) (key r) ≡ o
          → put_row cmp key row (r ∷ rs) ≡ step_row cmp key (key row) row (λ r. r) (r ∷ rs)
      by rest Less e = rw e refl
      by rest Equal e = let no : r ∷ only cmp key (key row) rs ≡ [] = rw e at none in absurd cc
      by rest Greater e = rw e (ap (λ xs. r ∷ xs) (rest (rw e at none)))

-- tabs that are put: each under its id, and in order
pub record IsPut (tabs done : List Tab) : Type 0 where
  pub same : Same done tabs
  pub sorted : IsStrictlySortedBy int_cmp (map tab_key done)

put-next : (known more : List Tab) (t : Tab) (rest : List Tab) → ((q : ℤ) → AtMostOne (under q (more ++ t ∷ rest)))
    → IsPut more known → IsPut (more ++ t ∷ []) (put_row int_cmp tab_key t known)
put-next known more t rest one put =
    let none : under (tab_key t) known ≡ [] = put.same (tab_key t) ∙ absent in
    let is = put-fresh int_cmp tab_key t known none in
    record {
      same = λ q. ap (under q) is ∙ by none q (is_eq (int_cmp q (tab_key t))) refl;
      sorted = subst (λ ts. IsStrictlySortedBy int_cmp (map tab_key ts)) (sym is)
          (sorted-step int_cmp tab_key int_cmp_total (tab_key t) t (λ r. r) known refl (λ r. refl) put.sorted);
    }
  where
    before : (xs : List Tab) → AtMostOne (xs ++ t ∷ under (tab_key t) rest) → xs ≡ []
    before [] h = refl
    before (x ∷ xs) h = absurd (some xs h)
      where
        some : (xs : List Tab) → xs ++ t ∷ under (tab_key t) rest ≡ [] → ⊥
        some [] h = absurd cc
        some (x ∷ xs) h = absurd cc

    absent : under (tab_key t) more ≡ []
    absent =
        let parts : under (tab_key t) (more ++ t ∷ rest) ≡ under (tab_key t) more ++ t ∷ under (tab_key t) rest =
        under-append (tab_key t) more (t ∷ rest) ∙ rw (equals_itself (tab_key t)) refl in
        before (under (tab_key t) more) (subst AtMostOne parts (one (tab_key t)))

    by : under (tab_key t) known ≡ [] → (q : ℤ) (b : Bool) → is_eq (int_cmp q (tab_key t)) ≡ b
        → under q (step_row int_cmp tab_key (tab_key t) t (λ r. r) known) ≡ under q (more ++ t ∷ [])
    by none q true e =
        let key = same_key q (tab_key t) e in
        let own : int_cmp (tab_key t) (tab_key t) ≡ Equal = itself (tab_key t) in
        let made = only-made int_cmp tab_key int_cmp_total exact_signed (tab_key t) t (λ r. r) known own none in
        let here : under (tab_key t) (more ++ t ∷ []) ≡ t ∷ [] =
        under-append (tab_key t) more (t ∷ []) ∙ rw (equals_itself (tab_key t)) (ap (λ xs. xs ++ t ∷ []) absent) in
        subst (λ j. under j (step_row int_cmp tab_key (tab_key t) t (λ r. r) known) ≡ under j (more ++ t ∷ []))
        (sym key) (made ∙ sym here)
    by none q false e =
        let own : int_cmp (tab_key t) (tab_key t) ≡ Equal = itself (tab_key t) in
        let beside = only-beside int_cmp tab_key int_cmp_total exact_signed q (tab_key t) t (λ r. r) known e own
        (λ r. refl) in
        let here : under q (more ++ t ∷ []) ≡ under q more =
        under-append q more (t ∷ []) ∙ rw e (append-nil (under q more)) in
        beside ∙ put.same q ∙ sym here

put-all : (known more rest : List Tab) → ((q : ℤ) → AtMostOne (under q (more ++ rest))) → IsPut more known
    → IsPut (more ++ rest) (with_tabs known rest)
put-all known more [] one put = subst (λ ts. IsPut ts known) (sym (append-nil more)) put
put-all known more (t ∷ rest) one put =
    let moved : (more ++ t ∷ []) ++ rest ≡ more ++ t ∷ rest = append_assoc more (t ∷ []) rest in
    subst (λ ts. IsPut ts (with_tabs (put_row int_cmp tab_key t known) rest)) moved
    (put-all (put_row int_cmp tab_key t known) (more ++ t ∷ []) rest
    (subst (λ ts. (q : ℤ) → AtMostOne (under q ts)) (sym moved) one)
    (put-next known more t rest one put))

pub tabs-put : (tabs : List Tab) → ((q : ℤ) → AtMostOne (under q tabs)) → IsPut tabs (with_tabs [] tabs)
unfolding IsStrictlySortedBy
tabs-put tabs one = put-all [] [] tabs one (record { same = λ q. refl; sorted = tt })
