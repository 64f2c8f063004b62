-- A row that is changed in its place.
use Rattle.std.proofs.Common.{◌≡◌, ◌≤◌, nat_le, length, Bool, true, false, List, [], ◌∷◌, map, Option, Some, None}
use Rattle.std.proofs.Common.{is_some, refl, sym, ap, subst, ◌∙◌, arith}
use Rattle.std.specs.declared.cmp.Ordering.{Ordering}
use Rattle.std.specs.declared.cmp.Ordering.TheVariants.{Less, Equal, Greater}
use Rattle.std.specs.Ordering.{is_eq}
use Rattle.std.specs.List.{AllByRecursion}
use Rattle.std.specs.List.Sorted.{IsStrictlySortedBy}
use Rattle.std.specs.Cmp.{IsTotalOrder}
use Rattle.std.specs.Map.{keys_of, values_of, lookup, set_value}
use Rattle.std.specs.BTreeMap.{is_at}
use Rattle.std.proofs.lemmas.Bool.Decides.{nat_tests}
use Rattle.std.proofs.lemmas.List.{length-map}
use Rattle.std.proofs.lemmas.Map.{lookup-none}
use Rattle.std.proofs.lemmas.Map.Keys.{sorted_head, sorted_tail}
use Rattle.std.proofs.lemmas.Map.Entries.{none_below_head}
use Rattle.window_state.specs.Limits.{limit}
use Rattle.window_state.specs.RowLists.{find_row, on_key, step_row, IsKeyed}
use Rattle.window_state.proofs.RowLaws.{find-values}
use Rattle.window_state.proofs.OnlyLaws.{step-map}

module _ {K R : Type 0} (cmp : K → K → Ordering) (key : R → K) where
  above : IsTotalOrder cmp → (k y : K) (change : R → R) (es : List (K × R)) → cmp k y ≡ Equal
      → AllByRecursion (λ z. cmp y z ≡ Less) (keys_of es) → IsKeyed key es
      → map (on_key cmp key k change) (values_of es) ≡ values_of es
  above total k y change [] same all keyed = refl
  above total k y change (e ∷ es) same all keyed =
      let less : cmp k (key e.1) ≡ Less = ap (cmp k) (sym keyed.0) ∙ total.congr k y e.0 same ∙ all.0 in
      rw less (ap (λ rs. e.1 ∷ rs) (above total k y change es same all.1 keyed.1))

  pub edit-values : IsTotalOrder cmp → (k : K) (r : R) (change : R → R) (es : List (K × R))
      → IsStrictlySortedBy cmp (keys_of es) → lookup (is_at (cmp k)) es ≡ Some r → IsKeyed key es
      → values_of (set_value (is_at (cmp k)) es (change r)) ≡ map (on_key cmp key k change) (values_of es)
  edit-values total k r change [] sorted found keyed = absurd cc
  edit-values total k r change (e ∷ es) sorted found keyed =
      by (λ later. edit-values total k r change es (sorted_tail cmp e.0 (keys_of es) sorted) later keyed.1) (cmp k e.0)
      refl
    where
      by : (lookup (is_at (cmp k)) es ≡ Some r
          → values_of (set_value (is_at (cmp k)) es (change r)) ≡ map (on_key cmp key k change) (values_of es))
          → (o : Ordering) → cmp k e.0 ≡ o
          → values_of (set_value (is_at (cmp k)) (e ∷ es) (change r))
          ≡ map (on_key cmp key k change) (values_of (e ∷ es))
      by rest Less is =
          let none = lookup-none (is_at (cmp k)) (e ∷ es) (none_below_head total k e es sorted is) in
          absurd cc
      by rest Equal is =
          let is' : cmp k (key e.1) ≡ Equal = ap (cmp k) (sym keyed.0) ∙ is in
          let found' : Some e.1 ≡ Some r = rw is at found in
          let same : e.1 ≡ r = cc in
          let others = above total k e.0 change es is (sorted_head cmp e.0 (keys_of es) sorted) keyed.1 in
          rw (is, is', others) (ap (λ row. change row ∷ values_of es) (sym same))
      by rest Greater is =
          let is' : cmp k (key e.1) ≡ Greater = ap (cmp k) (sym keyed.0) ∙ is in
          rw (is, is') (ap (λ rs. e.1 ∷ rs) (rest (rw is at found)))

  -- no row has the key
  pub map-none : (k : K) (change : R → R) (rows : List R) → find_row cmp key k rows ≡ None
      → map (on_key cmp key k change) rows ≡ rows
  map-none k change [] found = refl
  map-none k change (r ∷ rs) found = by (map-none k change rs) (is_eq (cmp k (key r))) refl
    where
      by : (find_row cmp key k rs ≡ None → map (on_key cmp key k change) rs ≡ rs) → (b : Bool)
          → is_eq (cmp k (key r)) ≡ b → map (on_key cmp key k change) (r ∷ rs) ≡ r ∷ rs
      by rest true is = let found' : Some r ≡ None = rw is at found in absurd cc
      by rest false is = rw is (ap (λ rs. r ∷ rs) (rest (rw is at found)))

  pub edit-none : (k : K) (change : R → R) (es : List (K × R)) → lookup (is_at (cmp k)) es ≡ None → IsKeyed key es
      → values_of es ≡ map (on_key cmp key k change) (values_of es)
  edit-none k change es found keyed =
      sym (map-none k change (values_of es) (sym (find-values cmp key k es keyed) ∙ found))

  module _ (total : IsTotalOrder cmp) (exact : (x y : K) → cmp x y ≡ Equal → x ≡ y) (k : K) (fresh : R)
      (change : R → R) (rows : List R) (sorted : IsStrictlySortedBy cmp (map key rows)) where
    -- a change of a row that stands makes no row
    pub room-standing : is_some (find_row cmp key k rows) ≡ true → length rows ≤ limit
        → nat_le (length (step_row cmp key k fresh change rows)) limit ≡ true
    room-standing found small =
        let same = ap length (step-map cmp key total exact k fresh change rows sorted found)
        ∙ length-map rows (on_key cmp key k change) in
        grind (arith, nat_tests)

    -- what holds of rows in order, and of them after a step where the row stands, holds of them after an edit
    pub edited : (P : List R → Type 0) → P rows
        → (is_some (find_row cmp key k rows) ≡ true → P (step_row cmp key k fresh change rows))
        → P (map (on_key cmp key k change) rows)
    edited P old new = by (find_row cmp key k rows) refl
      where
        by : (o : Option R) → find_row cmp key k rows ≡ o → P (map (on_key cmp key k change) rows)
        by None is = subst P (sym (map-none k change rows is)) old
        by (Some r) is =
            let found : is_some (find_row cmp key k rows) ≡ true = ap is_some is in
            subst P (step-map cmp key total exact k fresh change rows sorted found) (new found)
