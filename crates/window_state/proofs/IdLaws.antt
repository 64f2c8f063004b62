-- Ids are told apart by their order, and tabs by their ids.
use Rattle.std.proofs.Common.{◌≡◌, Bool, true, false, ℤ, List, ◌++◌, refl}
use Rattle.std.specs.Ordering.{int_cmp, is_eq}
use Rattle.std.proofs.lemmas.Map.Lookups.{exact_signed}
use Rattle.std.proofs.lemmas.List.Elements.{filter-append}
use Rattle.window_state.specs.declared.tab.Tab.{Tab}
use Rattle.window_state.specs.Keys.{tab_key}
use Rattle.window_state.specs.TabLists.{under}
use Rattle.window_state.proofs.FindLaws.{is_equal}
use Rattle.window_state.proofs.StateLaws.{itself}

pub equals_itself : (x : ℤ) → is_eq (int_cmp x x) ≡ true
equals_itself x = rw (itself x) refl

pub same_key : (x y : ℤ) → is_eq (int_cmp x y) ≡ true → x ≡ y
same_key x y e = exact_signed x y (is_equal (int_cmp x y) e)

pub flip : (x y : ℤ) → is_eq (int_cmp x y) ≡ false → is_eq (int_cmp y x) ≡ false
flip x y e = by (is_eq (int_cmp y x)) refl
  where
    by : (b : Bool) → is_eq (int_cmp y x) ≡ b → is_eq (int_cmp y x) ≡ false
    by false is = is
    by true is =
        let same : y ≡ x = same_key y x is in
        let e' : is_eq (int_cmp x x) ≡ false = rw same at e in
        let t = equals_itself x in
        absurd cc

pub under-append : (id : ℤ) (xs ys : List Tab) → under id (xs ++ ys) ≡ under id xs ++ under id ys
under-append id xs ys = filter-append (λ t. is_eq (int_cmp id (tab_key t))) xs ys
