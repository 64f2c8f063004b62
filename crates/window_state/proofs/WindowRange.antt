-- The entries between the least and the greatest place of a window are those of the window.
use Rattle.std.proofs.Common.{◌≡◌, ℤ, pos, negsuc, Bool, true, false, not, ◌&&◌, List, [], ◌∷◌, map, FitsSigned, w32, refl, ap, sym, ◌∙◌, arith}
use Rattle.std.specs.declared.cmp.Ordering.{Ordering}
use Rattle.std.specs.declared.cmp.Ordering.TheVariants.{Less, Equal, Greater}
use Rattle.std.specs.declared.ops.Bound.TheVariants.{Included}
use Rattle.std.specs.Ordering.{int_cmp, int_eq, is_eq, is_le, is_lt, ordering_then, ordering_reverse}
use Rattle.std.specs.Cmp.{int_cmp_total}
use Rattle.std.specs.List.{AllByRecursion}
use Rattle.std.specs.Map.{keys_of, values_of}
use Rattle.std.specs.BTreeMap.Range.{range_contains, entries_between}
use Rattle.std.proofs.lemmas.Int.{ints}
use Rattle.window_state.specs.declared.shown.Place.{Place}
use Rattle.window_state.specs.Shown.{place_order, first_in, last_in, FitsPlace, entries_in}

least : (x : ℤ) → FitsSigned w32 x → is_le (int_cmp (negsuc 2147483647) x) ≡ true
least x fits = grind (arith, ints)

greatest : (x : ℤ) → FitsSigned w32 x → is_lt (int_cmp (pos 2147483647) x) ≡ false
greatest x fits = grind (arith, ints)

both_le : (a b : Ordering) → is_le a ≡ true → is_le b ≡ true → is_le (ordering_then a b) ≡ true
both_le Less b p q = refl
both_le Equal b p q = q
both_le Greater b p q = p

none_lt : (a b : Ordering) → is_lt a ≡ false → is_lt b ≡ false → is_lt (ordering_then a b) ≡ false
none_lt Less b p q = p
none_lt Equal b p q = q
none_lt Greater b p q = refl

between : (o a b : Ordering) → is_le a ≡ true → is_lt b ≡ false → is_le (ordering_then o a) && not (is_lt (ordering_then o b)) ≡ is_eq (ordering_reverse o)
between Less a b low high = refl
between Equal a b low high = rw (low, high) refl
between Greater a b low high = refl

pub in_range : (w : ℤ) (p : Place) → FitsPlace p → range_contains place_order (Included (first_in w)) (Included (last_in w)) p ≡ int_eq p.window w
in_range w p fits =
    between (int_cmp w p.window) (ordering_then (int_cmp (negsuc 2147483647) p.index) (int_cmp (negsuc 2147483647) p.id)) (ordering_then (int_cmp (pos 2147483647) p.index) (int_cmp (pos 2147483647) p.id))
    (both_le _ _ (least p.index fits.0) (least p.id fits.1)) (none_lt _ _ (greatest p.index fits.0) (greatest p.id fits.1))
    ∙ ap is_eq (sym (int_cmp_total.antisymm p.window w))

-- what is made of the values between the two places
pub values-between : {X Y : Type 0} (f : X → Y) (w : ℤ) (es : List (Place × X)) → AllByRecursion FitsPlace (keys_of es)
    → map f (values_of (entries_between place_order (Included (first_in w)) (Included (last_in w)) es)) ≡ values_of (entries_in w (map (λ e. (e.0, f e.1)) es))
values-between f w [] fits = refl
values-between f w (e ∷ es) fits = by (values-between f w es fits.1) (int_eq e.0.window w) refl
  where
    by : map f (values_of (entries_between place_order (Included (first_in w)) (Included (last_in w)) es)) ≡ values_of (entries_in w (map (λ e. (e.0, f e.1)) es)) → (b : Bool) → int_eq e.0.window w ≡ b
        → map f (values_of (entries_between place_order (Included (first_in w)) (Included (last_in w)) (e ∷ es))) ≡ values_of (entries_in w (map (λ e. (e.0, f e.1)) (e ∷ es)))
    by rest true is = let inside : range_contains place_order (Included (first_in w)) (Included (last_in w)) e.0 ≡ true = in_range w e.0 fits.0 ∙ is in rw (inside, is) (ap (λ ys. f e.1 ∷ ys) rest)
    by rest false is = let outside : range_contains place_order (Included (first_in w)) (Included (last_in w)) e.0 ≡ false = in_range w e.0 fits.0 ∙ is in rw (outside, is) rest
