-- Pairs of windows and tabs in an ordered set: what the set's calls say of each pair.
use Rattle.std.proofs.Common.{◌≡◌, ℤ, Bool, true, false, not, ◌&&◌, if◌then◌else◌, FitsSigned, w32, pos, negsuc, List, ◌∷◌, ◌≤ℤ◌, Option, Some, None, IfSome, slice_get, true≢false, refl, sym, ap, subst, ◌∙◌, arith}
use Rattle.std.proofs.lemmas.Int.{ints}
use Rattle.std.proofs.lemmas.Map.Lookups.{exact_signed}
use Rattle.std.specs.List.{list_any}
use Rattle.std.specs.Ordering.{int_cmp, int_eq, is_eq, is_gt, eq_by_cmp, ordering_then}
use Rattle.std.specs.declared.cmp.Ordering.{Ordering}
use Rattle.std.specs.declared.cmp.Ordering.TheVariants.{Less, Equal, Greater}
use Rattle.std.specs.declared.ops.Bound.TheVariants.{Included}
use Rattle.std.specs.BTreeMap.Range.{IsInRange}
use Rattle.std.specs.BTreeSet.{BTreeSet, Updates, IsKeyInRange}
use Rattle.std.specs.Option.{option_eq}
use Rattle.window_state.specs.States.{is_in}
use Rattle.window_state.specs.Members.{pair_cmp, has_pair, AreInRange, SetsPair, LeavesWindow}
use Rattle.window_state.proofs.StateLaws.{itself}

same_pair : (a b c d : ℤ) → eq_by_cmp pair_cmp (a, b) (c, d) ≡ int_eq a c && int_eq b d
same_pair a b c d = elim (int_cmp a c) as (λ o. is_eq (ordering_then o (int_cmp b d)) ≡ is_eq o && int_eq b d) [ Less ↦ refl | Equal ↦ refl | Greater ↦ refl ]

pub same_number : (x y : ℤ) → int_eq x y ≡ true → x ≡ y
same_number x y e = grind (arith, ints)

-- what the set's own calls say of a pair
pub sets-pair : (window tab w' t' : ℤ) (there : Bool) (old new : BTreeSet (ℤ × ℤ)) → w' ≡ window → t' ≡ tab → Updates pair_cmp old new (w', t') there → SetsPair window tab there old.keys new.keys
sets-pair window tab w' t' there old new same same' updates =
    λ w t. updates.0 (w, t) ∙ ap (λ b. if b then there else has_pair w t old.keys) (rw (same, same') (same_pair window tab w t))

pub in_range-set : (window tab : ℤ) (there : Bool) (old new : List (ℤ × ℤ)) → FitsSigned w32 tab → SetsPair window tab there old new → AreInRange old → AreInRange new
in_range-set window tab there old new fits set range = λ w t has. by w t (int_eq window w) refl (int_eq tab t) refl (sym (set w t) ∙ has)
  where
    by : (w t : ℤ) → (a : Bool) → int_eq window w ≡ a → (b : Bool) → int_eq tab t ≡ b → (if int_eq window w && int_eq tab t then there else has_pair w t old) ≡ true → FitsSigned w32 t
    by w t a p true q has = subst (FitsSigned w32) (same_number tab t q) fits
    by w t true p false q has = range w t (rw (p, q) at has)
    by w t false p false q has = range w t (rw p at has)

-- a pair that goes is that of a window which the tab left
differs : (window own : ℤ) (to : Option ℤ) → option_eq int_eq to (Some window) ≡ false → int_eq window own ≡ true → is_in own to ≡ false
differs window own None apart same = refl
differs window own (Some other) apart same = subst (λ w. int_eq other w ≡ false) (same_number window own same) apart

not_true : (b : Bool) → not b ≡ true → b ≡ false
not_true true e = sym e
not_true false e = refl

pub leaves-window : (tab window : ℤ) (from to : Option ℤ) (old old' new : List (ℤ × ℤ)) → from ≡ Some window → old ≡ old' → not (option_eq int_eq to (Some window)) ≡ true → SetsPair window tab false old new → LeavesWindow tab from to old' new
leaves-window tab window from to old old' new first same ne set = rw (first, ← same) (λ w t. set w t ∙ by w t (int_eq window w) refl (int_eq tab t) refl)
  where
    apart : option_eq int_eq to (Some window) ≡ false
    apart = not_true (option_eq int_eq to (Some window)) ne

    by : (w t : ℤ) → (a : Bool) → int_eq window w ≡ a → (b : Bool) → int_eq tab t ≡ b → (if int_eq window w && int_eq tab t then false else has_pair w t old) ≡ has_pair w t old && not (int_eq tab t && int_eq window w && not (is_in w to))
    by w t true p true q = rw (p, q, differs window w to apart p) (elim (has_pair w t old) as (λ b. false ≡ b && false) [ true ↦ refl | false ↦ refl ])
    by w t true p false q = rw (p, q) (elim (has_pair w t old) as (λ b. b ≡ b && true) [ true ↦ refl | false ↦ refl ])
    by w t false p true q = rw (p, q) (elim (has_pair w t old) as (λ b. b ≡ b && true) [ true ↦ refl | false ↦ refl ])
    by w t false p false q = rw (p, q) (elim (has_pair w t old) as (λ b. b ≡ b && true) [ true ↦ refl | false ↦ refl ])

-- the first pair of a window
level : (x y : ℤ) (a b : Ordering) → is_gt (ordering_then (int_cmp x y) a) ≡ false → is_gt (ordering_then (int_cmp y x) b) ≡ false → y ≡ x
level x y a b up down = by (int_cmp x y) refl
  where
    by : (o : Ordering) → int_cmp x y ≡ o → y ≡ x
    by Less is =
        let turned : int_cmp y x ≡ Greater = grind (arith, ints) in
        let down' : true ≡ false = rw turned at down in
        absurd (true≢false down')
    by Equal is = sym (exact_signed x y is)
    by Greater is =
        let up' : true ≡ false = rw is at up in
        absurd (true≢false up')

pub first_pair : (window window' low high : ℤ) (start end pair : ℤ × ℤ) (rest range : List (ℤ × ℤ)) (set : BTreeSet (ℤ × ℤ)) → window' ≡ window → start ≡ (window', low) → end ≡ (window', high) → range ≡ pair ∷ rest
    → IfSome (slice_get range 0) (IsKeyInRange pair_cmp (Included start) (Included end) set) → has_pair window pair.1 set.keys ≡ true
first_pair window window' low high start end pair rest range set same first last steps found =
    let within = rw (steps, first, last, same) at found in
    let here = level window pair.0 (int_cmp low pair.1) (int_cmp pair.1 high) within.0.0 within.0.1 in
    subst (λ w. has_pair w pair.1 set.keys ≡ true) here within.1

-- a window without a pair
pub bounds : (t : ℤ) → FitsSigned w32 t → (negsuc 2147483647 ≤ℤ t) × (t ≤ℤ pos 2147483647)
bounds t fits = (omega (arith, ints), omega (arith, ints))

pub no_pair : (window window' low high : ℤ) (start end : ℤ × ℤ) (pairs pairs' : List (ℤ × ℤ)) → window' ≡ window → start ≡ (window', low) → end ≡ (window', high) → ((t : ℤ) → FitsSigned w32 t → (low ≤ℤ t) × (t ≤ℤ high))
    → AreInRange pairs → ((q : ℤ × ℤ) → IsInRange pair_cmp (Included start) (Included end) q → list_any (eq_by_cmp pair_cmp q) pairs ≡ false) → pairs ≡ pairs' → (t : ℤ) → has_pair window t pairs' ≡ false
no_pair window window' low high start end pairs pairs' same first last bounds range none view t = subst (λ ps. has_pair window t ps ≡ false) view (by (has_pair window t pairs) refl)
  where
    by : (b : Bool) → has_pair window t pairs ≡ b → has_pair window t pairs ≡ false
    by false is = is
    by true has =
        let within = bounds t (range window t has) in
        let above : is_gt (int_cmp low t) ≡ false = grind (arith, ints) in
        let under : is_gt (int_cmp t high) ≡ false = grind (arith, ints) in
        none (window, t) (rw (first, last, same, itself window) (above, under))
