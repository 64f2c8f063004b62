-- Positions among tabs and pages, and how many pages there can be.
use Rattle.std.proofs.Common.{◌≡◌, ℕ, zero, suc, ◌+◌, ◌≤◌, ◌^◌, cond, not, int_le, Bool, ℤ, pos, ◌+ℤ◌, ◌≤ℤ◌, ◌-◌, FitsSigned, w32, List, [], ◌∷◌, map, length, Some, refl, sym, ap, arith, position, slice_get}
use Rattle.std.specs.List.{position_or_len}
use Rattle.std.specs.Option.{unwrap_or}
use Rattle.std.proofs.lemmas.Int.{ints}
use Rattle.std.proofs.lemmas.List.{length-map}
use Rattle.navigation_entry.specs.declared.navigation.Navigation.{Navigation}
use Rattle.tab_pages.specs.PageLists.{IsRising}
use Rattle.tab_pages.specs.Positions.{first_from}

-- an index is no less than the number of pages before it
rising-at : (least : ℤ) (pages : List (ℤ × Navigation)) (i : ℕ) (page : ℤ × Navigation) → IsRising least pages → slice_get pages i ≡ Some page → (least +ℤ pos i) ≤ℤ page.0
rising-at least [] i page rising at = absurd cc
rising-at least (p ∷ ps) zero page rising at =
    let same : p ≡ page = cc in
    let first : p.0 ≡ page.0 = ap (λ x. x.0) same in
    let from = rising.0 in
    omega (arith, ints)
rising-at least (p ∷ ps) (suc i) page rising at =
    let later = rising-at (p.0 +ℤ pos 1) ps i page rising.1 at in
    let from = rising.0 in
    omega (arith, ints)

pub few_pages : (pages : List (ℤ × Navigation)) (last : ℤ × Navigation) → IsRising (pos 0) pages → FitsSigned w32 last.0 → Some last ≡ slice_get pages (length pages - 1) → length pages ≤ 2 ^ 31
few_pages pages last rising fits at =
    let index = rising-at (pos 0) pages (length pages - 1) last rising (sym at) in
    omega (arith, ints)

position_or_len-map : {X Y : Type 0} (p : Y → Bool) (f : X → Y) (xs : List X) → position_or_len p (map f xs) ≡ position_or_len (λ x. p (f x)) xs
position_or_len-map p f [] = refl
position_or_len-map p f (x ∷ xs) = ap (λ n. cond (not (p (f x))) (1 + n) 0) (position_or_len-map p f xs)

position-map : {X Y : Type 0} (p : Y → Bool) (f : X → Y) (xs : List X) → position p (map f xs) ≡ position (λ x. p (f x)) xs
position-map p f xs = rw (position_or_len-map p f xs, length-map xs f) refl

pub first_from-map : {X : Type 0} (least : ℤ) (f : X → ℤ) (xs : List X) → first_from least (map f xs) ≡ unwrap_or (position (λ x. int_le least (f x)) xs) (length xs - 1)
first_from-map least f xs = rw (position-map (int_le least) f xs, length-map xs f) refl
