-- Sums that stop at the greatest number of their type.
use Rattle.std.proofs.Common.{◌≡◌, ℕ, ◌+◌, ◌≤◌, min, List, [], sum_by, arith}

-- the greatest number of usize
abbrev pub greatest : ℕ
greatest = 18446744073709551615

-- nothing is left to add
pub all_added : {X : Type 0} (f : X → ℕ) (left : List X) (sum whole most : ℕ) → left ≡ [] → sum ≤ most → min (sum + sum_by f left) most ≡ min whole most → sum ≡ min whole most
all_added f left sum whole most none within e = let e' = rw none at e in omega arith
