-- The orders of windows' tabs: under each window, the ids of its tabs in order of place.
use Rattle.std.specs.Prelude.{◌≡◌, ℕ, suc, ◌-◌, ℤ, List, [], ◌++◌, take, drop, if◌then◌else◌}
use Rattle.std.specs.List.{remove}
use Rattle.std.specs.Option.{unwrap_or}
use Rattle.std.specs.Map.{lookup}
use Rattle.std.specs.BTreeMap.{is_at}
use Rattle.std.specs.Ordering.{int_cmp, int_eq}

-- a window without an order has no tabs
abbrev pub order_of : ℤ → List (ℤ × List ℤ) → List ℤ
order_of window orders = unwrap_or (lookup (is_at (int_cmp window)) orders) []

-- the order of a window becomes this one, and no other changes
abbrev pub SetsOrder : ℤ → List ℤ → List (ℤ × List ℤ) → List (ℤ × List ℤ) → Type 0
SetsOrder window ids old new = (w : ℤ) → order_of w new ≡ (if int_eq window w then ids else order_of w old)

abbrev pub SameOrders : List (ℤ × List ℤ) → List (ℤ × List ℤ) → Type 0
SameOrders old new = (w : ℤ) → order_of w new ≡ order_of w old

-- the tab at one place goes to another
abbrev pub moved : ℕ → ℕ → List ℤ → List ℤ
moved from to ids = take to (remove ids from) ++ (take 1 (drop from ids) ++ drop to (remove ids from))

-- those from a place to another, both among them
abbrev pub between : ℕ → ℕ → List ℤ → List ℤ
between first last ids = take (suc (last - first)) (drop first ids)
