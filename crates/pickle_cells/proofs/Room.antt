-- A buffer of a pickle keeps its room where a cell is appended.
use Rattle.std.proofs.Common.{◌≡◌, ℕ, ◌+◌, ◌%◌, ◌≤◌, List, ◌++◌, length, drop, ap, arith, length-append, length-drop}
use Rattle.pickle_cells.specs.Written.{HasRoom}

pub HasRoom-more : (old cell new body : List ℕ) → HasRoom old → drop 4 old ≡ body → length body + length cell ≤ 65530 → length cell % 4 ≡ 0 → new ≡ old ++ cell → HasRoom new
HasRoom-more old cell new body room is short whole more =
    let long : length new ≡ length old + length cell = omega (arith, ap length more, length-append old cell) in
    let behind : length body + 4 ≡ length old = omega (arith, ap length is, length-drop 4 old, room.begun) in
    record { begun = omega (arith, room.begun); whole = omega (arith, room.whole); short = omega arith }

-- the body that was appended to is as much longer as the cell is long
pub length-more : (old cell new body : List ℕ) → HasRoom old → drop 4 old ≡ body → new ≡ old ++ cell → length (drop 4 new) ≡ length body + length cell
length-more old cell new body room is more =
    let long : length new ≡ length old + length cell = omega (arith, ap length more, length-append old cell) in
    omega (arith, ap length is, length-drop 4 old, length-drop 4 new, room.begun)
