-- The seat of each tab: its place in the order of its window, which is no longer than it may be.
use Rattle.std.specs.Prelude.{◌≡◌, ℕ, ◌+◌, ◌<◌, ◌≤◌, ℤ, pos, false, List, length, Some}
use Rattle.std.specs.Ordering.{int_cmp, int_eq}
use Rattle.window_state.specs.declared.tab.Tab.{Tab}
use Rattle.window_state.specs.Keys.{tab_key}
use Rattle.window_state.specs.Limits.{limit}
use Rattle.window_state.specs.RowLists.{find_row}
use Rattle.browser_driver.specs.Orders.{order_of}

pub record IsSeat (orders : List (ℤ × List ℤ)) (t : Tab) (window : ℤ) (place : ℕ) : Type 0 where
  pub window_is : t.window ≡ Some window
  pub index_is : t.index ≡ pos place
  pub within : place < length (order_of window orders)
  pub few : length (order_of window orders) ≤ limit

-- each tab has a seat
abbrev pub AreInSeats : List Tab → List (ℤ × List ℤ) → Type 0
AreInSeats tabs orders = (id : ℤ) (t : Tab) → find_row int_cmp tab_key id tabs ≡ Some t
    → (window : ℤ) × (place : ℕ) × IsSeat orders t window place

-- two windows together have no more tabs than there may be
abbrev pub AreFew : List (ℤ × List ℤ) → Type 0
AreFew orders = (v w : ℤ) → int_eq v w ≡ false → length (order_of v orders) + length (order_of w orders) ≤ limit

-- the tab with this id is there, and this is its seat
abbrev pub HasSeat : ℤ → List Tab → List (ℤ × List ℤ) → (window : ℤ) (place : ℕ) → Type 0
HasSeat id tabs orders window place =
    (t : Tab) × (find_row int_cmp tab_key id tabs ≡ Some t) × IsSeat orders t window place
