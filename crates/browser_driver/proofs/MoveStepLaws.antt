-- The step of a tab that moves: what is asked for, and which of the two it is.
use Rattle.std.specs.Prelude.{Result, Ok, Err}
use Rattle.std.proofs.Common.{◌≡◌, ℕ, ◌<◌, ◌≤◌, nat_lt, Bool, true, false, if◌then◌else◌, int_lt, ℤ, pos, negsuc}
use Rattle.std.proofs.Common.{List, length, Option, Some, None, is_some, refl, sym, ap, subst, ◌∙◌, arith, FitsSigned}
use Rattle.std.proofs.Common.{w32, to_z, of_z}
use Rattle.std.specs.List.{remove}
use Rattle.std.specs.Ordering.{int_cmp, int_eq}
use Rattle.std.specs.Result.{IsErrAnd}
use Rattle.std.proofs.lemmas.Bool.Decides.{nat_tests}
use Rattle.std.proofs.lemmas.Int.{ints, to_z-of_z}
use Rattle.std.proofs.lemmas.List.Edits.{length-remove}
use Rattle.window_state.specs.declared.window.Window.{Window}
use Rattle.window_state.specs.Keys.{window_key}
use Rattle.window_state.specs.RowLists.{find_row}
use Rattle.window_state.proofs.IdLaws.{equals_itself, same_key, flip}
use Rattle.browser_model.specs.Pictures.{nat_of}
use Rattle.browser_driver.specs.Acts.{is_above}
use Rattle.browser_driver.specs.MovePlans.{within_step, elsewhere_step, move_step, others, moves_seated, moves}
use Rattle.browser_driver.specs.Orders.{order_of}
use Rattle.browser_driver.specs.Plans.{refuses_where, with_row}
use Rattle.browser_driver.specs.SeatPlans.{Parts, SeatPlan, SeatStep, SameParts, DoneParts, FollowsSeats}
use Rattle.browser_driver.specs.Seats.{HasSeat}
use Rattle.browser_driver.specs.declared.fault.ActError.{ActError}
use Rattle.browser_driver.specs.declared.fault.ActError.TheVariants.{Refused, Memory}
use Rattle.browser_driver.specs.declared.fault.VerbFault.TheVariants.{NoWindow, Place}
use Rattle.browser_driver.specs.declared.issued.Issued.{Issued}

-- windows that are the same number, or aren't
pub same-window : (v w : ℤ) → FitsSigned w32 v → FitsSigned w32 w → of_z w32 v ≡ of_z w32 w → int_eq v w ≡ true
same-window v w of_v of_w bits =
    let is : v ≡ w = sym (to_z-of_z w32 v of_v) ∙ ap (to_z w32) bits ∙ to_z-of_z w32 w of_w in
    ap (int_eq v) (sym is) ∙ equals_itself v

pub other-window : (v w : ℤ) → (of_z w32 v ≡ of_z w32 w → ⊥) → int_eq v w ≡ false
other-window v w apart = by (int_eq v w) refl
  where
    by : (b : Bool) → int_eq v w ≡ b → int_eq v w ≡ false
    by true e = absurd (apart (ap (of_z w32) (same_key v w e)))
    by false e = e

module _ (id own window : ℤ) (from to : ℕ) (old : Parts) where
  pub is-within : int_eq window own ≡ true → move_step id own window from to old ≡ within_step own from to old
  is-within same =
      ap (λ b. if b then within_step own from to old else elsewhere_step id own window from to old) same

  pub is-elsewhere : int_eq window own ≡ false
      → move_step id own window from to old ≡ elsewhere_step id own window from to old
  is-elsewhere apart =
      ap (λ b. if b then within_step own from to old else elsewhere_step id own window from to old) apart

module _ (own window : ℤ) (from : ℕ) (orders : List (ℤ × List ℤ)) where
  pub others-own : int_eq window own ≡ true → others own from orders window ≡ length (remove (order_of own orders) from)
  others-own same =
      ap (others own from orders) (same_key window own same)
      ∙ ap (λ b. length (if b then remove (order_of own orders) from else order_of own orders)) (equals_itself own)

  pub others-beside : int_eq window own ≡ false → others own from orders window ≡ length (order_of window orders)
  others-beside apart =
      ap (λ b. length (if b then remove (order_of own orders) from else order_of window orders)) (flip window own apart)

  pub room-within : (to : ℕ) → to ≤ others own from orders window → int_eq window own ≡ true
      → from < length (order_of own orders) → to < length (order_of own orders)
  room-within to room same within =
      let count = others-own same in
      let less = length-remove (order_of own orders) from within in
      omega (arith, room, count, less)

  pub room-elsewhere : (to : ℕ) → to ≤ others own from orders window → int_eq window own ≡ false
      → to ≤ length (order_of window orders)
  room-elsewhere to room apart = let count = others-beside apart in omega (arith, room, count)

-- numbers that were written and read again
pub plain-three : (P : ℤ → ℤ → ℤ → Type 0) (x y z : ℤ) → FitsSigned w32 x → FitsSigned w32 y → FitsSigned w32 z
    → P (to_z w32 (of_z w32 x)) (to_z w32 (of_z w32 y)) (to_z w32 (of_z w32 z)) → P x y z
plain-three P x y z of_x of_y of_z_ h =
    subst (λ q. P q y z) (to_z-of_z w32 x of_x)
    (subst (λ q. P (to_z w32 (of_z w32 x)) q z) (to_z-of_z w32 y of_y)
    (subst (P (to_z w32 (of_z w32 x)) (to_z w32 (of_z w32 y))) (to_z-of_z w32 z of_z_) h))

-- a place that is above a number
pub above-is : (place : ℤ) (n : ℕ) → is_above place n ≡ nat_lt n (nat_of place)
above-is (pos k) n = by (nat_lt n k) refl
  where
    by : (b : Bool) → nat_lt n k ≡ b → int_lt (pos n) (pos k) ≡ nat_lt n k
    by true e =
        let less : n < k = grind (arith, nat_tests) in
        let above : int_lt (pos n) (pos k) ≡ true = grind (arith, ints) in
        above ∙ sym e
    by false e =
        let least : k ≤ n = grind (arith, nat_tests) in
        let low : int_lt (pos n) (pos k) ≡ false = grind (arith, ints) in
        low ∙ sym e
above-is (negsuc k) n = let none : nat_lt n 0 ≡ false = grind (arith, nat_tests) in sym none

pub above-room : (place : ℤ) (n : ℕ) → is_above place n ≡ false → nat_of place ≤ n
above-room place n low =
    let low' : nat_lt n (nat_of place) ≡ false = sym (above-is place n) ∙ low in
    grind (arith, nat_tests)

module _ (id window place : ℤ) (old : Parts) (own : ℤ) (from : ℕ) (seat : HasSeat id old.state.tabs old.orders own from)
    (there : is_some (find_row int_cmp window_key window old.state.windows) ≡ true) where
  abbrev step : SeatStep
  step = move_step id own window from (nat_of place) old

  -- the plan for a tab with a seat
  plan-seated : moves id window place old ≡ moves_seated id window place old own from
  plan-seated =
      rw (seat.1, seat.2.window_is) (ap (λ z. moves_seated id window place old own (nat_of z)) seat.2.index_is)

  plan-open : moves_seated id window place old own from
      ≡ refuses_where (is_above place (others own from old.orders window)) (Place place) (Ok step)
  plan-open = by (find_row int_cmp window_key window old.state.windows) there
    where
      goes : SeatPlan
      goes = refuses_where (is_above place (others own from old.orders window)) (Place place) (Ok step)

      by : (o : Option Window) → is_some o ≡ true → with_row o (NoWindow window) (λ w. goes) ≡ goes
      by None there = absurd cc
      by (Some w) there = refl

  plan-is : (refused : Bool) → nat_lt (others own from old.orders window) (nat_of place) ≡ refused
      → moves id window place old ≡ refuses_where refused (Place place) (Ok step)
  plan-is refused e =
      plan-seated ∙ plan-open
      ∙ ap (λ b. refuses_where b (Place place) (Ok step)) (above-is place (others own from old.orders window) ∙ e)

  pub move-refused : others own from old.orders window < nat_of place
      → FollowsSeats (moves id window place old) old old (Err (Refused (Place place)))
  move-refused above =
      let over : nat_lt (others own from old.orders window) (nat_of place) ≡ true = grind (arith, nat_tests) in
      subst (λ plan. FollowsSeats plan old old (Err (Refused (Place place)))) (sym (plan-is true over))
      (refl, record { state = refl; orders = λ w. refl; closed = refl })

  pub move-done : (new : Parts) (made : Issued) → nat_of place ≤ others own from old.orders window
      → DoneParts step old new made → FollowsSeats (moves id window place old) old new (Ok made)
  move-done new made room done =
      let low : nat_lt (others own from old.orders window) (nat_of place) ≡ false = grind (arith, nat_tests) in
      subst (λ plan. FollowsSeats plan old new (Ok made)) (sym (plan-is false low)) done

-- want of memory, whatever was planned
pub memory-left : (plan : SeatPlan) (old new : Parts) → SameParts old new → FollowsSeats plan old new (Err Memory)
memory-left (Ok planned) old new same = same
memory-left (Err why) old new same = same

pub memory-answer : (plan : SeatPlan) (old new : Parts) (r : Result Issued ActError) → IsErrAnd r (λ e. e ≡ Memory)
    → SameParts old new → FollowsSeats plan old new r
memory-answer plan old new (Ok made) is same = absurd is
memory-answer plan old new (Err (Refused why)) is same = absurd cc
memory-answer plan old new (Err Memory) is same = memory-left plan old new same
