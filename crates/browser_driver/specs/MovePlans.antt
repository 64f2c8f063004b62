-- What a verb that moves a tab makes of a state and of the orders of tabs.
use Rattle.std.specs.Prelude.{ℕ, suc, min, max, ℤ, if◌then◌else◌, List, ◌∷◌, ◌++◌, drop, length, None, Ok}
use Rattle.std.specs.List.{insert, remove}
use Rattle.std.specs.Ordering.{int_eq}
use Rattle.session_commands.specs.declared.command.SessionCommand.TheVariants.{TabWindow}
use Rattle.window_state.specs.declared.tab.Tab.{Tab}
use Rattle.window_state.specs.States.{placed}
use Rattle.browser_model.specs.Pictures.{nat_of}
use Rattle.browser_driver.specs.Acts.{is_above}
use Rattle.browser_driver.specs.Orders.{order_of, moved, between}
use Rattle.browser_driver.specs.Places.{places_of, with_places}
use Rattle.browser_driver.specs.Plans.{at_row, refuses_where}
use Rattle.browser_driver.specs.SeatPlans.{Parts, SeatPlan, SeatStep, set_order, with_seat}
use Rattle.browser_driver.specs.WindowPlans.{at_window_row}
use Rattle.browser_driver.specs.declared.fault.VerbFault.TheVariants.{NoTab, Place}

-- within its window: the tabs from its old place to the new one are told their places
abbrev pub within_step : ℤ → ℕ → ℕ → Parts → SeatStep
within_step window from to old =
    let order = moved from to (order_of window old.orders) in
    let told = between (min from to) (max from to) order in
    record {
      state = with_places (min from to) told old.state;
      orders = set_order window order old.orders;
      session = places_of (min from to) told;
      left = None;
    }

-- to another window: the tabs behind it in its old one are told theirs, then it and those behind it in the new one
abbrev pub elsewhere_step : (id own window : ℤ) → ℕ → ℕ → Parts → SeatStep
elsewhere_step id own window from to old =
    let later = drop (suc from) (order_of own old.orders) in
    let order = insert (order_of window old.orders) to id in
    record {
      state = with_places to (drop to order) (with_places from later (placed window id old.state));
      orders = λ w. if int_eq own w then remove (order_of own old.orders) from else set_order window order old.orders w;
      session = (TabWindow window id ∷ places_of from later) ++ places_of to (drop to order);
      left = None;
    }

abbrev pub move_step : (id own window : ℤ) → ℕ → ℕ → Parts → SeatStep
move_step id own window from to old =
    if int_eq window own then within_step own from to old else elsewhere_step id own window from to old

-- how many tabs a window has without the one at this seat
abbrev pub others : ℤ → ℕ → List (ℤ × List ℤ) → ℤ → ℕ
others own from orders window = length (set_order own (remove (order_of own orders) from) orders window)

abbrev pub moves_seated : (id window place : ℤ) → Parts → ℤ → ℕ → SeatPlan
moves_seated id window place old own from = at_window_row window old.state (λ w.
    refuses_where (is_above place (others own from old.orders window)) (Place place)
    (Ok (move_step id own window from (nat_of place) old)))

abbrev pub moves_row : (id window place : ℤ) → Parts → Tab → SeatPlan
moves_row id window place old t = with_seat t (NoTab id) (moves_seated id window place old)

abbrev pub moves : (id window place : ℤ) → Parts → SeatPlan
moves id window place old = at_row id old.state (moves_row id window place old)
