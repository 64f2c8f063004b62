-- What a verb that opens a window or a tab makes of a state, and of the orders of tabs.
use Rattle.std.specs.Prelude.{ℤ, pos, Bool, not, ◌&&◌, ◌||◌, nat_le, [], ◌∷◌, length, None, is_some, Ok}
use Rattle.std.specs.List.{insert}
use Rattle.std.specs.Ordering.{int_cmp}
use Rattle.session_commands.specs.declared.command.SessionCommand.TheVariants.{TabIndex, TabWindow, WindowKind}
use Rattle.window_state.specs.declared.change.TabEdit.TheVariants.{Index}
use Rattle.window_state.specs.Keys.{tab_key}
use Rattle.window_state.specs.Limits.{limit}
use Rattle.window_state.specs.RowLists.{find_row}
use Rattle.window_state.specs.States.{State, placed, stands}
use Rattle.browser_driver.specs.Orders.{order_of}
use Rattle.browser_driver.specs.Plans.{Plan, refuses_where, with_edit}
use Rattle.browser_driver.specs.SeatPlans.{Parts, SeatPlan, set_order}
use Rattle.browser_driver.specs.WindowPlans.{does}
use Rattle.browser_driver.specs.declared.fault.VerbFault.TheVariants.{Full, Taken}

abbrev pub opens_window : ℤ → State → Plan
opens_window id s = refuses_where (stands id s.windows) (Taken id)
    (refuses_where (nat_le limit (length s.windows)) (Full id) (does (WindowKind id (pos 0)) s))

abbrev pub is_there : ℤ → State → Bool
is_there id s = is_some (find_row int_cmp tab_key id s.tabs)

-- there are as many tabs as there may be, or as many windows, and this one isn't among them
abbrev pub lacks_room : ℤ → State → Bool
lacks_room window s =
    nat_le limit (length s.tabs) || (not (stands window s.windows) && nat_le limit (length s.windows))

-- the tab goes last in the window
abbrev pub opens_last : ℤ → ℤ → Parts → SeatPlan
opens_last window id old =
    let order = order_of window old.orders in
    let place = length order in
    Ok (record {
      state = with_edit id (Index (pos place)) (placed window id old.state);
      orders = set_order window (insert order place id) old.orders;
      session = TabWindow window id ∷ TabIndex id (pos place) ∷ [];
      left = None;
    })

abbrev pub opens_tab : ℤ → ℤ → Parts → SeatPlan
opens_tab window id old = refuses_where (is_there id old.state) (Taken id)
    (refuses_where (lacks_room window old.state) (Full id) (opens_last window id old))
