-- What a verb on a window makes of a state.
use Rattle.std.specs.Prelude.{ℤ, List, [], ◌∷◌, length, Result, Ok}
use Rattle.std.specs.Ordering.{int_cmp}
use Rattle.navigation_entry.specs.declared.bounds.Bounds.{Bounds}
use Rattle.session_commands.specs.declared.command.SessionCommand.{SessionCommand}
use Rattle.session_commands.specs.declared.command.SessionCommand.TheVariants.{ActiveWindow, SelectTab, WindowBounds}
use Rattle.window_state.specs.declared.window.Window.{Window}
use Rattle.window_state.specs.Keys.{window_key}
use Rattle.window_state.specs.RowLists.{find_row}
use Rattle.window_state.specs.States.{State}
use Rattle.replay_machine.specs.Step.{step}
use Rattle.browser_driver.specs.Acts.{isnt_below}
use Rattle.browser_driver.specs.Orders.{order_of}
use Rattle.browser_driver.specs.Plans.{Plan, refuses_where, with_row}
use Rattle.browser_driver.specs.declared.fault.VerbFault.{VerbFault}
use Rattle.browser_driver.specs.declared.fault.VerbFault.TheVariants.{NoWindow, Place}

abbrev pub at_window_row : {A : Type 0} → ℤ → State → (Window → Result A VerbFault) → Result A VerbFault
at_window_row id s plan = with_row (find_row int_cmp window_key id s.windows) (NoWindow id) plan

-- one command, and the state after it
abbrev pub does : SessionCommand → State → Plan
does command s = Ok (record { state = step s command; session = command ∷ [] })

abbrev pub selects : ℤ → ℤ → List (ℤ × List ℤ) → State → Plan
selects window place orders s = at_window_row window s (λ w.
    refuses_where (isnt_below place (length (order_of window orders))) (Place place) (does (SelectTab window place) s))

abbrev pub bounds_window : ℤ → Bounds → State → Plan
bounds_window window bounds s = at_window_row window s (λ w. does (WindowBounds window bounds) s)

abbrev pub activates : ℤ → State → Plan
activates window s = at_window_row window s (λ w. does (ActiveWindow window) s)
