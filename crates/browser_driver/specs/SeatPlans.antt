-- What a verb makes of a state and of the orders of tabs, and what it closes.
use Rattle.std.specs.Prelude.{◌≡◌, ℕ, suc, ℤ, List, ◌∷◌, drop, Option, Some, None, option_map}
use Rattle.std.specs.Prelude.{Result, Ok, Err, if◌then◌else◌}
use Rattle.std.specs.List.{remove}
use Rattle.std.specs.Ordering.{int_eq}
use Rattle.std.specs.declared.alloc.AllocError.{AllocError}
use Rattle.closed_entries.specs.declared.entry.Entry.{Entry}
use Rattle.closed_entries.specs.declared.entry.Entry.TheVariants as entry
use Rattle.closed_entries.specs.declared.closed_tab.ClosedTab.{ClosedTab}
use Rattle.navigation_entry.specs.declared.group.GroupInfo.{GroupInfo}
use Rattle.session_commands.specs.declared.command.SessionCommand.{SessionCommand}
use Rattle.session_commands.specs.declared.command.SessionCommand.TheVariants.{TabClosed}
use Rattle.tab_pages.specs.PageLists.{has_page}
use Rattle.window_state.specs.declared.tab.Tab.{Tab}
use Rattle.window_state.specs.States.{State, tab_closed}
use Rattle.browser_model.specs.Entries.{known_group, left_commands, with_left}
use Rattle.browser_model.specs.Pictures.{nat_of}
use Rattle.browser_driver.specs.Issues.{issued}
use Rattle.browser_driver.specs.Orders.{order_of, SameOrders}
use Rattle.browser_driver.specs.Places.{places_of, with_places}
use Rattle.browser_driver.specs.Plans.{with_row, at_row}
use Rattle.browser_driver.specs.declared.fault.ActError.{ActError}
use Rattle.browser_driver.specs.declared.fault.ActError.TheVariants.{Refused, Memory}
use Rattle.browser_driver.specs.declared.fault.VerbFault.{VerbFault}
use Rattle.browser_driver.specs.declared.fault.VerbFault.TheVariants.{NoTab}
use Rattle.browser_driver.specs.declared.issued.Issued.{Issued}

-- the state, the order of each window, the commands, and what goes to the closed entries
pub record SeatStep : Type 0 where
  pub state : State
  pub orders : ℤ → List ℤ
  pub session : List SessionCommand
  pub left : Option Entry

abbrev pub SeatPlan : Type 0
SeatPlan = Result SeatStep VerbFault

-- what a call works on
pub record Parts : Type 0 where
  pub state : State
  pub orders : List (ℤ × List ℤ)
  pub closed : List Entry

abbrev pub parts : State → List (ℤ × List ℤ) → List Entry → Parts
parts state orders closed = record { state = state; orders = orders; closed = closed }

-- nothing has changed
pub record SameParts (old new : Parts) : Type 0 where
  pub state : new.state ≡ old.state
  pub orders : SameOrders old.orders new.orders
  pub closed : new.closed ≡ old.closed

-- the parts are what the step makes of them
pub record DoneParts (step : SeatStep) (old new : Parts) (made : Issued) : Type 0 where
  pub state : new.state ≡ step.state
  pub orders : (w : ℤ) → order_of w new.orders ≡ step.orders w
  pub closed : new.closed ≡ with_left step.left old.closed
  pub made_is : made ≡ issued step.session (left_commands step.left)

-- what a call does that follows the plan; after want of memory nothing has changed
abbrev pub FollowsSeats : SeatPlan → (old new : Parts) → Result Issued ActError → Type 0
FollowsSeats (Ok step) old new (Ok made) = DoneParts step old new made
FollowsSeats (Err why) old new (Ok made) = ⊥
FollowsSeats (Ok step) old new (Err (Refused why)) = ⊥
FollowsSeats (Err because) old new (Err (Refused why)) = (because ≡ why) × SameParts old new
FollowsSeats (Ok step) old new (Err Memory) = SameParts old new
FollowsSeats (Err because) old new (Err Memory) = SameParts old new

-- what a call does that takes the step; after want of memory nothing has changed
abbrev pub TakesStep : SeatStep → (old new : Parts) → Result Issued AllocError → Type 0
TakesStep step old new (Ok made) = DoneParts step old new made
TakesStep step old new (Err error) = SameParts old new

-- a row of a tab as it is closed
abbrev pub closed_row : List GroupInfo → ℤ → Tab → ClosedTab
closed_row groups moment t = record {
  id = t.info.id;
  selected = t.current;
  time = moment;
  pinned = t.info.pinned;
  extension = t.info.extension;
  agent = t.info.agent;
  group = option_map (known_group groups) t.info.group;
  pages = t.pages;
}

abbrev pub entry_of_row : List GroupInfo → ℤ → Tab → Option Entry
entry_of_row groups moment t = if has_page t.pages then Some (entry.Tab (closed_row groups moment t)) else None

-- a tab in a window, at a place
abbrev pub with_seat : Tab → VerbFault → (ℤ → ℕ → SeatPlan) → SeatPlan
with_seat t why plan = with_row t.window why (λ window. plan window (nat_of t.index))

-- the orders where that of one window is this one
abbrev pub set_order : ℤ → List ℤ → List (ℤ × List ℤ) → ℤ → List ℤ
set_order window ids orders w = if int_eq window w then ids else order_of w orders

abbrev pub closes_row : ℤ → ℤ → Parts → Tab → SeatPlan
closes_row id moment old t = with_seat t (NoTab id) (λ window place.
    let order = order_of window old.orders in
    let later = drop (suc place) order in
    Ok (record {
      state = with_places place later (tab_closed id old.state);
      orders = set_order window (remove order place) old.orders;
      session = TabClosed id moment ∷ places_of place later;
      left = entry_of_row old.state.groups moment t;
    }))

abbrev pub closes_tab : ℤ → ℤ → Parts → SeatPlan
closes_tab id moment old = at_row id old.state (closes_row id moment old)
