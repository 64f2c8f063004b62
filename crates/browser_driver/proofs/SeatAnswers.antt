-- What a verb's call answers that changes orders and closed entries too.
use Rattle.std.specs.Prelude.{Result, Ok, Err}
use Rattle.std.proofs.Common.{◌≡◌, ℤ, Bool, true, false, List, Option, Some, None, option_map, refl, sym, ap, subst}
use Rattle.std.proofs.Common.{◌∙◌}
use Rattle.closed_entries.specs.declared.entry.Entry.{Entry}
use Rattle.window_state.specs.declared.tab.Tab.{Tab}
use Rattle.window_state.specs.declared.window.Window.{Window}
use Rattle.browser_model.specs.Browsers.{Browser, BrowserWindow, Stand, row_of, window_row}
use Rattle.browser_model.specs.Entries.{left_commands, with_left}
use Rattle.browser_model.specs.Tabs.{stand_of}
use Rattle.browser_driver.specs.Acts.{Answer, at_tab, at_window, refused_where, window_of, with_found}
use Rattle.browser_driver.specs.Answers.{outcome_of}
use Rattle.browser_driver.specs.Held.{held, IsHeld}
use Rattle.browser_driver.specs.Issues.{issued}
use Rattle.browser_driver.specs.Orders.{order_of}
use Rattle.browser_driver.specs.Plans.{with_row, at_row, refuses_where}
use Rattle.browser_driver.specs.SeatPlans.{SeatPlan, Parts, SameParts, FollowsSeats}
use Rattle.browser_driver.specs.WindowPlans.{at_window_row}
use Rattle.browser_driver.specs.declared.fault.ActError.{ActError}
use Rattle.browser_driver.specs.declared.fault.ActError.TheVariants.{Refused, Memory}
use Rattle.browser_driver.specs.declared.fault.VerbFault.{VerbFault}
use Rattle.browser_driver.specs.declared.fault.VerbFault.TheVariants.{NoTab, NoWindow}
use Rattle.browser_driver.specs.declared.issued.Issued.{Issued}
use Rattle.browser_driver.proofs.AnswerLaws.{IsDone, IsAnswered, held-done}
use Rattle.browser_driver.proofs.FoundLaws.{found-row}
use Rattle.browser_driver.proofs.HeldLaws.{Holds, holds}
use Rattle.browser_driver.proofs.WindowLaws.{found-window}

-- a plan leads to the verb's browser, with any orders that say what the plan says
abbrev pub JoinsSeats : List Entry → ℤ → SeatPlan → Answer → Type 0
JoinsSeats closed moment (Ok step) (Ok outcome) =
    ((orders : List (ℤ × List ℤ)) → ((w : ℤ) → order_of w orders ≡ step.orders w)
    → IsDone step.state orders (with_left step.left closed) moment outcome.browser)
    × (outcome ≡ outcome_of outcome.browser (issued step.session (left_commands step.left)))
JoinsSeats closed moment (Ok step) (Err why) = ⊥
JoinsSeats closed moment (Err why) (Ok outcome) = ⊥
JoinsSeats closed moment (Err why) (Err because) = why ≡ because

-- both are refused at the same values
pub seats-where : (closed : List Entry) (moment : ℤ) (here there : Bool) (why : VerbFault) (plan : SeatPlan)
    (answer : Answer) → here ≡ there → (there ≡ false → JoinsSeats closed moment plan answer)
    → JoinsSeats closed moment (refuses_where here why plan) (refused_where there why answer)
seats-where closed moment here there why plan answer same joins = rw same (by there refl)
  where
    by : (refused : Bool) → there ≡ refused
        → JoinsSeats closed moment (refuses_where refused why plan) (refused_where refused why answer)
    by true e = refl
    by false e = joins e

module _ (old : Parts) (moment : ℤ) (h : IsHeld old.state old.orders old.closed moment) where
  abbrev before : Browser
  before = held old.state old.orders old.closed moment

  unchanged : (new : Parts) → SameParts old new → Holds new.state new.orders new.closed moment before
  unchanged new same =
      let still = holds old.state new.orders old.closed moment before h.running h.matches
      (λ w. same.orders w ∙ h.seated w) refl refl refl in
      subst (λ s. Holds s new.orders new.closed moment before) (sym same.state)
      (subst (λ entries. Holds old.state new.orders entries moment before) (sym same.closed) still)

  pub seats-followed : (new : Parts) (plan : SeatPlan) (answer : Answer) (r : Result Issued ActError)
      → JoinsSeats old.closed moment plan answer → FollowsSeats plan old new r
      → IsAnswered answer before r new.state new.orders new.closed moment
  seats-followed new (Ok step) (Ok outcome) (Ok made) joins d =
      let is_done : IsDone new.state new.orders new.closed moment outcome.browser =
      subst (λ s. IsDone s new.orders new.closed moment outcome.browser) (sym d.state)
      (subst (λ entries. IsDone step.state new.orders entries moment outcome.browser) (sym d.closed)
      (joins.0 new.orders d.orders)) in
      let held_is = held-done new.state new.orders new.closed moment outcome.browser is_done in
      record {
        is_held = held_is.is_held;
        answers = ap Ok (joins.1
            ∙ ap (λ b. outcome_of b (issued step.session (left_commands step.left))) (sym held_is.is)
            ∙ ap (outcome_of (held new.state new.orders new.closed moment)) (sym d.made_is));
      }
  seats-followed new (Ok step) (Err why) r joins d = absurd joins
  seats-followed new (Err why) (Ok outcome) r joins d = absurd joins
  seats-followed new (Err why) (Err because) (Ok made) joins d = absurd d
  seats-followed new (Ok step) (Ok outcome) (Err (Refused why)) joins d = absurd d
  seats-followed new (Ok step) (Ok outcome) (Err Memory) joins d =
      let still = unchanged new d in
      record { is_held = still.is_held; answers = still.is }
  seats-followed new (Err why) (Err because) (Err (Refused told)) joins d =
      let still = unchanged new d.1 in
      record { is_held = still.is_held; answers = (ap Err (sym joins ∙ d.0), still.is) }
  seats-followed new (Err why) (Err because) (Err Memory) joins d =
      let still = unchanged new d in
      record { is_held = still.is_held; answers = still.is }

  -- a plan for the row of a tab that stands, and a verb on the tab
  pub seats-tab : (id : ℤ) (plan : Tab → SeatPlan) (answer : Stand → Answer)
      → ((st : Stand) → stand_of id before ≡ Some st → JoinsSeats old.closed moment (plan (row_of st)) (answer st))
      → JoinsSeats old.closed moment (at_row id old.state plan) (at_tab id before answer)
  seats-tab id plan answer joins = rw (found-row old.state before id h.running h.matches) (by (stand_of id before) refl)
    where
      by : (o : Option Stand) → stand_of id before ≡ o
          → JoinsSeats old.closed moment (with_row (option_map row_of o) (NoTab id) plan)
          (with_found o (NoTab id) answer)
      by None e = refl
      by (Some st) e = joins st e

  -- a plan for the row of a window that is open, and a verb on the window
  pub seats-window : (id : ℤ) (plan : Window → SeatPlan) (answer : BrowserWindow → Answer)
      → ((w : BrowserWindow) → window_of id before ≡ Some w
      → JoinsSeats old.closed moment (plan (window_row w)) (answer w))
      → JoinsSeats old.closed moment (at_window_row id old.state plan) (at_window id before answer)
  seats-window id plan answer joins = rw (found-window old.state before id h.matches) (by (window_of id before) refl)
    where
      by : (o : Option BrowserWindow) → window_of id before ≡ o
          → JoinsSeats old.closed moment (with_row (option_map window_row o) (NoWindow id) plan)
          (with_found o (NoWindow id) answer)
      by None e = refl
      by (Some w) e = joins w e
