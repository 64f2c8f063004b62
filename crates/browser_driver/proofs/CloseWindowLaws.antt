-- A window that is closed: the state and the orders hold the browser without it and its tabs.
use Rattle.std.proofs.Common.{◌≡◌, ◌≢◌, Bool, true, false, if◌then◌else◌, ℤ, List, [], ◌∷◌, map, Some, refl, sym, ap}
use Rattle.std.proofs.Common.{subst, ◌∙◌}
use Rattle.std.specs.Cmp.{int_cmp_total}
use Rattle.std.specs.Ordering.{int_cmp, is_eq}
use Rattle.std.proofs.lemmas.Map.Lookups.{exact_signed}
use Rattle.script_lines.specs.declared.verb.Verb.TheVariants.{CloseWindow}
use Rattle.session_commands.specs.declared.command.SessionCommand.TheVariants.{WindowClosed}
use Rattle.tab_restore_commands.specs.declared.command.TabsCommand.{TabsCommand}
use Rattle.window_state.specs.RowLists.{without_row}
use Rattle.window_state.specs.States.{stands, without_window, window_closed}
use Rattle.window_state.proofs.FindLaws.{find-gone, find-kept}
use Rattle.window_state.proofs.IdLaws.{equals_itself, same_key}
use Rattle.browser_model.specs.Browsers.{Browser, BrowserWindow, own_id, open_key, window_row, Matches}
use Rattle.browser_model.specs.Closing as closing
use Rattle.browser_model.specs.Entries.{entry_of_window, left_commands, with_left}
use Rattle.browser_model.specs.Tabs.{tabs_of, tabs_or_none}
use Rattle.browser_model.proofs.CloseWindowLaws.{close_window-matches}
use Rattle.browser_model.proofs.Matching.{in-order}
use Rattle.browser_model.proofs.RunningLaws.{running-fold}
use Rattle.browser_model.proofs.Splits.{InOrder, find-split}
use Rattle.browser_driver.specs.Acts.{Outcome, act, closes_window as closes_window_at, window_of}
use Rattle.browser_driver.specs.Held.{held, AreSeated, IsHeld}
use Rattle.browser_driver.specs.Orders.{order_of, SetsOrder}
use Rattle.browser_driver.specs.SeatPlans.{Parts}
use Rattle.browser_driver.specs.WindowEntries.{entry_in_order, closes_window_row, closes_window}
use Rattle.browser_driver.proofs.AnswerLaws.{IsDone}
use Rattle.browser_driver.proofs.LeftLaws.{left-is}
use Rattle.browser_driver.proofs.SeatAnswers.{JoinsSeats, seats-window}

-- orders from which a window went
seated-without : (orders new : List (ℤ × List ℤ)) (id : ℤ) (ws : List BrowserWindow) → InOrder ws → AreSeated orders ws
    → SetsOrder id [] orders new → AreSeated new (without_row int_cmp open_key id ws)
seated-without orders new id ws sorted seated sets w = sets w ∙ by (is_eq (int_cmp id w)) refl
  where
    by : (b : Bool) → is_eq (int_cmp id w) ≡ b
        → (if b then [] else order_of w orders) ≡ map own_id (tabs_of w (without_row int_cmp open_key id ws))
    by true e =
        subst (λ q. [] ≡ map own_id (tabs_of q (without_row int_cmp open_key id ws))) (same_key id w e)
        (sym (ap (λ o. map own_id (tabs_or_none o))
        (find-gone int_cmp open_key int_cmp_total exact_signed id ws sorted)))
    by false e =
        let apart : w ≢ id = λ same. differs same in
        seated w ∙ sym (ap (λ o. map own_id (tabs_or_none o))
        (find-kept int_cmp open_key int_cmp_total exact_signed w id ws apart))
      where
        differs : w ≡ id → ⊥
        differs same = let e' : true ≡ false = sym (equals_itself id) ∙ ap (λ q. is_eq (int_cmp id q)) (sym same) ∙ e in
            absurd cc

-- the plan of the call that closes a window leads to what the verb says
module _ (old : Parts) (moment : ℤ) (h : IsHeld old.state old.orders old.closed moment) (id : ℤ) where
  abbrev b : Browser
  b = held old.state old.orders old.closed moment

  closed-done : (w : BrowserWindow) → window_of id b ≡ Some w → (new : List (ℤ × List ℤ))
      → SetsOrder id [] old.orders new
      → IsDone (window_closed id old.state) new
      (with_left (entry_in_order old.state.tabs old.state.groups moment (window_row w) (order_of id old.orders))
      old.closed)
      moment (record (closing.closed_window w.info.id b) {
        closed = with_left (entry_of_window old.state.groups moment w) old.closed;
      })
  closed-done w found new sets =
      let key : id ≡ w.info.id = (find-split id b.windows w found).3 in
      let matches : Matches (window_closed id old.state) (closing.closed_window w.info.id b) =
      subst (λ q. Matches (window_closed id old.state) (closing.closed_window q b)) key
      (close_window-matches old.state b id w h.running h.matches found) in
      record {
        running = running-fold old.state (closing.close_window id b) h.running;
        matches = record {
          tabs = matches.tabs;
          windows = matches.windows;
          active = matches.active;
          groups = matches.groups;
          at_page = matches.at_page;
        };
        seated = subst (λ q. AreSeated new (without_row int_cmp open_key q b.windows)) key
            (seated-without old.orders new id b.windows (in-order old.state b h.running h.matches) h.seated sets);
        groups = elim (stands id old.state.windows)
            as (λ there. (if there then without_window id old.state else old.state).groups ≡ old.state.groups)
            [ true ↦ refl | false ↦ refl ];
        closed_is = ap (λ left. with_left left old.closed)
            (left-is old.state old.orders old.closed moment id w h found);
        moment_is = refl;
      }

  pub joins-close_window : JoinsSeats old.closed moment (closes_window id moment old) (act (CloseWindow id) b)
  joins-close_window = seats-window old moment h id _ _ here
    where
      here : (w : BrowserWindow) → window_of id b ≡ Some w
          → JoinsSeats old.closed moment (closes_window_row id moment old (window_row w)) (closes_window_at b w)
      here w found =
          let key : id ≡ w.info.id = (find-split id b.windows w found).3 in
          let left = entry_of_window old.state.groups moment w in
          let new : Browser = record (closing.closed_window w.info.id b) { closed = with_left left old.closed } in
          let made : ℤ → List TabsCommand → Outcome = λ q commands. record {
            browser = new;
            session = WindowClosed q moment ∷ [];
            tabs = commands;
            sync = false;
            compact = false;
          } in (
            λ orders sets. closed-done w found orders sets,
            ap (λ q. made q (left_commands left)) (sym key)
                ∙ ap (λ e. made id (left_commands e))
                (sym (left-is old.state old.orders old.closed moment id w h found)),
          )
