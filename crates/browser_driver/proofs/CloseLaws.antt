-- A tab that is closed: the state and the orders hold the browser without it.
use Rattle.std.proofs.Common.{◌≡◌, ℕ, suc, ℤ, pos, List, [], ◌∷◌, map, drop, remove, false, Some, refl, sym, ap, subst, ◌∙◌}
use Rattle.closed_entries.specs.declared.entry.Entry.{Entry}
use Rattle.session_commands.specs.declared.command.SessionCommand.TheVariants.{TabIndex, TabClosed}
use Rattle.window_state.specs.declared.tab.Tab.{Tab}
use Rattle.window_state.specs.States.{State, tab_closed}
use Rattle.replay_machine.specs.Step.{fold}
use Rattle.browser_model.specs.Running.{IsRunning}
use Rattle.browser_model.specs.Browsers.{Browser, BrowserTab, Stand, own_id, stand_key, row_of, Matches}
use Rattle.browser_model.specs.Closing as closing
use Rattle.browser_model.specs.Tabs.{stand_of, places, taken_out}
use Rattle.browser_model.proofs.Turns.{mapped, on, map-agree, running-mapped}
use Rattle.browser_model.proofs.Renumber.{renumber, renumber-key, at_place}
use Rattle.browser_model.proofs.Matching.{in-order, running-closed}
use Rattle.browser_model.proofs.CloseLaws.{close-run, close-matches}
use Rattle.browser_model.specs.Entries.{left_commands, with_left}
use Rattle.script_lines.specs.declared.verb.Verb.TheVariants.{CloseTab}
use Rattle.browser_driver.specs.Acts.{act, closes_tab as closes_tab_at}
use Rattle.browser_driver.specs.SeatPlans.{Parts, closes_tab, closes_row, entry_of_row}
use Rattle.browser_driver.specs.Orders.{order_of, SetsOrder}
use Rattle.browser_driver.specs.Held.{held, AreSeated, IsHeld}
use Rattle.browser_driver.specs.Places.{places_of, placed_from, with_places}
use Rattle.browser_driver.proofs.AnswerLaws.{IsDone}
use Rattle.browser_driver.proofs.SeatAnswers.{JoinsSeats, seats-tab}
use Rattle.browser_driver.proofs.SeatLaws.{later-order, seated-taken}

pub places-are : (n : ℕ) (ts : List BrowserTab) → places n ts ≡ places_of n (map own_id ts)
places-are n [] = refl
places-are n (t ∷ ts) = ap (λ cs. TabIndex t.info.id (pos n) ∷ cs) (places-are (suc n) ts)

pub renumber-is : (n : ℕ) (ts : List BrowserTab) (t : Tab) → placed_from n (map own_id ts) t ≡ renumber n ts t
renumber-is n [] t = refl
renumber-is n (u ∷ us) t = renumber-is (suc n) us (on u.info.id (at_place n) t)

module _ (s : State) (orders : List (ℤ × List ℤ)) (closed : List Entry) (moment : ℤ)
    (h : IsHeld s orders closed moment) (id : ℤ) (st : Stand) (found : stand_of id (held s orders closed moment) ≡ Some st)
  where
    abbrev b : Browser
    b = held s orders closed moment

    -- the tabs behind it, and the state when they have their places
    abbrev pub later : List ℤ
    later = drop (suc st.place) (order_of st.window orders)

    abbrev pub without : State
    without = with_places st.place later (tab_closed id s)

    pub closed-done : (new : List (ℤ × List ℤ)) (entries : List Entry)
        → SetsOrder st.window (remove (order_of st.window orders) st.place) orders new
        → IsDone without new entries moment (record (closing.closed_tab (stand_key st) b) { closed = entries })
    closed-done new entries sets =
        let run = close-run s b id st h.running h.matches found in
        let p = run.0 in
        let sorted = in-order s b h.running h.matches in
        let s1 = tab_closed id s in
        let g : Tab → Tab = renumber st.place p.tab.post in
        let later_is = later-order orders id b.windows st p sorted h.seated in
        let tabs_are : without ≡ mapped g s1 =
        ap (λ ids. with_places st.place ids s1) later_is
        ∙ ap (λ tabs. record s1 { tabs = tabs })
        (map-agree (placed_from st.place (map own_id p.tab.post)) g (renumber-is st.place p.tab.post) s1.tabs) in
        let folded : fold s (closing.close_tab st b) ≡ without =
        run.4 ∙ ap (λ n. mapped (renumber n p.tab.post) s1) (sym run.1) ∙ sym tabs_are in
        let key : id ≡ stand_key st = p.tab.key in
        let matches : Matches without (closing.closed_tab id b) =
        subst (λ z. Matches z (closing.closed_tab id b)) folded (close-matches s b id st h.running h.matches found) in
        let others : Matches without (closing.closed_tab (stand_key st) b) =
        subst (λ q. Matches without (closing.closed_tab q b)) key matches in
        let seated = seated-taken orders id b.windows st p sorted h.seated new sets in
        record {
          running = subst IsRunning (sym tabs_are)
              (running-mapped g (renumber-key st.place p.tab.post) s1 (running-closed id s h.running));
          matches = record {
            tabs = others.tabs;
            windows = others.windows;
            active = others.active;
            groups = others.groups;
            at_page = others.at_page;
          };
          seated = subst (λ q. AreSeated new (taken_out q b.windows)) key seated;
          groups = refl;
          closed_is = refl;
          moment_is = refl;
        }

    pub closed-commands : TabClosed id moment ∷ places_of st.place later ≡ closing.close_tab st b
    closed-commands =
        let run = close-run s b id st h.running h.matches found in
        let p = run.0 in
        let sorted = in-order s b h.running h.matches in
        ap (λ ids. TabClosed id moment ∷ places_of st.place ids) (later-order orders id b.windows st p sorted h.seated)
        ∙ ap (λ cs. TabClosed id moment ∷ cs) (sym (places-are st.place p.tab.post))
        ∙ ap (λ j. TabClosed j moment ∷ places st.place p.tab.post) p.tab.key
        ∙ ap (λ us. TabClosed (stand_key st) moment ∷ places st.place us) (sym run.2)

-- the plan of the call that closes a tab leads to what the verb says
module _ (old : Parts) (moment : ℤ) (h : IsHeld old.state old.orders old.closed moment) (id : ℤ) where
  pub joins-close : JoinsSeats old.closed moment (closes_tab id moment old)
      (act (CloseTab id) (held old.state old.orders old.closed moment))
  joins-close = seats-tab old moment h id _ _ here
    where
      here : (st : Stand) → stand_of id (held old.state old.orders old.closed moment) ≡ Some st
          → JoinsSeats old.closed moment (closes_row id moment old (row_of st))
          (closes_tab_at (held old.state old.orders old.closed moment) st)
      here st found = (
        λ orders sets. closed-done old.state old.orders old.closed moment h id st found orders
            (with_left (entry_of_row old.state.groups moment (row_of st)) old.closed) sets,
        ap (λ cs. record {
          browser = record (closing.closed_tab (stand_key st) (held old.state old.orders old.closed moment)) {
            closed = with_left (entry_of_row old.state.groups moment (row_of st)) old.closed;
          };
          session = cs;
          tabs = left_commands (entry_of_row old.state.groups moment (row_of st));
          sync = false;
          compact = false;
        }) (sym (closed-commands old.state old.orders old.closed moment h id st found)),
      )
