-- Verbs on one window: what they make of a state is what they make of the browser.
use Rattle.std.specs.Prelude.{Ok}
use Rattle.std.proofs.Common.{◌≡◌, Bool, true, false, cond, if◌then◌else◌, ℤ, List, [], ◌∷◌, map, length, Option}
use Rattle.std.proofs.Common.{Some, None, option_map, is_some, refl, sym, ap, ◌∙◌}
use Rattle.std.specs.Ordering.{int_cmp, is_eq}
use Rattle.std.proofs.lemmas.List.{length-map}
use Rattle.closed_entries.specs.declared.entry.Entry.{Entry}
use Rattle.navigation_entry.specs.declared.bounds.Bounds.{Bounds}
use Rattle.session_commands.specs.declared.command.SessionCommand.{SessionCommand}
use Rattle.session_commands.specs.declared.command.SessionCommand.TheVariants.{ActiveWindow, SelectTab, WindowBounds}
use Rattle.script_lines.specs.declared.verb.Verb.TheVariants.{Active, Select, SetBounds}
use Rattle.window_state.specs.declared.window.Window.{Window}
use Rattle.window_state.specs.Keys.{window_key}
use Rattle.window_state.specs.RowLists.{find_row, on_key}
use Rattle.window_state.specs.States as state
use Rattle.window_state.specs.States.{State, is_within}
use Rattle.replay_machine.specs.Step.{step, fold}
use Rattle.browser_model.specs.Browsers.{Browser, BrowserWindow, own_id, open_key, window_row, Matches}
use Rattle.browser_model.specs.OneWindow as window
use Rattle.browser_model.specs.Tabs.{tabs_of, tabs_or_none}
use Rattle.browser_model.proofs.RunningLaws.{running-step}
use Rattle.browser_model.proofs.WindowLaws.{select-matches, bounds-matches, active-matches}
use Rattle.browser_driver.specs.Acts.{Answer, act, at_window, issues, isnt_below, window_of, with_found}
use Rattle.browser_driver.specs.Held.{held, AreSeated, IsHeld}
use Rattle.browser_driver.specs.Issues.{of_session}
use Rattle.browser_driver.specs.Orders.{order_of}
use Rattle.browser_driver.specs.Plans.{Plan, Follows, with_row}
use Rattle.browser_driver.specs.WindowPlans.{at_window_row, does, selects, bounds_window, activates}
use Rattle.browser_driver.specs.declared.fault.VerbFault.TheVariants.{NoWindow, Place}
use Rattle.browser_driver.specs.declared.issued.Issued.{Issued}
use Rattle.browser_driver.proofs.AnswerLaws.{Joins, joins-where}

-- a window's row is found in a state exactly where the window is open in a browser that the state matches
find-seen : (id : ℤ) (ws : List BrowserWindow)
    → find_row int_cmp window_key id (map window_row ws) ≡ option_map window_row (find_row int_cmp open_key id ws)
find-seen id [] = refl
find-seen id (w ∷ ws) = elim (is_eq (int_cmp id (open_key w))) as (λ b.
    cond b (Some (window_row w)) (find_row int_cmp window_key id (map window_row ws))
    ≡ option_map window_row (cond b (Some w) (find_row int_cmp open_key id ws)))
    [ true ↦ refl | false ↦ find-seen id ws ]

pub found-window : (s : State) (b : Browser) (id : ℤ) → Matches s b
    → find_row int_cmp window_key id s.windows ≡ option_map window_row (window_of id b)
found-window s b id m = ap (find_row int_cmp window_key id) m.windows ∙ find-seen id b.windows

-- the tabs of windows that change, but keep their ids and tabs
tabs-kept : (change : BrowserWindow → BrowserWindow) → ((w : BrowserWindow) → open_key (change w) ≡ open_key w)
    → ((w : BrowserWindow) → (change w).tabs ≡ w.tabs) → (id : ℤ) (ws : List BrowserWindow)
    → tabs_of id (map change ws) ≡ tabs_of id ws
tabs-kept change keys tabs id [] = refl
tabs-kept change keys tabs id (w ∷ ws) = by (tabs-kept change keys tabs id ws) (is_eq (int_cmp id (open_key w))) refl
  where
    by : tabs_of id (map change ws) ≡ tabs_of id ws → (b : Bool) → is_eq (int_cmp id (open_key w)) ≡ b
        → tabs_of id (map change (w ∷ ws)) ≡ tabs_of id (w ∷ ws)
    by rest true e =
        let e' : is_eq (int_cmp id (open_key (change w))) ≡ true = rw (keys w) e in
        rw (e, e') (tabs w)
    by rest false e =
        let e' : is_eq (int_cmp id (open_key (change w))) ≡ false = rw (keys w) e in
        rw (e, e') rest

pub seated-on_window : (orders : List (ℤ × List ℤ)) (b : Browser) (id : ℤ) (change : BrowserWindow → BrowserWindow)
    → ((w : BrowserWindow) → open_key (change w) ≡ open_key w) → ((w : BrowserWindow) → (change w).tabs ≡ w.tabs)
    → AreSeated orders b.windows → AreSeated orders (window.on_window id change b).windows
seated-on_window orders b id change keys tabs seated w =
    seated w ∙ sym (ap (map own_id) (tabs-kept (on_key int_cmp open_key id change) key same w b.windows))
  where
    key : (v : BrowserWindow) → open_key (on_key int_cmp open_key id change v) ≡ open_key v
    key v = elim (is_eq (int_cmp id (open_key v))) as (λ b. open_key (cond b (change v) v) ≡ open_key v)
        [ true ↦ keys v | false ↦ refl ]

    same : (v : BrowserWindow) → (on_key int_cmp open_key id change v).tabs ≡ v.tabs
    same v = elim (is_eq (int_cmp id (open_key v))) as (λ b. (cond b (change v) v).tabs ≡ v.tabs)
        [ true ↦ tabs v | false ↦ refl ]

-- a window that comes or changes leaves the groups
pub groups-kept : (id : ℤ) (change : Window → Window) (s : State) → (state.on_window id change s).groups ≡ s.groups
groups-kept id change s =
    elim (is_within (state.with_window id change s)) as (λ b. (if b then state.with_window id change s else s).groups
    ≡ s.groups) [ true ↦ refl | false ↦ refl ]

-- a call follows a plan of one command
pub follows-does : (s new : State) (command : SessionCommand) (session : List SessionCommand) (made : Issued)
    (plan : Plan) → plan ≡ does command s → new ≡ step s command → session ≡ command ∷ [] → made ≡ of_session session
    → Follows plan s new (Ok made)
follows-does s new command session made plan plan_is state_is session_is made_is =
    let commands : made.session ≡ command ∷ [] = ap (λ (x : Issued). x.session) made_is ∙ session_is in (
      plan_is ∙ ap (λ t. Ok (record { state = t; session = command ∷ [] })) (sym state_is)
          ∙ ap (λ cs. Ok (record { state = new; session = cs })) (sym commands),
      made_is ∙ ap of_session (session_is ∙ sym commands),
    )

-- the same for the row of a window that is open
pub follows-window : (id : ℤ) (s new : State) (command : SessionCommand) (session : List SessionCommand) (made : Issued)
    (plan : Window → Plan) → true ≡ is_some (find_row int_cmp window_key id s.windows) → new ≡ step s command
    → session ≡ command ∷ [] → made ≡ of_session session → ((w : Window) → plan w ≡ does command s)
    → Follows (at_window_row id s plan) s new (Ok made)
follows-window id s new command session made plan there state_is session_is made_is plan_is =
    by (find_row int_cmp window_key id s.windows) there
  where
    by : (o : Option Window) → true ≡ is_some o → Follows (with_row o (NoWindow id) plan) s new (Ok made)
    by None there = absurd cc
    by (Some w) there = follows-does s new command session made (plan w) (plan_is w) state_is session_is made_is

module _ (s : State) (orders : List (ℤ × List ℤ)) (closed : List Entry) (moment : ℤ)
    (h : IsHeld s orders closed moment) where
  abbrev b : Browser
  b = held s orders closed moment

  -- a plan for the row of a window that is open, and a verb on the window
  pub joins-window : (id : ℤ) (plan : Window → Plan) (answer : BrowserWindow → Answer)
      → ((w : BrowserWindow) → window_of id b ≡ Some w → Joins orders closed moment (plan (window_row w)) (answer w))
      → Joins orders closed moment (at_window_row id s plan) (at_window id b answer)
  joins-window id plan answer joins = rw (found-window s b id h.matches) (by (window_of id b) refl)
    where
      by : (o : Option BrowserWindow) → window_of id b ≡ o
          → Joins orders closed moment (with_row (option_map window_row o) (NoWindow id) plan)
          (with_found o (NoWindow id) answer)
      by None e = refl
      by (Some w) e = joins w e

  -- one command
  pub joins-does : (command : SessionCommand) (new : Browser) → Matches (fold s (command ∷ [])) new
      → AreSeated orders new.windows → (step s command).groups ≡ new.groups → closed ≡ new.closed → moment ≡ new.moment
      → Joins orders closed moment (does command s) (issues new (command ∷ []))
  joins-does command new matches seated groups closed_is moment_is = (
    record {
      running = running-step s command h.running;
      matches = matches;
      seated = seated;
      groups = groups;
      closed_is = closed_is;
      moment_is = moment_is;
    },
    refl,
  )

  pub joins-select : (id place : ℤ)
      → Joins orders closed moment (selects id place orders s) (act (Select id place) b)
  joins-select id place = joins-window id _ _ (λ w found.
      let count : length (order_of id orders) ≡ length w.tabs =
      ap length (h.seated id) ∙ length-map (tabs_of id b.windows) own_id
      ∙ ap (λ o. length (tabs_or_none o)) found in
      joins-where orders closed moment (isnt_below place (length (order_of id orders))) (isnt_below place (length w.tabs))
      (Place place) (does (SelectTab id place) s) (issues (window.on_window id (window.selected place) b) (SelectTab id place ∷ []))
      (ap (isnt_below place) count) (λ low.
      joins-does (SelectTab id place) (window.on_window id (window.selected place) b)
      (select-matches s b id place w h.running h.matches found)
      (seated-on_window orders b id (window.selected place) (λ v. refl) (λ v. refl) h.seated)
      (groups-kept id (λ v. record v { selected = place }) s) refl refl))

  pub joins-bounds : (id : ℤ) (bounds : Bounds)
      → Joins orders closed moment (bounds_window id bounds s) (act (SetBounds id bounds) b)
  joins-bounds id bounds = joins-window id _ _ (λ w found.
      joins-does (WindowBounds id bounds) (window.on_window id (window.bounded bounds) b)
      (bounds-matches s b id bounds w h.running h.matches found)
      (seated-on_window orders b id (window.bounded bounds) (λ v. refl) (λ v. refl) h.seated)
      (groups-kept id (λ v. record v { info = record v.info { bounds = Some bounds } }) s) refl refl)

  pub joins-active : (id : ℤ) → Joins orders closed moment (activates id s) (act (Active id) b)
  joins-active id = joins-window id _ _ (λ w found.
      joins-does (ActiveWindow id) (record b { active = Some id }) (active-matches s b id h.matches) h.seated refl refl
      refl)
