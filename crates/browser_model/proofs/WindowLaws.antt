-- A window changes where it stands, or becomes the active one.
use Rattle.std.proofs.Common.{◌≡◌, is_some, true, false, cond, ℤ, List, [], ◌∷◌, map, Some, refl, sym, ap}
use Rattle.std.proofs.Common.{subst, ◌∙◌}
use Rattle.std.specs.Ordering.{int_cmp, is_eq}
use Rattle.std.specs.Cmp.{int_cmp_total}
use Rattle.std.specs.List.{AllByRecursion}
use Rattle.std.proofs.lemmas.Map.Lookups.{exact_signed}
use Rattle.std.proofs.lemmas.List.{length-map}
use Rattle.navigation_entry.specs.declared.bounds.Bounds.{Bounds}
use Rattle.session_commands.specs.declared.command.SessionCommand.{SessionCommand}
use Rattle.session_commands.specs.declared.command.SessionCommand.TheVariants.{SelectTab, WindowBounds, ActiveWindow}
use Rattle.window_state.specs.declared.window.Window.{Window}
use Rattle.window_state.specs.Keys.{window_key}
use Rattle.window_state.specs.RowLists.{find_row, on_key}
use Rattle.window_state.specs.Changes.{new_window}
use Rattle.window_state.specs.TabLists.{under}
use Rattle.window_state.specs.States as state
use Rattle.window_state.specs.States.{State, stands}
use Rattle.window_state.proofs.OnlyLaws.{step-map}
use Rattle.replay_machine.specs.Step.{step, fold}
use Rattle.browser_model.specs.Running.{IsRunning}
use Rattle.browser_model.specs.Browsers.{Browser, BrowserWindow, BrowserTab, open_key, row_of, all_stands}
use Rattle.browser_model.specs.Browsers.{window_row, Matches, EachTab, IsAtPage, HasGroup}
use Rattle.browser_model.specs.OneWindow.{on_window, selected, bounded}
use Rattle.browser_model.proofs.Turns.{map-map, map-agree}

-- a window of a browser stands in a list with its row
pub stands-row : (id : ℤ) (ws : List BrowserWindow) → stands id (map window_row ws)
    ≡ is_some (find_row int_cmp open_key id ws)
stands-row id [] = refl
stands-row id (w ∷ ws) = elim (is_eq (int_cmp id w.info.id)) as (λ b.
    is_some (cond b (Some (window_row w)) (find_row int_cmp window_key id (map window_row ws)))
    ≡ is_some (cond b (Some w) (find_row int_cmp open_key id ws))) [ true ↦ refl | false ↦ stands-row id ws ]

pub stands-is : (s : State) (b : Browser) (id : ℤ) → Matches s b
    → stands id s.windows ≡ is_some (find_row int_cmp open_key id b.windows)
stands-is s b id m = ap (stands id) m.windows ∙ stands-row id b.windows

-- a change of windows that leaves their tabs
module _ (change : BrowserWindow → BrowserWindow) (same_id : (w : BrowserWindow) → open_key (change w) ≡ open_key w)
    (same_tabs : (w : BrowserWindow) → (change w).tabs ≡ w.tabs) where
  stands-same : (ws : List BrowserWindow) → all_stands (map change ws) ≡ all_stands ws
  stands-same [] = refl
  stands-same (w ∷ ws) = rw (same_id w, same_tabs w, stands-same ws) refl

  each-same : (P : BrowserTab → Type 0) (ws : List BrowserWindow) → EachTab P ws → EachTab P (map change ws)
  each-same P [] all = tt
  each-same P (w ∷ ws) all = (subst (AllByRecursion P) (sym (same_tabs w)) all.0, each-same P ws all.1)

module _ (id : ℤ) (change : BrowserWindow → BrowserWindow) (to : Window → Window)
    (same_id : (w : BrowserWindow) → open_key (change w) ≡ open_key w)
    (same_tabs : (w : BrowserWindow) → (change w).tabs ≡ w.tabs)
    (goes : (w : BrowserWindow) → window_row (change w) ≡ to (window_row w)) where
  abbrev changed : BrowserWindow → BrowserWindow
  changed w = on_key int_cmp open_key id change w

  changed-id : (w : BrowserWindow) → open_key (changed w) ≡ open_key w
  changed-id w = elim (is_eq (int_cmp id (open_key w))) as (λ b. open_key (cond b (change w) w) ≡ open_key w)
      [ true ↦ same_id w | false ↦ refl ]

  changed-tabs : (w : BrowserWindow) → (changed w).tabs ≡ w.tabs
  changed-tabs w = elim (is_eq (int_cmp id (open_key w))) as (λ b. (cond b (change w) w).tabs ≡ w.tabs)
      [ true ↦ same_tabs w | false ↦ refl ]

  changed-row : (w : BrowserWindow) → window_row (changed w) ≡ on_key int_cmp window_key id to (window_row w)
  changed-row w = elim (is_eq (int_cmp id (open_key w))) as (λ b. window_row (cond b (change w) w)
      ≡ cond b (to (window_row w)) (window_row w)) [ true ↦ goes w | false ↦ refl ]

  one-window : (s : State) (b : Browser) (w : BrowserWindow) (command : SessionCommand) → IsRunning s → Matches s b
      → find_row int_cmp open_key id b.windows ≡ Some w → ((s : State) → step s command ≡ state.on_window id to s)
      → Matches (fold s (command ∷ [])) (on_window id change b)
  one-window s b w command r m found steps =
      let there : stands id s.windows ≡ true = stands-is s b id m ∙ ap is_some found in
      let map_is = step-map int_cmp window_key int_cmp_total exact_signed id (new_window id) to s.windows r.windows
      there in
      let turned : state.on_window id to s ≡ record s { windows = map (on_key int_cmp window_key id to) s.windows } =
      rw (map_is, length-map s.windows (on_key int_cmp window_key id to), r.within) refl in
      subst (λ z. Matches z (on_window id change b)) (sym (steps s ∙ turned)) (record {
        tabs = λ q. m.tabs q
            ∙ ap (λ ss. under q (map row_of ss)) (sym (stands-same changed changed-id changed-tabs b.windows));
        windows = ap (map (on_key int_cmp window_key id to)) m.windows
            ∙ map-map window_row (on_key int_cmp window_key id to) b.windows
            ∙ map-agree (λ v. on_key int_cmp window_key id to (window_row v)) (λ v. window_row (changed v))
            (λ v. sym (changed-row v)) b.windows
            ∙ sym (map-map changed window_row b.windows);
        active = m.active;
        groups = each-same changed changed-id changed-tabs (HasGroup b.groups s.groups) b.windows m.groups;
        at_page = each-same changed changed-id changed-tabs IsAtPage b.windows m.at_page;
      })

pub select-matches : (s : State) (b : Browser) (id place : ℤ) (w : BrowserWindow) → IsRunning s → Matches s b
    → find_row int_cmp open_key id b.windows ≡ Some w
    → Matches (fold s (SelectTab id place ∷ [])) (on_window id (selected place) b)
select-matches s b id place w r m found =
    one-window id (selected place) (λ v. record v { selected = place }) (λ v. refl) (λ v. refl) (λ v. refl) s b w
    (SelectTab id place) r m found (λ s. refl)

pub bounds-matches : (s : State) (b : Browser) (id : ℤ) (bounds : Bounds) (w : BrowserWindow) → IsRunning s
    → Matches s b → find_row int_cmp open_key id b.windows ≡ Some w
    → Matches (fold s (WindowBounds id bounds ∷ [])) (on_window id (bounded bounds) b)
bounds-matches s b id bounds w r m found =
    one-window id (bounded bounds) (λ v. record v { info = record v.info { bounds = Some bounds } }) (λ v. refl)
    (λ v. refl) (λ v. refl) s b w (WindowBounds id bounds) r m found (λ s. refl)

pub active-matches : (s : State) (b : Browser) (id : ℤ) → Matches s b
    → Matches (fold s (ActiveWindow id ∷ [])) (record b { active = Some id })
active-matches s b id m = record {
  tabs = m.tabs;
  windows = m.windows;
  active = refl;
  groups = m.groups;
  at_page = m.at_page;
}
