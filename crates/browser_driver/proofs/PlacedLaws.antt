-- Tabs that stand are told their places: the commands make of a state what its edits make of it.
use Rattle.std.proofs.Common.{◌≡◌, ℕ, zero, suc, true, false, if◌then◌else◌, ℤ, pos, List, [], ◌∷◌, ◌++◌, map, take}
use Rattle.std.proofs.Common.{drop, is_some, Option, Some, None, refl, sym, ap, subst, ◌∙◌}
use Rattle.std.specs.List.{AllByRecursion}
use Rattle.std.specs.Cmp.{int_cmp_total}
use Rattle.std.specs.Ordering.{int_cmp}
use Rattle.closed_entries.specs.declared.entry.Entry.{Entry}
use Rattle.session_commands.specs.declared.command.SessionCommand.TheVariants.{TabIndex}
use Rattle.window_state.specs.declared.tab.Tab.{Tab}
use Rattle.window_state.specs.Changes.{new_tab}
use Rattle.window_state.specs.Keys.{tab_key}
use Rattle.window_state.specs.RowLists.{find_row}
use Rattle.window_state.specs.States.{State, is_within, placed, with_both}
use Rattle.window_state.proofs.RowLaws.{stands-step}
use Rattle.replay_machine.specs.Step.{step, fold}
use Rattle.browser_model.specs.Browsers.{Browser, BrowserTab, BrowserWindow, own_id, open_key, EachTab}
use Rattle.browser_model.specs.Running.{IsRunning}
use Rattle.browser_model.specs.Tabs.{tabs_of}
use Rattle.browser_model.proofs.Renumber.{at_place}
use Rattle.browser_model.proofs.Turns.{has_tab, mapped, on, on-key, map-map, map-same, has-mapped, running-mapped}
use Rattle.browser_model.proofs.Turns.{turns-one}
use Rattle.browser_driver.specs.Held.{held, IsHeld}
use Rattle.browser_driver.specs.Orders.{order_of}
use Rattle.browser_driver.specs.Places.{places_of, placed_from, with_places}
use Rattle.browser_driver.proofs.HeldLaws.{each-tab, rows-back}
use Rattle.browser_driver.proofs.RowLaws.{of-row}

-- all of them stand
abbrev pub AllStand : State → List ℤ → Type 0
AllStand s ids = AllByRecursion (λ id. has_tab id s ≡ true) ids

placed-key : (n : ℕ) (ids : List ℤ) (t : Tab) → tab_key (placed_from n ids t) ≡ tab_key t
placed-key n [] t = refl
placed-key n (id ∷ ids) t =
    placed-key (suc n) ids (on id (at_place n) t) ∙ on-key id (at_place n) (λ x. refl) t

stand-mapped : (g : Tab → Tab) → ((t : Tab) → tab_key (g t) ≡ tab_key t) → (s : State) (ids : List ℤ) → AllStand s ids
    → AllStand (mapped g s) ids
stand-mapped g same s [] all = tt
stand-mapped g same s (id ∷ ids) all = (has-mapped id g same s all.0, stand-mapped g same s ids all.1)

pub placed-running : (n : ℕ) (ids : List ℤ) (s : State) → IsRunning s → IsRunning (with_places n ids s)
placed-running n ids s r = running-mapped (placed_from n ids) (placed-key n ids) s r

pub placed-stand : (n : ℕ) (ids : List ℤ) (s : State) (us : List ℤ) → AllStand s us → AllStand (with_places n ids s) us
placed-stand n ids s us all = stand-mapped (placed_from n ids) (placed-key n ids) s us all

pub placed-fold : (n : ℕ) (ids : List ℤ) (s : State) → IsRunning s → AllStand s ids
    → fold s (places_of n ids) ≡ with_places n ids s
placed-fold n [] s r all = sym (ap (λ tabs. record s { tabs = tabs }) (map-same (λ (t : Tab). t) (λ t. refl) s.tabs))
placed-fold n (id ∷ ids) s r all =
    let g = on id (at_place n) in
    let keys = on-key id (at_place n) (λ x. refl) in
    let s1 = mapped g s in
    let one : step s (TabIndex id (pos n)) ≡ s1 =
    (turns-one (λ q. has_tab q s ≡ true) (λ q. ⊥) id (at_place n) (TabIndex id (pos n)) (λ t. refl) all.0
    (λ x. refl)).to s r (λ q h. h) (λ q no. absurd no) in
    ap (λ x. fold x (places_of (suc n) ids)) one
    ∙ placed-fold (suc n) ids s1 (running-mapped g keys s r) (stand-mapped g keys s ids all.1)
    ∙ ap (λ tabs. record s { tabs = tabs }) (map-map g (placed_from (suc n) ids) s.tabs)

-- a tab that stands still stands where one is placed in a window
still-stands : (window tab id : ℤ) (s : State) → has_tab id s ≡ true → has_tab id (placed window tab s) ≡ true
still-stands window tab id s stands =
    elim (is_within (with_both window tab s))
    as (λ b. has_tab id (if b then with_both window tab s else s) ≡ true) [
      | true ↦ stands-step int_cmp tab_key int_cmp_total id tab (new_tab tab)
          (λ t. record t { window = Some window }) s.tabs (λ t. refl) stands
      | false ↦ stands
    ]

pub all-placed : (window tab : ℤ) (s : State) (ids : List ℤ) → AllStand s ids → AllStand (placed window tab s) ids
all-placed window tab s [] all = tt
all-placed window tab s (id ∷ ids) all = (still-stands window tab id s all.0, all-placed window tab s ids all.1)

-- what holds of each number of a list holds of a part of it
module _ (P : ℤ → Type 0) where
  pub all-take : (n : ℕ) (ids : List ℤ) → AllByRecursion P ids → AllByRecursion P (take n ids)
  all-take zero ids all = tt
  all-take (suc n) [] all = tt
  all-take (suc n) (id ∷ ids) all = (all.0, all-take n ids all.1)

  pub all-drop : (n : ℕ) (ids : List ℤ) → AllByRecursion P ids → AllByRecursion P (drop n ids)
  all-drop zero ids all = all
  all-drop (suc n) [] all = tt
  all-drop (suc n) (id ∷ ids) all = all-drop n ids all.1

  pub all-join : (xs ys : List ℤ) → AllByRecursion P xs → AllByRecursion P ys → AllByRecursion P (xs ++ ys)
  all-join [] ys all rest = rest
  all-join (x ∷ xs) ys all rest = (all.0, all-join xs ys all.1 rest)

-- the tabs of each window stand
pub orders-stand : (s : State) (orders : List (ℤ × List ℤ)) (closed : List Entry) (moment : ℤ)
    → IsHeld s orders closed moment → (w : ℤ) → AllStand s (order_of w orders)
orders-stand s orders closed moment h w =
    let b = held s orders closed moment in
    let each : EachTab (λ t. has_tab t.info.id s ≡ true) b.windows =
    each-tab (λ y. find_row int_cmp tab_key (tab_key y) s.tabs ≡ Some y) (λ t. has_tab t.info.id s ≡ true)
    (λ st is. ap is_some is) b.windows (rows-back s b h.running h.matches) in
    subst (AllStand s) (sym (h.seated w)) (by b each (find_row int_cmp open_key w b.windows) refl)
  where
    ids : (ts : List BrowserTab) → AllByRecursion (λ t. has_tab t.info.id s ≡ true) ts → AllStand s (map own_id ts)
    ids [] all = tt
    ids (t ∷ ts) all = (all.0, ids ts all.1)

    by : (b : Browser) → EachTab (λ t. has_tab t.info.id s ≡ true) b.windows → (o : Option BrowserWindow)
        → find_row int_cmp open_key w b.windows ≡ o → AllStand s (map own_id (tabs_of w b.windows))
    by b each None e = rw e tt
    by b each (Some v) e = rw e (ids v.tabs (of-row (λ u. AllByRecursion (λ t. has_tab t.info.id s ≡ true) u.tabs)
        int_cmp open_key w v b.windows e each))
