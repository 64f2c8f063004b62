-- A tab moves to a place of a live window, its own or another.
use Rattle.std.proofs.Common.{◌≡◌, ℕ, ◌≤◌, Bool, true, false, is_some, ℤ, List, [], ◌∷◌, filter, length}
use Rattle.std.proofs.Common.{Some, refl, sym, ap, subst, ◌∙◌}
use Rattle.std.specs.Ordering.{int_cmp, is_eq}
use Rattle.window_state.specs.RowLists.{find_row}
use Rattle.window_state.specs.States.{State}
use Rattle.window_state.proofs.IdLaws.{same_key}
use Rattle.replay_machine.specs.Step.{fold}
use Rattle.browser_model.specs.Running.{IsRunning}
use Rattle.browser_model.specs.Browsers.{Browser, BrowserWindow, Stand, open_key, Matches}
use Rattle.browser_model.specs.Tabs.{stand_of, tabs_or_none, with_tabs, is_other, taken_out}
use Rattle.browser_model.specs.Moving.{others_of, moved_tab, move_within, move}
use Rattle.browser_model.proofs.TabLaws.{own-id}
use Rattle.browser_model.proofs.MoveLaws.{move-elsewhere-matches}
use Rattle.browser_model.proofs.WithinLaws.{move-within-matches}
use Rattle.browser_model.proofs.WindowLaws.{stands-is}

-- a window stays where a tab goes
find-taken : (id window : ℤ) (ws : List BrowserWindow) (w : BrowserWindow)
    → find_row int_cmp open_key window ws ≡ Some w
    → find_row int_cmp open_key window (taken_out id ws) ≡ Some (with_tabs (filter (is_other id)) w)
find-taken id window [] w found = absurd cc
find-taken id window (v ∷ vs) w found = by (find-taken id window vs w) (is_eq (int_cmp window v.info.id)) refl
  where
    by : (find_row int_cmp open_key window vs ≡ Some w
        → find_row int_cmp open_key window (taken_out id vs) ≡ Some (with_tabs (filter (is_other id)) w)) → (b : Bool)
        → is_eq (int_cmp window v.info.id) ≡ b
        → find_row int_cmp open_key window (taken_out id (v ∷ vs)) ≡ Some (with_tabs (filter (is_other id)) w)
    by rest true e =
        let found' : Some v ≡ Some w = rw e at found in
        let same : v ≡ w = cc in
        rw e (ap (λ u. Some (with_tabs (filter (is_other id)) u)) same)
    by rest false e = rw e (rest (rw e at found))

pub move-matches : (s : State) (b : Browser) (id window : ℤ) (st : Stand) (w : BrowserWindow) (place : ℕ) → IsRunning s
    → Matches s b → stand_of id b ≡ Some st → find_row int_cmp open_key window b.windows ≡ Some w
    → place ≤ length (others_of st window b.windows)
    → Matches (fold s (move st window place b)) (moved_tab st window place b)
move-matches s b id window st w place r m found live room = by (is_eq (int_cmp window st.window)) refl
  where
    by : (same : Bool) → is_eq (int_cmp window st.window) ≡ same
        → Matches (fold s (move st window place b)) (moved_tab st window place b)
    by true e =
        let is = same_key window st.window e in
        let room' : place ≤ length (others_of st st.window b.windows) =
        subst (λ v. place ≤ length (others_of st v b.windows)) is room in
        rw e (subst (λ v. Matches (fold s (move_within st place b)) (moved_tab st v place b)) (sym is)
        (move-within-matches s b id st place r m found room'))
    by false e =
        let own = own-id s b id st r m found in
        let left = find-taken id window b.windows w live in
        let few : place ≤ length (with_tabs (filter (is_other id)) w).tabs =
        subst (λ ts. place ≤ length ts) (ap tabs_or_none (ap (λ j. find_row int_cmp open_key window
        (taken_out j b.windows)) (sym own) ∙ left)) room in
        rw e (move-elsewhere-matches s b id window st (with_tabs (filter (is_other id)) w) place r m found left
        (stands-is s b window m ∙ ap is_some live) few)
