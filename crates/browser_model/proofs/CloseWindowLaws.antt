-- A window is closed, and its tabs go with it: the command leads from a state that matches to one that matches.
use Rattle.std.proofs.Common.{◌≡◌, ℕ, zero, suc, Bool, true, false, not, if◌then◌else◌, ℤ, List, [], ◌∷◌, ◌++◌, map}
use Rattle.std.proofs.Common.{filter, Some, refl, sym, ap, subst, ◌∙◌, is_some}
use Rattle.std.specs.declared.cmp.Ordering.TheVariants.{Less}
use Rattle.std.specs.Ordering.{int_cmp, is_eq}
use Rattle.std.specs.List.{AllByRecursion}
use Rattle.std.proofs.lemmas.Map.Keys.{sorted_head, sorted_tail}
use Rattle.std.proofs.lemmas.List.{map-append}
use Rattle.std.proofs.lemmas.List.Elements.{filter-append}
use Rattle.window_state.specs.declared.tab.Tab.{Tab}
use Rattle.window_state.specs.Keys.{tab_key, window_key}
use Rattle.window_state.specs.RowLists.{find_row, without_row}
use Rattle.window_state.specs.States.{State, is_in, stands, without_window}
use Rattle.window_state.specs.TabLists.{under}
use Rattle.window_state.proofs.RowLaws.{all-without}
use Rattle.window_state.proofs.OnlyLaws.{without-seen}
use Rattle.window_state.proofs.IdLaws.{equals_itself, same_key, flip}
use Rattle.replay_machine.specs.Step.{fold}
use Rattle.browser_model.specs.Running.{IsRunning}
use Rattle.browser_model.specs.Browsers.{Browser, BrowserWindow, BrowserTab, open_key, row_of, stands_in, all_stands}
use Rattle.browser_model.specs.Browsers.{rows, window_row, Matches, EachTab, IsAtPage, HasGroup}
use Rattle.browser_model.specs.Closing.{closed_window, close_window}
use Rattle.browser_model.proofs.Renumber.{rows_from}
use Rattle.browser_model.proofs.Splits.{InOrder}
use Rattle.browser_model.proofs.Matching.{in-order}
use Rattle.browser_model.proofs.PictureLaws.{filters}
use Rattle.browser_model.proofs.WindowLaws.{stands-is}

-- a tab is in another window
abbrev is_outside : ℤ → Tab → Bool
is_outside id t = not (is_in id t.window)

own-gone : (id : ℤ) (n : ℕ) (ts : List BrowserTab) → filter (is_outside id) (rows_from id n ts) ≡ []
own-gone id n [] = refl
own-gone id n (t ∷ ts) = rw (equals_itself id) (own-gone id (suc n) ts)

others-stay : (id window : ℤ) (n : ℕ) (ts : List BrowserTab) → is_eq (int_cmp window id) ≡ false
    → filter (is_outside id) (rows_from window n ts) ≡ rows_from window n ts
others-stay id window n [] apart = refl
others-stay id window n (t ∷ ts) apart = rw apart (ap (λ ys. row_of
    (record { window = window; place = n; tab = t }) ∷ ys) (others-stay id window (suc n) ts apart))

rows-of : (w : BrowserWindow) (ws : List BrowserWindow) → rows (w ∷ ws) ≡ rows_from w.info.id zero w.tabs ++ rows ws
rows-of w ws = map-append row_of (stands_in w) (all_stands ws)

later-stay : (id : ℤ) (ws : List BrowserWindow) → AllByRecursion (λ y. int_cmp id y ≡ Less) (map open_key ws)
    → filter (is_outside id) (rows ws) ≡ rows ws
later-stay id [] all = refl
later-stay id (w ∷ ws) all =
    let less = all.0 in
    let apart : is_eq (int_cmp id w.info.id) ≡ false = rw less refl in
    ap (filter (is_outside id)) (rows-of w ws)
    ∙ filter-append (is_outside id) (rows_from w.info.id zero w.tabs) (rows ws)
    ∙ rw (others-stay id w.info.id zero w.tabs (flip id w.info.id apart), later-stay id ws all.1) (sym (rows-of w ws))

-- of windows in order one goes with its tabs
rows-without : (id : ℤ) (ws : List BrowserWindow) → InOrder ws
    → filter (is_outside id) (rows ws) ≡ rows (without_row int_cmp open_key id ws)
rows-without id [] sorted = refl
rows-without id (w ∷ ws) sorted =
    by (rows-without id ws (sorted_tail int_cmp w.info.id (map open_key ws) sorted)) (is_eq (int_cmp id w.info.id)) refl
  where
    parts : filter (is_outside id) (rows (w ∷ ws))
        ≡ filter (is_outside id) (rows_from w.info.id zero w.tabs) ++ filter (is_outside id) (rows ws)
    parts = ap (filter (is_outside id)) (rows-of w ws)
        ∙ filter-append (is_outside id) (rows_from w.info.id zero w.tabs) (rows ws)

    by : filter (is_outside id) (rows ws) ≡ rows (without_row int_cmp open_key id ws) → (b : Bool)
        → is_eq (int_cmp id w.info.id) ≡ b
        → filter (is_outside id) (rows (w ∷ ws)) ≡ rows (without_row int_cmp open_key id (w ∷ ws))
    by rest true e =
        let is = same_key id w.info.id e in
        let gone : filter (is_outside id) (rows_from w.info.id zero w.tabs) ≡ [] =
        subst (λ j. filter (is_outside id) (rows_from j zero w.tabs) ≡ []) is (own-gone id zero w.tabs) in
        let left : filter (is_outside id) (rows ws) ≡ rows ws =
        subst (λ j. filter (is_outside j) (rows ws) ≡ rows ws) (sym is)
        (later-stay w.info.id ws (sorted_head int_cmp w.info.id (map open_key ws) sorted)) in
        parts ∙ ap (λ xs. xs ++ filter (is_outside id) (rows ws)) gone ∙ left
        ∙ ap (λ b. rows (if b then ws else w ∷ without_row int_cmp open_key id ws)) (sym e)
    by rest false e =
        parts
        ∙ ap (λ xs. xs ++ filter (is_outside id) (rows ws))
        (others-stay id w.info.id zero w.tabs (flip id w.info.id e))
        ∙ ap (λ xs. rows_from w.info.id zero w.tabs ++ xs) rest
        ∙ sym (rows-of w (without_row int_cmp open_key id ws))
        ∙ ap (λ b. rows (if b then ws else w ∷ without_row int_cmp open_key id ws)) (sym e)

pub close_window-matches : (s : State) (b : Browser) (id : ℤ) (w : BrowserWindow) → IsRunning s → Matches s b
    → find_row int_cmp open_key id b.windows ≡ Some w
    → Matches (fold s (close_window id b)) (closed_window id b)
close_window-matches s b id w r m found =
    let there : stands id s.windows ≡ true = stands-is s b id m ∙ ap is_some found in
    let gone : fold s (close_window id b) ≡ without_window id s = rw there refl in
    let sorted = in-order s b r m in
    subst (λ z. Matches z (closed_window id b)) (sym gone) (record {
      tabs = λ q.
          filters (λ t. is_eq (int_cmp q (tab_key t))) (is_outside id) s.tabs
          ∙ ap (filter (is_outside id)) (m.tabs q)
          ∙ filters (is_outside id) (λ t. is_eq (int_cmp q (tab_key t))) (rows b.windows)
          ∙ ap (under q) (rows-without id b.windows sorted);
      windows = ap (without_row int_cmp window_key id) m.windows
          ∙ sym (without-seen int_cmp open_key window_key window_row (λ v. refl) id b.windows);
      active = m.active;
      groups = every (HasGroup b.groups s.groups) m.groups;
      at_page = every IsAtPage m.at_page;
    })
  where
    every : (P : BrowserTab → Type 0) → EachTab P b.windows → EachTab P (closed_window id b).windows
    every P all = all-without int_cmp open_key (λ v. AllByRecursion P v.tabs) id b.windows all
