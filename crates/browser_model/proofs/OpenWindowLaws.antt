-- A window without tabs is opened: the command leads from a state that matches to one that matches.
use Rattle.std.proofs.Common.{◌≡◌, is_some, true, false, ℤ, pos, List, [], ◌∷◌, ◌++◌, map, refl, sym, ap, subst, ◌∙◌}
use Rattle.std.specs.declared.cmp.Ordering.{Ordering}
use Rattle.std.specs.declared.cmp.Ordering.TheVariants.{Less, Equal, Greater}
use Rattle.std.specs.Ordering.{int_cmp}
use Rattle.std.specs.List.{AllByRecursion}
use Rattle.window_state.specs.declared.window.Window.{Window}
use Rattle.window_state.specs.Keys.{window_key}
use Rattle.window_state.specs.RowLists.{find_row, step_row}
use Rattle.window_state.specs.Changes.{new_window}
use Rattle.window_state.specs.States.{State, is_within, stands, with_window}
use Rattle.window_state.specs.TabLists.{under}
use Rattle.window_state.proofs.RowLaws.{all-step}
use Rattle.window_state.proofs.OnlyLaws.{step-seen}
use Rattle.replay_machine.specs.Step.{fold}
use Rattle.browser_model.specs.Browsers.{Browser, BrowserWindow, BrowserTab, open_key, row_of, stands_in, all_stands}
use Rattle.browser_model.specs.Browsers.{window_row, Matches, EachTab, IsAtPage, HasGroup}
use Rattle.browser_model.specs.Opening.{fresh_window, opened_window, open_window}
use Rattle.browser_model.proofs.WindowLaws.{stands-is}

abbrev pub normal : Window → Window
normal w = record w { info = record w.info { kind = pos 0 } }

-- where the window isn't open, a change of the fresh one alone is made
step-fresh : (id : ℤ) (ws : List Window) → stands id ws ≡ false
    → step_row int_cmp window_key id (new_window id) normal ws
    ≡ step_row int_cmp window_key id (new_window id) (λ w. w) ws
step-fresh id [] absent = refl
step-fresh id (w ∷ ws) absent = by (step-fresh id ws) (int_cmp id w.info.id) refl
  where
    by : (stands id ws ≡ false → step_row int_cmp window_key id (new_window id) normal ws
        ≡ step_row int_cmp window_key id (new_window id) (λ w. w) ws) → (o : Ordering) → int_cmp id w.info.id ≡ o
        → step_row int_cmp window_key id (new_window id) normal (w ∷ ws)
        ≡ step_row int_cmp window_key id (new_window id) (λ w. w) (w ∷ ws)
    by rest Less e = rw e refl
    by rest Equal e = let no = rw e at absent in absurd cc
    by rest Greater e = rw e (ap (λ vs. w ∷ vs) (rest (rw e at absent)))

-- no tab comes
stands-opened : (id : ℤ) (ws : List BrowserWindow)
    → all_stands (step_row int_cmp open_key id (fresh_window id) (λ w. w) ws) ≡ all_stands ws
stands-opened id [] = refl
stands-opened id (w ∷ ws) = by (stands-opened id ws) (int_cmp id w.info.id) refl
  where
    by : all_stands (step_row int_cmp open_key id (fresh_window id) (λ w. w) ws) ≡ all_stands ws → (o : Ordering)
        → int_cmp id w.info.id ≡ o
        → all_stands (step_row int_cmp open_key id (fresh_window id) (λ w. w) (w ∷ ws)) ≡ all_stands (w ∷ ws)
    by rest Less e = rw e refl
    by rest Equal e = rw e refl
    by rest Greater e = rw e (ap (λ ss. stands_in w ++ ss) rest)

pub open_window-matches : (s : State) (b : Browser) (id : ℤ) → Matches s b
    → is_some (find_row int_cmp open_key id b.windows) ≡ false → is_within (with_window id normal s) ≡ true
    → Matches (fold s (open_window id)) (opened_window id b)
open_window-matches s b id m absent room =
    let made : fold s (open_window id) ≡ with_window id normal s = rw room refl in
    let plain = step-fresh id s.windows (stands-is s b id m ∙ absent) in
    subst (λ z. Matches z (opened_window id b)) (sym made) (record {
      tabs = λ q. m.tabs q ∙ ap (λ ss. under q (map row_of ss)) (sym (stands-opened id b.windows));
      windows = plain
          ∙ ap (step_row int_cmp window_key id (new_window id) (λ w. w)) m.windows
          ∙ sym (step-seen int_cmp open_key window_key window_row (λ w. refl) id (fresh_window id) (λ w. w) (λ w. w)
          b.windows (λ w. refl));
      active = m.active;
      groups = every (HasGroup b.groups s.groups) m.groups;
      at_page = every IsAtPage m.at_page;
    })
  where
    every : (P : BrowserTab → Type 0) → EachTab P b.windows → EachTab P (opened_window id b).windows
    every P all = all-step int_cmp open_key (λ w. AllByRecursion P w.tabs) id (fresh_window id) (λ w. w) b.windows tt
        (λ w own. own) all
