-- The parts of a tidying, one after another.
use Rattle.std.proofs.Common.{◌≡◌, ◌≤◌, ℤ, not, List, [], ◌++◌, filter, length, sym, ap, subst, ◌∙◌, append_assoc}
use Rattle.std.proofs.Common.{arith}
use Rattle.std.specs.List.{AllByRecursion}
use Rattle.std.proofs.lemmas.List.{map-id}
use Rattle.session_commands.specs.declared.command.SessionCommand.{SessionCommand}
use Rattle.session_commands.specs.Table.{IsInRange, IsSound}
use Rattle.tab_pages.specs.PageLists.{has_page}
use Rattle.window_state.specs.declared.shown.Shown.{Shown}
use Rattle.window_state.specs.declared.tab.Tab.{Tab}
use Rattle.window_state.specs.Limits.{limit}
use Rattle.window_state.specs.Shown.{tabs_in}
use Rattle.window_state.specs.States.{State, IsState}
use Rattle.window_state.specs.Views.{active_shown, shown_tabs, view, view_windows}
use Rattle.window_state.proofs.ShownLaws.{few_in}
use Rattle.replay_machine.specs.Step.{fold}
use Rattle.compaction_runs.proofs.CommandLaws.{weaker}
use Rattle.browser_model.specs.Browsers.{Matches}
use Rattle.browser_model.specs.Tidied.{tidied}
use Rattle.browser_model.specs.Tidying.{activate, close_tabs, close_windows, is_tab_shown, tidy_windows, tidying}
use Rattle.browser_model.proofs.TidyDone.{tidied-matches}
use Rattle.browser_model.proofs.TidyView.{tidyable, view-kept}
use Rattle.session_tidying.proofs.CommandLaws.{IsFit, tidying-fit}

-- the commands of a state, by what is shown in each window
abbrev parts : State → (ℤ → List Tab) → List SessionCommand
parts s tabs_of =
    close_tabs (filter (λ t. not (is_tab_shown t)) s.tabs)
    ++ (close_windows (filter (λ w. not (has_page (tabs_of w.info.id))) s.windows)
    ++ (tidy_windows tabs_of s.windows
    ++ activate (active_shown s.active (view_windows tabs_of s.windows)) s.active))

pub all-parts : (s : State) (f : ℤ → List Tab) (none tabs windows shown all : List SessionCommand)
    → ((id : ℤ) → f id ≡ shown_tabs id s.tabs) → none ≡ []
    → tabs ≡ none ++ close_tabs (filter (λ t. not (is_tab_shown t)) s.tabs)
    → windows ≡ tabs ++ close_windows (filter (λ w. not (has_page (f w.info.id))) s.windows)
    → shown ≡ windows ++ tidy_windows f s.windows
    → all ≡ shown ++ activate (active_shown s.active (view_windows f s.windows)) s.active
    → all ≡ tidying s
all-parts s f none tabs windows shown all same start first second third fourth =
    let by_shown : f ≡ (λ id. shown_tabs id s.tabs) = λ i. λ id. same id i in
    let joined : all ≡ parts s f = rw (fourth, third, second, first, start) (simp append_assoc) in
    joined ∙ ap (parts s) by_shown

-- no more tabs are shown in a window than there may be
pub few-shown : (shown : Shown) (tabs : List Tab) → ((id : ℤ) → tabs_in id shown ≡ shown_tabs id tabs)
    → length shown.tabs.entries ≤ length tabs → length tabs ≤ limit → (id : ℤ)
    → length (shown_tabs id tabs) ≤ limit
few-shown shown tabs same fewer few id =
    let in_window = few_in (λ t. t) (shown_tabs id tabs) id shown (map-id (shown_tabs id tabs) ∙ sym (same id)) in
    omega arith

-- what holds of the commands that tidy a state
pub record Tidies (s : State) (commands : List SessionCommand) : Type 0 where
  pub sound : AllByRecursion IsSound commands
  pub ranged : AllByRecursion IsInRange commands
  pub kept : view (fold s commands) ≡ view s
  pub matches : Matches (fold s commands) (tidied s)

pub tidies : (s : State) (commands : List SessionCommand) → IsState s
    → ((id : ℤ) → length (shown_tabs id s.tabs) ≤ limit) → commands ≡ tidying s → Tidies s commands
tidies s commands is few all =
    let fit = tidying-fit s is few in
    subst (Tidies s) (sym all) (record {
      sound = weaker IsFit IsSound (λ command fits. fits.sound) (tidying s) fit;
      ranged = weaker IsFit IsInRange (λ command fits. fits.ranged) (tidying s) fit;
      kept = view-kept s (tidyable s is);
      matches = tidied-matches s (tidyable s is);
    })
