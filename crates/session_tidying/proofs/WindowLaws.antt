-- The windows of a state, one after another.
use Rattle.std.proofs.Common.{◌≡◌, false, not, ℤ, pos, List, [], ◌∷◌, ◌++◌, filter, ap, ◌∙◌, append_assoc}
use Rattle.session_commands.specs.declared.command.SessionCommand.{SessionCommand}
use Rattle.session_commands.specs.declared.command.SessionCommand.TheVariants.{WindowClosed}
use Rattle.tab_pages.specs.PageLists.{has_page}
use Rattle.window_state.specs.declared.tab.Tab.{Tab}
use Rattle.window_state.specs.declared.window.Window.{Window}
use Rattle.browser_model.specs.Tidying.{close_windows, tidy_window, tidy_windows}

-- what was pushed, and what is left behind one more piece
pub pushed : {C : Type 0} (old new all piece rest : List C) → old ++ (piece ++ rest) ≡ all → new ≡ old ++ piece
    → new ++ rest ≡ all
pushed old new all piece rest so_far put = ap (λ l. l ++ rest) put ∙ append_assoc old piece rest ∙ so_far

-- a window with no shown tab is closed
pub closed-more : (f : ℤ → List Tab) (old new all : List SessionCommand) (left rest : List Window) (w : Window)
    → left ≡ w ∷ rest → has_page (f w.info.id) ≡ false
    → old ++ close_windows (filter (λ x. not (has_page (f x.info.id))) left) ≡ all
    → new ≡ old ++ WindowClosed w.info.id (pos 0) ∷ []
    → new ++ close_windows (filter (λ x. not (has_page (f x.info.id))) rest) ≡ all
closed-more f old new all left rest w first hidden so_far put =
    pushed old new all (WindowClosed w.info.id (pos 0) ∷ [])
    (close_windows (filter (λ x. not (has_page (f x.info.id))) rest)) (rw hidden at (rw first at so_far)) put

-- the commands of one more window
pub tidied-more : (f : ℤ → List Tab) (old new all : List SessionCommand) (left rest : List Window) (w : Window)
    → left ≡ w ∷ rest → old ++ tidy_windows f left ≡ all
    → new ≡ old ++ tidy_window w (f w.info.id) → new ++ tidy_windows f rest ≡ all
tidied-more f old new all left rest w first so_far put =
    pushed old new all (tidy_window w (f w.info.id)) (tidy_windows f rest) (rw first at so_far) put
