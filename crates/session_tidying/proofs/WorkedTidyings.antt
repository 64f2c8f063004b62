-- Tidyings of small states, as the definitions compute them.
use Rattle.std.proofs.Common.{◌≡◌, pos, [], ◌∷◌, refl}
use Rattle.navigation_entry.specs.declared.navigation.Navigation.{Navigation}
use Rattle.session_commands.specs.declared.command.SessionCommand.TheVariants.{TabWindow, TabIndex, UpdateNavigation}
use Rattle.session_commands.specs.declared.command.SessionCommand.TheVariants.{SelectNavigation, SelectTab, Pruned}
use Rattle.session_commands.specs.declared.command.SessionCommand.TheVariants.{TabClosed, WindowClosed, ActiveWindow}
use Rattle.window_state.specs.States.{start}
use Rattle.replay_machine.specs.Step.{fold}
use Rattle.browser_model.specs.Tidying.{tidying}

-- the current index becomes that of the page that is seen, before the gaps close
gaps_close : (n m : Navigation) → tidying (fold start
    (TabWindow (pos 1) (pos 2) ∷ TabIndex (pos 2) (pos 9) ∷ UpdateNavigation (pos 2) (pos 3) n
    ∷ UpdateNavigation (pos 2) (pos 7) m ∷ SelectNavigation (pos 2) (pos 5) ∷ []))
    ≡ SelectNavigation (pos 2) (pos 7) ∷ Pruned (pos 2) (pos 0) (pos 3) ∷ Pruned (pos 2) (pos 1) (pos 3)
    ∷ TabIndex (pos 2) (pos 0) ∷ SelectTab (pos 1) (pos 0) ∷ ActiveWindow (pos 1) ∷ []
gaps_close n m = refl

-- a state that is tidy stays as it is
tidied_already : (n : Navigation) → tidying (fold start
    (TabWindow (pos 1) (pos 2) ∷ TabIndex (pos 2) (pos 0) ∷ UpdateNavigation (pos 2) (pos 0) n
    ∷ SelectNavigation (pos 2) (pos 0) ∷ SelectTab (pos 1) (pos 0) ∷ ActiveWindow (pos 1) ∷ [])) ≡ []
tidied_already n = refl

-- a tab without pages is closed, and then its window
hidden_closed : tidying (fold start (TabWindow (pos 1) (pos 2) ∷ TabIndex (pos 3) (pos 0) ∷ []))
    ≡ TabClosed (pos 2) (pos 0) ∷ TabClosed (pos 3) (pos 0) ∷ WindowClosed (pos 1) (pos 0) ∷ []
hidden_closed = refl
