-- States after a few commands, as the definitions compute them.
use Rattle.std.proofs.Common.{◌≡◌, pos, negsuc, false, [], ◌∷◌, Some, None, refl}
use Rattle.navigation_entry.specs.declared.navigation.Navigation.{Navigation}
use Rattle.session_commands.specs.declared.command.SessionCommand.TheVariants.{TabWindow, TabIndex, UpdateNavigation, WindowClosed, Pinned, PrunedFront, TabClosed, ActiveWindow}
use Rattle.window_state.specs.Changes.{new_tab, new_window}
use Rattle.window_state.specs.States.{start}
use Rattle.replay_machine.specs.Step.{fold}

-- a tab whose window was closed, named again later, is new
named_again : (n : Navigation) → fold start (TabWindow (pos 1) (pos 2) ∷ UpdateNavigation (pos 2) (pos 0) n ∷ WindowClosed (pos 1) (pos 5) ∷ TabIndex (pos 2) (pos 3) ∷ [])
    ≡ record { tabs = record (new_tab (pos 2)) { index = pos 3 } ∷ []; windows = []; groups = []; active = None }
named_again n = refl

-- the tab and the window are made, by rising id
made : fold start (TabWindow (pos 3) (pos 2) ∷ TabWindow (pos 1) (negsuc 0) ∷ [])
    ≡ record { tabs = record (new_tab (negsuc 0)) { window = Some (pos 1) } ∷ record (new_tab (pos 2)) { window = Some (pos 3) } ∷ []; windows = new_window (pos 1) ∷ new_window (pos 3) ∷ []; groups = []; active = None }
made = refl

-- commands without a further effect make their tab too
made_only : fold start (Pinned (pos 2) false ∷ PrunedFront (pos 1) (pos 0) ∷ []) ≡ record { tabs = new_tab (pos 1) ∷ new_tab (pos 2) ∷ []; windows = []; groups = []; active = None }
made_only = refl

-- the active window need not stand
active_alone : fold start (ActiveWindow (pos 9) ∷ TabClosed (pos 4) (pos 0) ∷ []) ≡ record start { active = Some (pos 9) }
active_alone = refl
