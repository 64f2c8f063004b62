-- Compactions of small states, as the definitions compute them.
use Rattle.std.proofs.Common.{◌≡◌, pos, negsuc, true, [], ◌∷◌, refl}
use Rattle.navigation_entry.specs.declared.navigation.Navigation.{Navigation}
use Rattle.navigation_entry.specs.declared.group.GroupInfo.{GroupInfo}
use Rattle.session_commands.specs.declared.command.SessionCommand.TheVariants.{TabWindow, TabIndex, UpdateNavigation, WindowClosed, SelectTab, WindowKind, SelectNavigation, Pinned, TabGroup, TabExtra, GroupData, ActiveWindow}
use Rattle.window_state.specs.States.{start}
use Rattle.machine_law.specs.Kind.{fold}
use Rattle.compactor.specs.session.Compaction.{compaction, weight}
use Rattle.compactor.specs.session.SessionKind.{session_kind}

placed : compaction (fold session_kind start (TabWindow (pos 1) (pos 2) ∷ [])) ≡ SelectTab (pos 1) (negsuc 0) ∷ TabIndex (pos 2) (negsuc 0) ∷ TabWindow (pos 1) (pos 2) ∷ []
placed = refl

placed_weight : weight (fold session_kind start (TabWindow (pos 1) (pos 2) ∷ [])) ≡ 18
placed_weight = refl

-- a tab whose window was closed, named again later
named_again : (n : Navigation) → compaction (fold session_kind start (TabWindow (pos 1) (pos 2) ∷ UpdateNavigation (pos 2) (pos 0) n ∷ WindowClosed (pos 1) (pos 5) ∷ TabIndex (pos 2) (pos 3) ∷ [])) ≡ TabIndex (pos 2) (pos 3) ∷ []
named_again n = refl

-- what isn't shown is restated too, and pairs and pages keep their order
in_order : (n m : Navigation) (g : GroupInfo) → compaction (fold session_kind start
    (ActiveWindow (pos 7) ∷ TabExtra (pos 4) (98 ∷ []) (49 ∷ []) [] ∷ TabExtra (pos 4) (97 ∷ []) (50 ∷ []) [] ∷ UpdateNavigation (pos 4) (pos 6) m ∷ UpdateNavigation (pos 4) (pos 3) n ∷ SelectNavigation (pos 4) (pos 3)
    ∷ GroupData g ∷ WindowKind (negsuc 0) (pos 2) ∷ Pinned (negsuc 8) true ∷ TabGroup (pos 4) 5 6 true ∷ []))
    ≡ SelectTab (negsuc 0) (negsuc 0) ∷ WindowKind (negsuc 0) (pos 2)
    ∷ TabIndex (negsuc 8) (negsuc 0) ∷ Pinned (negsuc 8) true
    ∷ TabIndex (pos 4) (negsuc 0) ∷ UpdateNavigation (pos 4) (pos 3) n ∷ UpdateNavigation (pos 4) (pos 6) m ∷ SelectNavigation (pos 4) (pos 3) ∷ TabGroup (pos 4) 5 6 true ∷ TabExtra (pos 4) (98 ∷ []) (49 ∷ []) [] ∷ TabExtra (pos 4) (97 ∷ []) (50 ∷ []) []
    ∷ GroupData g ∷ ActiveWindow (pos 7) ∷ []
in_order n m g = refl
