-- Compactions of small states, as the definitions compute them.
use Rattle.std.proofs.Common.{◌≡◌, pos, negsuc, true, [], ◌∷◌, refl}
use Rattle.navigation_entry.specs.declared.bounds.Bounds.{Bounds}
use Rattle.navigation_entry.specs.declared.group.GroupInfo.{GroupInfo}
use Rattle.navigation_entry.specs.declared.navigation.Navigation.{Navigation}
use Rattle.tab_restore_commands.specs.declared.command.TabsCommand.TheVariants.{UpdateNavigation, RestoredEntry, SelectedInTab, Pinned, Extension, WindowApp, WindowEntry, Group, UserAgent, UserTitle}
use Rattle.closed_entries.specs.States.{start}
use Rattle.machine_law.specs.Kind.{fold}
use Rattle.tabs_compactor.specs.Compaction.{compaction, weight}
use Rattle.tabs_compactor.specs.TabsKind.{tabs_kind}

nothing : compaction start ≡ []
nothing = refl

nothing_weight : weight start ≡ 1
nothing_weight = refl

-- a window of which two tabs of three are awaited is cut there, and says all three again
awaited : (b : Bounds) → compaction (fold tabs_kind start (WindowEntry (pos 9) (pos 1) (pos 3) (pos 5) b (0 ∷ 0 ∷ 0 ∷ 0 ∷ []) ∷ SelectedInTab (pos 4) (pos 0) (pos 6) ∷ []))
    ≡ WindowEntry (pos 9) (pos 1) (pos 3) (pos 5) b [] ∷ SelectedInTab (pos 4) (pos 0) (pos 6) ∷ []
awaited b = refl

awaited_weight : (b : Bounds) → weight (fold tabs_kind start (WindowEntry (pos 9) (pos 1) (pos 3) (pos 5) b [] ∷ SelectedInTab (pos 4) (pos 0) (pos 6) ∷ [])) ≡ 9
awaited_weight b = refl

-- a window that another entry followed says the tabs that came
cut : (b : Bounds) → compaction (fold tabs_kind start (WindowEntry (pos 9) (pos 1) (pos 3) (pos 5) b [] ∷ SelectedInTab (pos 4) (pos 0) (pos 6) ∷ WindowEntry (pos 8) (pos 0) (negsuc 0) (pos 7) b [] ∷ []))
    ≡ WindowEntry (pos 9) (pos 1) (pos 1) (pos 5) b [] ∷ SelectedInTab (pos 4) (pos 0) (pos 6) ∷ WindowEntry (pos 8) (pos 0) (pos 0) (pos 7) b [] ∷ []
cut b = refl

-- an entry that isn't open is closed at the end
closed : compaction (fold tabs_kind start (SelectedInTab (pos 4) (pos 0) (pos 6) ∷ RestoredEntry (pos 7) ∷ [])) ≡ SelectedInTab (pos 4) (pos 0) (pos 6) ∷ RestoredEntry (pos 0) ∷ []
closed = refl

-- the last entry was brought back, and none stands
brought_back : compaction (fold tabs_kind start (SelectedInTab (pos 4) (pos 0) (pos 6) ∷ RestoredEntry (pos 4) ∷ [])) ≡ []
brought_back = refl

-- every field is said in its order, and those of a window before its tabs
in_order : (b : Bounds) (g : GroupInfo) (n m : Navigation) → compaction (fold tabs_kind start
    (WindowEntry (pos 9) (pos 0) (pos 1) (pos 5) b [] ∷ SelectedInTab (pos 4) (pos 3) (pos 6) ∷ UserTitle (pos 9) (98 ∷ []) [] ∷ WindowApp (pos 9) (97 ∷ []) []
    ∷ UpdateNavigation (pos 4) (pos 7) m ∷ UpdateNavigation (pos 4) (pos 3) n ∷ Group g ∷ UserAgent (pos 4) (0 ∷ 0 ∷ 0 ∷ 0 ∷ []) ∷ Extension (pos 4) (99 ∷ []) [] ∷ Pinned true ∷ []))
    ≡ WindowEntry (pos 9) (pos 0) (pos 1) (pos 5) b [] ∷ WindowApp (pos 9) (97 ∷ []) [] ∷ UserTitle (pos 9) (98 ∷ []) []
    ∷ SelectedInTab (pos 4) (pos 3) (pos 6) ∷ Pinned true ∷ Extension (pos 4) (99 ∷ []) [] ∷ UserAgent (pos 4) (0 ∷ 0 ∷ 0 ∷ 0 ∷ []) ∷ Group g ∷ UpdateNavigation (pos 4) (pos 3) n ∷ UpdateNavigation (pos 4) (pos 7) m ∷ []
in_order b g n m = refl
