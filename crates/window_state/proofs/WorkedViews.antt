-- Views of small states, as the definition computes them.
use Rattle.std.proofs.Common.{◌≡◌, pos, negsuc, [], ◌∷◌, Some, None, refl}
use Rattle.navigation_entry.specs.declared.navigation.Navigation.{Navigation}
use Rattle.tab_pages.specs.Positions.{first_from}
use Rattle.window_state.specs.Changes.{new_tab, new_window}
use Rattle.window_state.specs.States.{start}
use Rattle.window_state.specs.Views.{view}

-- a tab without pages isn't shown, and the least window is active
one_shown : (n : Navigation) → view (record start { tabs = record (new_tab (pos 5)) { window = Some (pos 1); pages = (pos 0, n) ∷ [] } ∷ record (new_tab (pos 6)) { window = Some (pos 1) } ∷ []; windows = new_window (pos 1) ∷ [] })
    ≡ record { windows = record { info = (new_window (pos 1)).info; selected = 0; tabs = record { info = (new_tab (pos 5)).info; pages = n ∷ []; current = 0 } ∷ [] } ∷ []; groups = []; active = Some (pos 1) }
one_shown n = refl

-- a tab without a window shows nothing
none_shown : (n : Navigation) → view (record start { tabs = record (new_tab (pos 2)) { index = pos 3; pages = (pos 0, n) ∷ [] } ∷ []; active = Some (pos 1) }) ≡ record { windows = []; groups = []; active = None }
none_shown n = refl

-- index before id
by_index : (n : Navigation) → view (record start { tabs = record (new_tab (pos 2)) { window = Some (pos 1); index = pos 3; pages = (pos 0, n) ∷ [] } ∷ record (new_tab (pos 4)) { window = Some (pos 1); index = negsuc 7; pages = (pos 0, n) ∷ [] } ∷ []; windows = record (new_window (pos 1)) { selected = pos 0 } ∷ []; active = Some (pos 1) })
    ≡ record { windows = record { info = (new_window (pos 1)).info; selected = 1; tabs = record { info = (new_tab (pos 4)).info; pages = n ∷ []; current = 0 } ∷ record { info = (new_tab (pos 2)).info; pages = n ∷ []; current = 0 } ∷ [] } ∷ []; groups = []; active = Some (pos 1) }
by_index n = refl

past_last : first_from (pos 9) (pos 0 ∷ pos 3 ∷ []) ≡ 1
past_last = refl
