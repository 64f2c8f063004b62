-- States after a few commands, as the definitions compute them.
use Rattle.std.proofs.Common.{◌≡◌, ℕ, zero, suc, ℤ, pos, negsuc, true, false, List, [], ◌∷◌, map, Some, refl}
use Rattle.navigation_entry.specs.declared.bounds.Bounds.{Bounds}
use Rattle.navigation_entry.specs.declared.group.GroupInfo.{GroupInfo}
use Rattle.navigation_entry.specs.declared.navigation.Navigation.{Navigation}
use Rattle.tab_restore_commands.specs.declared.command.TabsCommand.{TabsCommand}
use Rattle.tab_restore_commands.specs.declared.command.TabsCommand.TheVariants.{UpdateNavigation, RestoredEntry, SelectedInTab, Pinned, WindowApp, WindowEntry, Group, UserTitle}
use Rattle.closed_entries.specs.declared.limits.TheConstants.{ENTRIES}
use Rattle.closed_entries.specs.declared.entry.Entry.{Entry}
use Rattle.closed_entries.specs.declared.entry.Entry.TheVariants.{Tab, Window}
use Rattle.closed_entries.specs.Changes.{new_tab, new_window}
use Rattle.closed_entries.specs.Shown.{shown}
use Rattle.closed_entries.specs.States.{start}
use Rattle.closed_entries.specs.Step.{fold}

-- so many numbers from a first one on
abbrev numbers : ℕ → ℕ → List ℕ
numbers first zero = []
numbers first (suc n) = first ∷ numbers (suc first) n

abbrev closes : ℤ → TabsCommand
closes id = SelectedInTab id (pos 0) (pos 7)

abbrev closed : ℤ → Entry
closed id = Tab (new_tab id (pos 0) (pos 7))

abbrev bounds : Bounds
bounds = record { x = pos 1; y = pos 2; width = pos 3; height = pos 4; show = pos 5 }

abbrev closes_window : ℤ → ℤ → TabsCommand
closes_window id count = WindowEntry id (pos 0) count (pos 7) bounds []

-- one tab more than there may be drops the first one
oldest_goes : fold start (map (λ id. closes (pos id)) (numbers 1 (suc ENTRIES))) ≡ record { entries = map (λ id. closed (pos id)) (numbers 2 ENTRIES); open_entry = true; awaited = 0 }
oldest_goes = refl

-- no entry has the id 0: the command only closes the open entry, and a page that follows changes nothing
closes_open : (n : Navigation) → fold start (closes (pos 1) ∷ RestoredEntry (pos 0) ∷ UpdateNavigation (pos 1) (pos 0) n ∷ []) ≡ record { entries = closed (pos 1) ∷ []; open_entry = false; awaited = 0 }
closes_open n = refl

-- a window's tabs come behind it, and the next one is an entry of its own; a title finds the window also then
awaited_tabs : (n : Navigation) → fold start (closes_window (pos 1) (pos 2) ∷ closes (pos 2) ∷ UpdateNavigation (pos 2) (pos 4) n ∷ closes (pos 3) ∷ UserTitle (pos 1) (65 ∷ []) [] ∷ closes (pos 4) ∷ [])
    ≡ record {
      entries = Window (record (new_window (pos 1) (pos 0) (pos 7) bounds) {
        title = Some (65 ∷ []);
        tabs = record (new_tab (pos 2) (pos 0) (pos 7)) { pages = (pos 4, n) ∷ [] } ∷ new_tab (pos 3) (pos 0) (pos 7) ∷ [];
      }) ∷ closed (pos 4) ∷ [];
      open_entry = true;
      awaited = 0;
    }
awaited_tabs n = refl

-- after a restored entry nothing is awaited, also where none has its id
none_awaited : fold start (closes_window (pos 1) (pos 2) ∷ RestoredEntry (pos 9) ∷ closes (pos 2) ∷ [])
    ≡ record { entries = Window (new_window (pos 1) (pos 0) (pos 7) bounds) ∷ closed (pos 2) ∷ []; open_entry = true; awaited = 0 }
none_awaited = refl

-- a second window ends the waiting for the first one's tabs
second_window : fold start (closes_window (pos 1) (pos 2) ∷ closes (pos 2) ∷ closes_window (pos 3) (pos 1) ∷ closes (pos 4) ∷ [])
    ≡ record {
      entries = Window (record (new_window (pos 1) (pos 0) (pos 7) bounds) { tabs = new_tab (pos 2) (pos 0) (pos 7) ∷ [] })
          ∷ Window (record (new_window (pos 3) (pos 0) (pos 7) bounds) { tabs = new_tab (pos 4) (pos 0) (pos 7) ∷ [] }) ∷ [];
      open_entry = true;
      awaited = 0;
    }
second_window = refl

-- of two entries with one id the newest goes; the tabs of a window are no entries
newest_goes : fold start (closes (pos 1) ∷ closes_window (pos 1) (pos 0) ∷ closes (pos 2) ∷ RestoredEntry (pos 1) ∷ [])
    ≡ record { entries = closed (pos 1) ∷ closed (pos 2) ∷ []; open_entry = false; awaited = 0 }
newest_goes = refl

tab_of_window : fold start (closes_window (pos 1) (pos 1) ∷ closes (pos 2) ∷ RestoredEntry (pos 2) ∷ [])
    ≡ record { entries = Window (record (new_window (pos 1) (pos 0) (pos 7) bounds) { tabs = new_tab (pos 2) (pos 0) (pos 7) ∷ [] }) ∷ []; open_entry = false; awaited = 0 }
tab_of_window = refl

-- with nothing open, and without a current tab or window, a command changes nothing
nothing_open : (g : GroupInfo) → fold start (Pinned true ∷ Group g ∷ WindowApp (pos 1) (65 ∷ []) [] ∷ []) ≡ start
nothing_open g = refl

no_tab : (g : GroupInfo) → fold start (closes_window (pos 1) (pos 1) ∷ Pinned true ∷ Group g ∷ []) ≡ fold start (closes_window (pos 1) (pos 1) ∷ [])
no_tab g = refl

no_window : fold start (closes (pos 1) ∷ WindowApp (pos 1) (65 ∷ []) [] ∷ []) ≡ fold start (closes (pos 1) ∷ [])
no_window = refl

-- a tab that was pinned isn't any more
unpinned : fold start (closes (pos 1) ∷ Pinned true ∷ Pinned false ∷ []) ≡ fold start (closes (pos 1) ∷ [])
unpinned = refl

-- the greatest count, and a negative one
greatest_count : fold start (closes_window (pos 1) (pos 2147483647) ∷ closes (pos 2) ∷ [])
    ≡ record { entries = Window (record (new_window (pos 1) (pos 0) (pos 7) bounds) { tabs = new_tab (pos 2) (pos 0) (pos 7) ∷ [] }) ∷ []; open_entry = true; awaited = 2147483646 }
greatest_count = refl

negative_count : fold start (closes_window (pos 1) (negsuc 2) ∷ closes (pos 2) ∷ [])
    ≡ record { entries = Window (new_window (pos 1) (pos 0) (pos 7) bounds) ∷ closed (pos 2) ∷ []; open_entry = true; awaited = 0 }
negative_count = refl

-- a page at a negative index isn't kept
negative_index : (n : Navigation) → fold start (closes (pos 1) ∷ UpdateNavigation (pos 1) (negsuc 0) n ∷ []) ≡ fold start (closes (pos 1) ∷ [])
negative_index n = refl

newest_first : shown (fold start (closes (pos 1) ∷ closes (pos 2) ∷ [])) ≡ closed (pos 2) ∷ closed (pos 1) ∷ []
newest_first = refl
