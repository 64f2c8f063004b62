-- What a closed tab, a closed window and an entry are when they are made, and how an entry is changed.
use Rattle.std.specs.Prelude.{ℤ, false, [], ◌∷◌, ◌++◌, None}
use Rattle.navigation_entry.specs.declared.bounds.Bounds.{Bounds}
use Rattle.closed_entries.specs.declared.closed_tab.ClosedTab.{ClosedTab}
use Rattle.closed_entries.specs.declared.closed_window.ClosedWindow.{ClosedWindow}
use Rattle.closed_entries.specs.declared.entry.Entry.{Entry}
use Rattle.closed_entries.specs.declared.entry.Entry.TheVariants.{Tab, Window}
use Rattle.closed_entries.specs.LastItem.{on_last}

-- a tab of which nothing else is known
abbrev pub new_tab : ℤ → ℤ → ℤ → ClosedTab
new_tab id selected time = record {
  id = id;
  selected = selected;
  time = time;
  pinned = false;
  extension = None;
  agent = None;
  group = None;
  pages = [];
}

-- a window without tabs
abbrev pub new_window : ℤ → ℤ → ℤ → Bounds → ClosedWindow
new_window id selected time bounds = record {
  id = id;
  selected = selected;
  time = time;
  bounds = bounds;
  app = None;
  title = None;
  tabs = [];
}

-- the id of an entry is its tab's or its window's
abbrev pub id_of : Entry → ℤ
id_of (Tab t) = t.id
id_of (Window w) = w.id

-- the tab of an entry, or the last of its window's tabs, is changed
abbrev pub with_tab : (ClosedTab → ClosedTab) → Entry → Entry
with_tab change (Tab t) = Tab (change t)
with_tab change (Window w) = Window (record w { tabs = on_last change w.tabs })

-- the window of an entry is changed
abbrev pub with_window : (ClosedWindow → ClosedWindow) → Entry → Entry
with_window change (Tab t) = Tab t
with_window change (Window w) = Window (change w)

-- a tab goes to the end of a window's tabs
abbrev pub with_more : ClosedTab → ClosedWindow → ClosedWindow
with_more t w = record w { tabs = w.tabs ++ t ∷ [] }
