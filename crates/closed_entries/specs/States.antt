-- The state of closed entries: tabs and windows that were closed, the newest last; whether the newest is open, so that
-- further commands speak of it; and how many tabs are still awaited for it. And what every state keeps.
use Rattle.std.specs.Prelude.{◌≡◌, ℕ, ◌+◌, ◌<◌, ◌≤◌, pos, Bool, false, List, [], length, IfSome, FitsSigned}
use Rattle.std.specs.Int.{w32, w64}
use Rattle.std.specs.List.{AllByRecursion}
use Rattle.tab_pages.specs.Fits.{FitsText, FitsRest}
use Rattle.tab_pages.specs.PageLists.{IsRising}
use Rattle.tab_pages.specs.Ranges.{AreBoundsInRange, IsGroupInRange, IsPageInRange}
use Rattle.closed_entries.specs.declared.limits.TheConstants.{ENTRIES}
use Rattle.closed_entries.specs.declared.closed_tab.ClosedTab.{ClosedTab}
use Rattle.closed_entries.specs.declared.closed_window.ClosedWindow.{ClosedWindow}
use Rattle.closed_entries.specs.declared.entry.Entry.{Entry}
use Rattle.closed_entries.specs.declared.entry.Entry.TheVariants.{Tab, Window}
use Rattle.closed_entries.specs.Limits.{tab_limit}
use Rattle.closed_entries.specs.LastItem.{HoldsOfLast}

pub record State : Type 0 where
  pub entries : List Entry
  pub open_entry : Bool
  pub awaited : ℕ

abbrev pub start : State
start = record { entries = []; open_entry = false; awaited = 0 }

-- a tab's texts fit the payloads of their commands, its pages stand by rising index, and its numbers are in range
pub record IsTab (t : ClosedTab) : Type 0 where
  pub id : FitsSigned w32 t.id
  pub selected : FitsSigned w32 t.selected
  pub time : FitsSigned w64 t.time
  pub extension : IfSome t.extension FitsText
  pub agent : IfSome t.agent FitsRest
  pub group : IfSome t.group IsGroupInRange
  pub pages : AllByRecursion IsPageInRange t.pages
  pub rising : IsRising (pos 0) t.pages

-- the same of a window, and of each of its tabs, which are no more than a count can say
pub record IsWindow (w : ClosedWindow) : Type 0 where
  pub id : FitsSigned w32 w.id
  pub selected : FitsSigned w32 w.selected
  pub time : FitsSigned w64 w.time
  pub bounds : AreBoundsInRange w.bounds
  pub app : IfSome w.app FitsText
  pub title : IfSome w.title FitsText
  pub tabs : AllByRecursion IsTab w.tabs
  pub few : length w.tabs ≤ tab_limit

abbrev pub IsEntry : Entry → Type 0
IsEntry (Tab t) = IsTab t
IsEntry (Window w) = IsWindow w

-- a window to which so many tabs can be added
abbrev pub HasRoom : ℕ → Entry → Type 0
HasRoom more (Tab t) = ⊥
HasRoom more (Window w) = length w.tabs + more ≤ tab_limit

-- What every state keeps: where there are no entries, none is open; where none is open, no tab is awaited; and where some
-- are, the last entry is a window that has room for them.
pub record IsState (s : State) : Type 0 where
  pub each : AllByRecursion IsEntry s.entries
  pub few : length s.entries ≤ ENTRIES
  pub closed : s.entries ≡ [] → s.open_entry ≡ false
  pub awaits_none : s.open_entry ≡ false → s.awaited ≡ 0
  pub room : 0 < s.awaited → HoldsOfLast (HasRoom s.awaited) s.entries
