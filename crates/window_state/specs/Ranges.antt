-- The numbers of tabs and windows, and of their changes, are in the ranges of their types, as those of every value in hand are.
use Rattle.std.specs.Prelude.{◌<◌, ◌^◌, FitsSigned, IfSome}
use Rattle.std.specs.Int.{w32, w64}
use Rattle.std.specs.List.{AllByRecursion}
use Rattle.tab_pages.specs.Ranges.{AreBoundsInRange, IsPageInRange}
use Rattle.window_state.specs.declared.group_id.GroupId.{GroupId}
use Rattle.window_state.specs.declared.tab.Tab.{Tab}
use Rattle.window_state.specs.declared.tab.TabInfo.{TabInfo}
use Rattle.window_state.specs.declared.window.Window.{Window}
use Rattle.window_state.specs.declared.change.TabChange.{TabChange}
use Rattle.window_state.specs.declared.change.TabChange.TheVariants as tab
use Rattle.window_state.specs.declared.change.WindowChange.{WindowChange}
use Rattle.window_state.specs.declared.change.WindowChange.TheVariants as window

abbrev pub IsGroupIdInRange : GroupId → Type 0
IsGroupIdInRange id = (id.high < 2 ^ 64) × (id.low < 2 ^ 64)

pub record IsInfoInRange (info : TabInfo) : Type 0 where
  pub id : FitsSigned w32 info.id
  pub group : IfSome info.group IsGroupIdInRange
  pub last_active : FitsSigned w64 info.last_active

pub record IsTabInRange (t : Tab) : Type 0 where
  pub info : IsInfoInRange t.info
  pub window : IfSome t.window (FitsSigned w32)
  pub index : FitsSigned w32 t.index
  pub current : FitsSigned w32 t.current
  pub pages : AllByRecursion IsPageInRange t.pages

pub record IsWindowInRange (w : Window) : Type 0 where
  pub id : FitsSigned w32 w.info.id
  pub kind : FitsSigned w32 w.info.kind
  pub bounds : IfSome w.info.bounds AreBoundsInRange
  pub selected : FitsSigned w32 w.selected

-- the numbers of a change
abbrev pub IsTabChangeInRange : TabChange → Type 0
IsTabChangeInRange (tab.Index index) = FitsSigned w32 index
IsTabChangeInRange (tab.Page index navigation) = IsPageInRange (index, navigation)
IsTabChangeInRange (tab.Current index) = FitsSigned w32 index
IsTabChangeInRange (tab.PruneBack index) = FitsSigned w32 index
IsTabChangeInRange (tab.PruneFront count) = FitsSigned w32 count
IsTabChangeInRange (tab.Prune index count) = FitsSigned w32 index × FitsSigned w32 count
IsTabChangeInRange (tab.Pinned pinned) = Unit {0}
IsTabChangeInRange (tab.Extension text) = Unit {0}
IsTabChangeInRange (tab.Storage text) = Unit {0}
IsTabChangeInRange (tab.Guid text) = Unit {0}
IsTabChangeInRange (tab.Agent rest) = Unit {0}
IsTabChangeInRange (tab.Group group) = IfSome group IsGroupIdInRange
IsTabChangeInRange (tab.LastActive time) = FitsSigned w64 time
IsTabChangeInRange (tab.ExtraValue key value) = Unit {0}

abbrev pub IsWindowChangeInRange : WindowChange → Type 0
IsWindowChangeInRange (window.Selected index) = FitsSigned w32 index
IsWindowChangeInRange (window.Kind kind) = FitsSigned w32 kind
IsWindowChangeInRange (window.Bounded bounds) = AreBoundsInRange bounds
IsWindowChangeInRange (window.App text) = Unit {0}
IsWindowChangeInRange (window.Workspace text) = Unit {0}
IsWindowChangeInRange (window.AllWorkspaces all) = Unit {0}
IsWindowChangeInRange (window.Title text) = Unit {0}
IsWindowChangeInRange (window.ExtraValue key value) = Unit {0}
