-- What every tab and every window keep: the payloads of their commands can hold their texts, a tab's pages stand by
-- rising index, and no extra key stands twice. And which changes keep that.
use Rattle.std.specs.Prelude.{ℕ, ◌+◌, ◌≤◌, pos, List, length, nat_eq, IfSome}
use Rattle.std.specs.List.{AllByRecursion, IsDistinct}
use Rattle.std.specs.Map.{keys_of}
use Rattle.std.specs.Cmp.Lexicographic.{pointwise}
use Rattle.pickle_cells.specs.Cell.{string_size}
use Rattle.tab_pages.specs.PageLists.{IsRising}
use Rattle.tab_pages.specs.Fits.{payload_limit, FitsText, FitsRest}
use Rattle.window_state.specs.declared.tab.Tab.{Tab}
use Rattle.window_state.specs.declared.window.Window.{Window}
use Rattle.window_state.specs.declared.change.TabChange.{TabChange}
use Rattle.window_state.specs.declared.change.TabChange.TheVariants as tab
use Rattle.window_state.specs.declared.change.WindowChange.{WindowChange}
use Rattle.window_state.specs.declared.change.WindowChange.TheVariants as window

-- a number, a key and its value
abbrev pub FitsPair : List ℕ × List ℕ → Type 0
FitsPair pair = 8 + string_size (length pair.0) + string_size (length pair.1) ≤ payload_limit

-- no key of the pairs stands twice
abbrev pub HasDistinctKeys : List (List ℕ × List ℕ) → Type 0
HasDistinctKeys pairs = IsDistinct (pointwise nat_eq) (keys_of pairs)

pub record IsKeptTab (t : Tab) : Type 0 where
  pub extension : IfSome t.info.extension FitsText
  pub storage : IfSome t.info.storage FitsText
  pub guid : IfSome t.info.guid FitsText
  pub agent : IfSome t.info.agent FitsRest
  pub extra : AllByRecursion FitsPair t.info.extra
  pub distinct : HasDistinctKeys t.info.extra
  pub rising : IsRising (pos 0) t.pages

pub record IsKeptWindow (w : Window) : Type 0 where
  pub app : IfSome w.info.app FitsText
  pub workspace : IfSome w.info.workspace FitsText
  pub title : IfSome w.info.title FitsText
  pub extra : AllByRecursion FitsPair w.info.extra
  pub distinct : HasDistinctKeys w.info.extra

abbrev pub TabChangeFits : TabChange → Type 0
TabChangeFits (tab.Extension text) = FitsText text
TabChangeFits (tab.Storage text) = FitsText text
TabChangeFits (tab.Guid text) = FitsText text
TabChangeFits (tab.Agent rest) = FitsRest rest
TabChangeFits (tab.ExtraValue key value) = FitsPair (key, value)
TabChangeFits (tab.Index index) = Unit {0}
TabChangeFits (tab.Page index navigation) = Unit {0}
TabChangeFits (tab.Current index) = Unit {0}
TabChangeFits (tab.PruneBack index) = Unit {0}
TabChangeFits (tab.PruneFront count) = Unit {0}
TabChangeFits (tab.Prune index count) = Unit {0}
TabChangeFits (tab.Pinned pinned) = Unit {0}
TabChangeFits (tab.Group group) = Unit {0}
TabChangeFits (tab.LastActive time) = Unit {0}

abbrev pub WindowChangeFits : WindowChange → Type 0
WindowChangeFits (window.App text) = FitsText text
WindowChangeFits (window.Workspace text) = FitsText text
WindowChangeFits (window.Title text) = FitsText text
WindowChangeFits (window.ExtraValue key value) = FitsPair (key, value)
WindowChangeFits (window.Selected index) = Unit {0}
WindowChangeFits (window.Kind kind) = Unit {0}
WindowChangeFits (window.Bounded bounds) = Unit {0}
WindowChangeFits (window.AllWorkspaces all) = Unit {0}
