-- The numbers of pages, groups and bounds are in the ranges of their types, as those of every value in hand are.
use Rattle.std.specs.Prelude.{ℕ, ℤ, ◌<◌, ◌^◌, FitsSigned, List, get_or}
use Rattle.std.specs.Int.{w32}
use Rattle.navigation_entry.specs.declared.bounds.Bounds.{Bounds}
use Rattle.navigation_entry.specs.declared.group.GroupInfo.{GroupInfo}
use Rattle.navigation_entry.specs.declared.navigation.Navigation.{Navigation}

abbrev pub AreUnits : List ℕ → Type 0
AreUnits units = (i : ℕ) → get_or units i 0 < 2 ^ 16

pub record IsNavigationInRange (n : Navigation) : Type 0 where
  pub title : AreUnits n.title
  pub transition : FitsSigned w32 n.transition

abbrev pub IsPageInRange : ℤ × Navigation → Type 0
IsPageInRange page = FitsSigned w32 page.0 × IsNavigationInRange page.1

pub record IsGroupInRange (group : GroupInfo) : Type 0 where
  pub high : group.high < 2 ^ 64
  pub low : group.low < 2 ^ 64
  pub title : AreUnits group.title
  pub colour : group.colour < 2 ^ 32

pub record AreBoundsInRange (bounds : Bounds) : Type 0 where
  pub x : FitsSigned w32 bounds.x
  pub y : FitsSigned w32 bounds.y
  pub width : FitsSigned w32 bounds.width
  pub height : FitsSigned w32 bounds.height
  pub show : FitsSigned w32 bounds.show
