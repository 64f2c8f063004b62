-- Which tabs stand in which window: a list of pairs of a window and a tab, known by the pairs that it has.
use Rattle.std.specs.Prelude.{◌≡◌, ℤ, Bool, true, not, ◌&&◌, FitsSigned, List, Option, Some, None, if◌then◌else◌}
use Rattle.std.specs.Int.{w32}
use Rattle.std.specs.List.{list_any}
use Rattle.std.specs.Ordering.{int_cmp, int_eq, eq_by_cmp, ordering_then}
use Rattle.std.specs.declared.cmp.Ordering.{Ordering}
use Rattle.window_state.specs.declared.tab.Tab.{Tab}
use Rattle.window_state.specs.RowLists.{find_row}
use Rattle.window_state.specs.Keys.{tab_key}
use Rattle.window_state.specs.States.{State, IsKept, IsStateInRange, is_in}

-- by window, then by tab
abbrev pub pair_cmp : ℤ × ℤ → ℤ × ℤ → Ordering
pair_cmp x y = ordering_then (int_cmp x.0 y.0) (int_cmp x.1 y.1)

abbrev pub has_pair : ℤ → ℤ → List (ℤ × ℤ) → Bool
has_pair window tab pairs = list_any (eq_by_cmp pair_cmp (window, tab)) pairs

-- the tabs' ids are numbers of 32 bits
abbrev pub AreInRange : List (ℤ × ℤ) → Type 0
AreInRange pairs = (w t : ℤ) → has_pair w t pairs ≡ true → FitsSigned w32 t

-- the new pairs have this one or don't, and have the others where the old ones do
abbrev pub SetsPair : ℤ → ℤ → Bool → List (ℤ × ℤ) → List (ℤ × ℤ) → Type 0
SetsPair window tab there old new = (w t : ℤ) → has_pair w t new ≡ (if int_eq window w && int_eq tab t then there else has_pair w t old)

-- the tab's pair with the one window goes, unless that is the other one
abbrev pub LeavesWindow : ℤ → Option ℤ → Option ℤ → List (ℤ × ℤ) → List (ℤ × ℤ) → Type 0
LeavesWindow tab from to old new = (w t : ℤ) → has_pair w t new ≡ has_pair w t old && not (int_eq tab t && is_in w from && not (is_in w to))

-- the window of the tab with an id, where it stands and has one
abbrev pub own_window : Option Tab → Option ℤ
own_window None = None
own_window (Some tab) = tab.window

abbrev pub window_of : ℤ → List Tab → Option ℤ
window_of id tabs = own_window (find_row int_cmp tab_key id tabs)

-- a tab has this id and stands in this window
abbrev pub stands_in : ℤ → ℤ → Tab → Bool
stands_in window id tab = is_in window tab.window && int_eq tab.info.id id

-- a pair is there exactly where its tab stands and has its window
abbrev pub AreMembers : List (ℤ × ℤ) → List Tab → Type 0
AreMembers pairs tabs = (w t : ℤ) → has_pair w t pairs ≡ is_in w (window_of t tabs)

-- what a state and the pairs beside it keep
pub record IsHeld (pairs : List (ℤ × ℤ)) (s : State) : Type 0 where
  pub kept : IsKept s
  pub members : AreMembers pairs s.tabs

-- what a state in hand keeps, its numbers among it
pub record IsHeldInRange (pairs : List (ℤ × ℤ)) (s : State) : Type 0 where
  pub held : IsHeld pairs s
  pub ranged : IsStateInRange s
