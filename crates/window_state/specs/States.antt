-- The state of a session: tabs and windows by rising id, groups by rising token, and the active window. A change
-- first makes the tab or the window that it names; where that would be one too many, nothing changes.
use Rattle.std.specs.Prelude.{◌≤◌, nat_le, ℤ, Bool, false, not, ◌&&◌, List, [], length, map, filter, Option, Some, None, is_some, IfSome, IsTrue, FitsSigned, if◌then◌else◌}
use Rattle.std.specs.Int.{w32}
use Rattle.std.specs.List.{AllByRecursion}
use Rattle.std.specs.List.Sorted.{IsStrictlySortedBy}
use Rattle.std.specs.Ordering.{int_cmp, int_eq}
use Rattle.navigation_entry.specs.declared.group.GroupInfo.{GroupInfo}
use Rattle.window_state.specs.declared.tab.Tab.{Tab}
use Rattle.window_state.specs.declared.window.Window.{Window}
use Rattle.window_state.specs.RowLists.{find_row, put_row, step_row, without_row}
use Rattle.window_state.specs.Keys.{tab_key, window_key, group_key, group_cmp}
use Rattle.window_state.specs.Changes.{new_tab, new_window}
use Rattle.window_state.specs.Fits.{IsKeptTab, IsKeptWindow}
use Rattle.tab_pages.specs.Ranges.{IsGroupInRange}
use Rattle.window_state.specs.Ranges.{IsTabInRange, IsWindowInRange}
use Rattle.window_state.specs.Limits.{limit}

pub record State : Type 0 where
  pub tabs : List Tab
  pub windows : List Window
  pub groups : List GroupInfo
  pub active : Option ℤ

abbrev pub start : State
start = record { tabs = []; windows = []; groups = []; active = None }

-- no more tabs and windows than there may be
abbrev pub is_within : State → Bool
is_within s = nat_le (length s.tabs) limit && nat_le (length s.windows) limit

-- the new state where it is within the limits, else the old one
abbrev pub or_unchanged : State → State → State
or_unchanged old new = if is_within new then new else old

-- the tab, made where it isn't there, is changed
abbrev pub with_tab : ℤ → (Tab → Tab) → State → State
with_tab id change s = record s { tabs = step_row int_cmp tab_key id (new_tab id) change s.tabs }

abbrev pub with_window : ℤ → (Window → Window) → State → State
with_window id change s = record s { windows = step_row int_cmp window_key id (new_window id) change s.windows }

abbrev pub on_tab : ℤ → (Tab → Tab) → State → State
on_tab id change s = or_unchanged s (with_tab id change s)

abbrev pub on_window : ℤ → (Window → Window) → State → State
on_window id change s = or_unchanged s (with_window id change s)

-- the tab stands in the window; both are made where they aren't there
abbrev pub with_both : ℤ → ℤ → State → State
with_both window tab s = with_tab tab (λ t. record t { window = Some window }) (with_window window (λ w. w) s)

abbrev pub placed : ℤ → ℤ → State → State
placed window tab s = or_unchanged s (with_both window tab s)

abbrev pub with_group : GroupInfo → State → State
with_group group s = record s { groups = put_row group_cmp group_key group s.groups }

abbrev pub with_active : ℤ → State → State
with_active window s = record s { active = Some window }

abbrev pub tab_closed : ℤ → State → State
tab_closed id s = record s { tabs = without_row int_cmp tab_key id s.tabs }

-- a tab's window is this one
abbrev pub is_in : ℤ → Option ℤ → Bool
is_in window None = false
is_in window (Some own) = int_eq own window

abbrev pub stands : ℤ → List Window → Bool
stands id windows = is_some (find_row int_cmp window_key id windows)

abbrev pub without_window : ℤ → State → State
without_window id s = record s { tabs = filter (λ tab. not (is_in id tab.window)) s.tabs; windows = without_row int_cmp window_key id s.windows }

-- the window and its tabs go, where it stands
abbrev pub window_closed : ℤ → State → State
window_closed id s = if stands id s.windows then without_window id s else s

-- a tab's window stands in the list
abbrev pub HasWindow : List Window → Tab → Type 0
HasWindow windows tab = IfSome tab.window (λ id. IsTrue (stands id windows))

-- no more tabs and windows than there may be, tabs whose windows stand, and what each tab and each window keep
pub record IsKept (s : State) : Type 0 where
  pub tabs : length s.tabs ≤ limit
  pub windows : length s.windows ≤ limit
  pub standing : AllByRecursion (HasWindow s.windows) s.tabs
  pub each_tab : AllByRecursion IsKeptTab s.tabs
  pub each_window : AllByRecursion IsKeptWindow s.windows

-- rows by rising key, so that no key stands twice
pub record IsOrdered (s : State) : Type 0 where
  pub tabs : IsStrictlySortedBy int_cmp (map tab_key s.tabs)
  pub windows : IsStrictlySortedBy int_cmp (map window_key s.windows)
  pub groups : IsStrictlySortedBy group_cmp (map group_key s.groups)

-- the numbers are in the ranges of their types
pub record IsStateInRange (s : State) : Type 0 where
  pub tabs : AllByRecursion IsTabInRange s.tabs
  pub windows : AllByRecursion IsWindowInRange s.windows
  pub groups : AllByRecursion IsGroupInRange s.groups
  pub active : IfSome s.active (FitsSigned w32)

-- what every state keeps
pub record IsState (s : State) : Type 0 where
  pub kept : IsKept s
  pub ordered : IsOrdered s
  pub ranged : IsStateInRange s
