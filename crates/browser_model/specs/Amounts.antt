-- How much a browser holds: its pages, no more windows and tabs than there may be, and under each id one at most.
use Rattle.std.specs.Prelude.{ℕ, ◌≤◌, ℤ, map, length, sum_by}
use Rattle.std.specs.Ordering.{int_cmp}
use Rattle.std.specs.List.Sorted.{IsStrictlySortedBy}
use Rattle.window_state.specs.Limits.{limit}
use Rattle.window_state.specs.RowLists.{only}
use Rattle.browser_model.specs.Browsers.{Browser, all_stands, open_key, stand_key}

-- the pages of all tabs
abbrev pub pages_in : Browser → ℕ
pages_in b = sum_by (λ s. length s.tab.pages) (all_stands b.windows)

pub record HasFew (b : Browser) : Type 0 where
  pub windows : length b.windows ≤ limit
  pub tabs : length (all_stands b.windows) ≤ limit

-- windows by rising id, and no id of a tab stands twice
pub record HasDistinctIds (b : Browser) : Type 0 where
  pub windows : IsStrictlySortedBy int_cmp (map open_key b.windows)
  pub tabs : (id : ℤ) → length (only int_cmp stand_key id (all_stands b.windows)) ≤ 1
