-- Rows in a list by rising key. Insertion, change and removal go by cases on the comparison with each key, so they
-- are defined on every list.
use Rattle.std.specs.Prelude.{◌≡◌, List, [], ◌∷◌, filter, Option, Some, None, if◌then◌else◌}
use Rattle.std.specs.List.{AllByRecursion}
use Rattle.std.specs.Ordering.{is_eq, match_ordering}
use Rattle.std.specs.declared.cmp.Ordering.{Ordering}

module _ {K R : Type 0} (cmp : K → K → Ordering) (key : R → K) where
  -- the row under a key
  abbrev pub find_row : K → List R → Option R
  find_row k [] = None
  find_row k (r ∷ rs) = if is_eq (cmp k (key r)) then Some r else find_row k rs

  -- a row replaced, or put in by its key
  abbrev pub put_row : R → List R → List R
  put_row row [] = row ∷ []
  put_row row (r ∷ rs) = match_ordering (cmp (key row) (key r)) (row ∷ r ∷ rs) (row ∷ rs) (r ∷ put_row row rs)

  -- the row under a key is changed; where there is none, a fresh one is changed and put in by the key
  abbrev pub step_row : K → R → (R → R) → List R → List R
  step_row k fresh change [] = change fresh ∷ []
  step_row k fresh change (r ∷ rs) = match_ordering (cmp k (key r)) (change fresh ∷ r ∷ rs) (change r ∷ rs) (r ∷ step_row k fresh change rs)

  -- the rows under a key, of rows in any order
  abbrev pub only : K → List R → List R
  only k rows = filter (λ r. is_eq (cmp k (key r))) rows

  -- a row that is changed where it has the key
  abbrev pub on_key : K → (R → R) → R → R
  on_key k change r = if is_eq (cmp k (key r)) then change r else r

  -- the row under a key goes
  abbrev pub without_row : K → List R → List R
  without_row k [] = []
  without_row k (r ∷ rs) = if is_eq (cmp k (key r)) then rs else r ∷ without_row k rs

-- each row stands under its own key
abbrev pub IsKeyed : {K R : Type 0} → (R → K) → List (K × R) → Type 0
IsKeyed key entries = AllByRecursion (λ entry. entry.0 ≡ key entry.1) entries
