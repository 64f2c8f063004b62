-- A tab that is changed twice is as if it were changed the second time alone, where the second change leaves nothing
-- of the first. This holds of any state, in order and within the limits or not.
use Rattle.std.proofs.Common.{◌≡◌, suc, nat_le, ℤ, Bool, true, false, ◌&&◌, cond, List, [], ◌∷◌, length, refl, ap}
use Rattle.std.specs.declared.cmp.Ordering.{Ordering}
use Rattle.std.specs.declared.cmp.Ordering.TheVariants.{Less, Equal, Greater}
use Rattle.std.specs.Ordering.{int_cmp}
use Rattle.window_state.specs.declared.tab.Tab.{Tab}
use Rattle.window_state.specs.Changes.{new_tab}
use Rattle.window_state.specs.Keys.{tab_key}
use Rattle.window_state.specs.Limits.{limit}
use Rattle.window_state.specs.RowLists.{step_row}
use Rattle.window_state.specs.States.{State, is_within, on_tab, with_tab}
use Rattle.window_state.proofs.StateLaws.{itself}

module _ {K R : Type 0} (cmp : K → K → Ordering) (key : R → K) (k : K) (fresh : R) (first second : R → R) where
  -- how many rows there are doesn't depend on the change
  length-step : (rows : List R)
      → length (step_row cmp key k fresh second rows) ≡ length (step_row cmp key k fresh first rows)
  length-step [] = refl
  length-step (r ∷ rs) = by (length-step rs) (cmp k (key r)) refl
    where
      by : length (step_row cmp key k fresh second rs) ≡ length (step_row cmp key k fresh first rs)
          → (o : Ordering) → cmp k (key r) ≡ o
          → length (step_row cmp key k fresh second (r ∷ rs)) ≡ length (step_row cmp key k fresh first (r ∷ rs))
      by rest Less is = rw is refl
      by rest Equal is = rw is refl
      by rest Greater is = rw is (ap suc rest)

  -- a row that was made by the first change is there for the second
  step-over : cmp k k ≡ Equal → key fresh ≡ k → ((r : R) → key (first r) ≡ key r)
      → ((r : R) → second (first r) ≡ second r) → (rows : List R)
      → step_row cmp key k fresh second (step_row cmp key k fresh first rows) ≡ step_row cmp key k fresh second rows
  step-over same own keeps over [] = rw (keeps fresh, own, same, over fresh) refl
  step-over same own keeps over (r ∷ rs) = by (step-over same own keeps over rs) (cmp k (key r)) refl
    where
      by : step_row cmp key k fresh second (step_row cmp key k fresh first rs) ≡ step_row cmp key k fresh second rs
          → (o : Ordering) → cmp k (key r) ≡ o
          → step_row cmp key k fresh second (step_row cmp key k fresh first (r ∷ rs))
          ≡ step_row cmp key k fresh second (r ∷ rs)
      by rest Less is = rw (is, keeps fresh, own, same, over fresh) refl
      by rest Equal is = rw (is, keeps r, is, over r) refl
      by rest Greater is = rw (is, is) (ap (λ others. r ∷ others) rest)

-- a change that is made where its result is allowed, over another one whose result is allowed in the same cases
allowed-over : {X : Type 0} (allowed : X → Bool) (first second : X → X) (x : X) → second (first x) ≡ second x
    → allowed (second x) ≡ allowed (first x)
    → (let y = cond (allowed (first x)) (first x) x in cond (allowed (second y)) (second y) y)
    ≡ cond (allowed (second x)) (second x) x
allowed-over {X} allowed first second x over alike = by (allowed (first x)) refl
  where
    by : (b : Bool) → allowed (first x) ≡ b
        → (let y = cond (allowed (first x)) (first x) x in cond (allowed (second y)) (second y) y)
        ≡ cond (allowed (second x)) (second x) x
    by true is = rw (is, over, alike, is) refl
    by false is = rw is refl

pub on_tab-over : (id : ℤ) (first second : Tab → Tab) (s : State) → ((t : Tab) → tab_key (first t) ≡ tab_key t)
    → ((t : Tab) → second (first t) ≡ second t) → on_tab id second (on_tab id first s) ≡ on_tab id second s
on_tab-over id first second s keeps over =
    allowed-over is_within (with_tab id first) (with_tab id second) s
    (ap (λ tabs. record s { tabs = tabs })
    (step-over int_cmp tab_key id (new_tab id) first second (itself id) refl keeps over s.tabs))
    (ap (λ n. nat_le n limit && nat_le (length s.windows) limit)
    (length-step int_cmp tab_key id (new_tab id) first second s.tabs))
