-- What stays of a tab fits the payloads of its commands.
use Rattle.std.proofs.Common.{◌≡◌, zero, suc, ℤ, List, [], Option, Some, None, option_map, refl, arith}
use Rattle.std.specs.Prelude.{IfSome, FitsSigned}
use Rattle.std.specs.Int.{w64}
use Rattle.std.specs.List.{AllByRecursion}
use Rattle.closed_entries.specs.States.{IsTab}
use Rattle.navigation_entry.specs.declared.group.GroupInfo.{GroupInfo}
use Rattle.tab_pages.specs.Ranges.{AreUnits, IsGroupInRange}
use Rattle.window_state.specs.declared.group_id.GroupId.{GroupId}
use Rattle.window_state.specs.declared.tab.Tab.{Tab}
use Rattle.window_state.specs.Fits.{IsKeptTab}
use Rattle.window_state.specs.Keys.{group_key, group_cmp}
use Rattle.window_state.specs.Ranges.{IsTabInRange, IsGroupIdInRange}
use Rattle.window_state.specs.RowLists.{find_row}
use Rattle.browser_model.specs.Entries.{known_group}
use Rattle.browser_model.specs.Navigations.{bare_group}
use Rattle.browser_driver.specs.SeatPlans.{closed_row}
use Rattle.browser_driver.proofs.RowLaws.{of-row}

no-units : AreUnits []
no-units zero = omega arith
no-units (suc i) = omega arith

pub bare-ranged : (id : GroupId) → IsGroupIdInRange id → IsGroupInRange (bare_group id.high id.low)
bare-ranged id ranged = record { high = ranged.0; low = ranged.1; title = no-units; colour = omega arith }

known-ranged : (groups : List GroupInfo) (id : GroupId) → AllByRecursion IsGroupInRange groups → IsGroupIdInRange id
    → IsGroupInRange (known_group groups id)
known-ranged groups id all ranged = by (find_row group_cmp group_key id groups) refl
  where
    by : (o : Option GroupInfo) → find_row group_cmp group_key id groups ≡ o → IsGroupInRange (known_group groups id)
    by None e = rw e (bare-ranged id ranged)
    by (Some g) e = rw e (of-row IsGroupInRange group_cmp group_key id g groups e all)

pub row-fits : (groups : List GroupInfo) (moment : ℤ) (t : Tab) → IsKeptTab t → IsTabInRange t
    → AllByRecursion IsGroupInRange groups → FitsSigned w64 moment → IsTab (closed_row groups moment t)
row-fits groups moment t kept ranged all time = record {
  id = ranged.info.id;
  selected = ranged.current;
  time = time;
  extension = kept.extension;
  agent = kept.agent;
  group = group t.info.group ranged.info.group;
  pages = ranged.pages;
  rising = kept.rising;
}
  where
    group : (id : Option GroupId) → IfSome id IsGroupIdInRange
        → IfSome (option_map (known_group groups) id) IsGroupInRange
    group None ranged = tt
    group (Some id) ranged = known-ranged groups id all ranged
