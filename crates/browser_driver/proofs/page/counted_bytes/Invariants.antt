use Rattle.std.proofs.Common.{◌≡◌, ◌-◌, ◌++◌}
use Rattle.browser_model.specs.Navigations.{state_from, visit_state}
use Rattle.browser_driver.proofs.page.counted_bytes.Given as goal

abbrev pub invariant-loop-place : goal.invariant-loop-place
invariant-loop-place l = l.bytes.items ++ state_from l.place (l.len - l.place) ≡ visit_state l.len
