use Rattle.std.proofs.Common.{refl, FitsSigned, w32}
use Rattle.std.specs.Ordering.{int_cmp}
use Rattle.std.proofs.lemmas.Int.{to_z-of_z}
use Rattle.window_state.specs.Keys.{tab_key}
use Rattle.browser_driver.specs.Begun.{IsSmallTab, tab_rows}
use Rattle.browser_driver.proofs.BeginLaws.{all-at, tab-put, rows-done}
use Rattle.browser_driver.proofs.beginning.put_tabs.Goals as goal

pub tab_at-requires-clause-small : goal.tab_at-requires-clause-small
tab_at-requires-clause-small c =
    all-at IsSmallTab c.args.shown.now c.loop-place.place c.index-shown-place.result c.requires.small
    c.loop-place-test.true c.index-shown-place.is

pub loop-place-preserved : goal.loop-place-preserved
loop-place-preserved c =
    let fits : FitsSigned w32 c.args.window = c.ranges.window in
    let at = simp to_z-of_z at c.in_ok-tab_at.ensures in
    let before = simp to_z-of_z at c.loop-place.invariant in
    simp to_z-of_z (tab-put c.args.window _ c.args.shown.now c.loop-place.place c.index-shown-place.result
    c.in_ok-tab_at.field-0 c.loop-place.tabs c.put.new.self c.loop-place-test.true c.index-shown-place.is at
    c.in_ok-put.ensures.ok before)

pub returns : goal.returns
returns c =
    let fits : FitsSigned w32 c.args.window = c.ranges.window in
    let before = simp to_z-of_z at c.loop-place.invariant in
    rows-done int_cmp tab_key (tab_rows c.args.window c.loop-place.place) _ c.args.shown.now c.loop-place.place
    c.loop-place.tabs c.loop-place-test.false refl before
