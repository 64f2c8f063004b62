use Rattle.std.proofs.Common.{refl, ap, ◌∙◌}
use Rattle.window_state.specs.Keys.{group_key, group_cmp}
use Rattle.window_state.specs.RowLists.{put_row}
use Rattle.browser_driver.proofs.BeginLaws.{row-put, rows-done}
use Rattle.browser_driver.proofs.beginning.rows_of_groups.Goals as goal

pub loop-group-preserved : goal.loop-group-preserved
loop-group-preserved c =
    let known = c.loop-group.groups in
    let x = c.group-item.result in
    let put = c.in_ok-put.ensures.ok ∙ ap (λ g. put_row group_cmp group_key g known) c.in_ok-copy.ensures in
    row-put group_cmp group_key (λ gs. gs) _ c.args.shown.now c.loop-group.group-index x x known c.put.new.self
    c.loop-group-test.true c.group-item.is (λ ys. refl) put c.loop-group.invariant

pub returns : goal.returns
returns c =
    rows-done group_cmp group_key (λ gs. gs) _ c.args.shown.now c.loop-group.group-index c.loop-group.groups
    c.loop-group-test.false refl c.loop-group.invariant
