use Rattle.std.proofs.Common.{◌≡◌, pos, map, refl, arith, w32, to_z}
use Rattle.std.specs.Ordering.{int_cmp}
use Rattle.std.proofs.lemmas.Int.{to_z_pos}
use Rattle.window_state.specs.Keys.{window_key}
use Rattle.window_state.specs.RowLists.{put_row}
use Rattle.browser_model.specs.Browsers.{window_row}
use Rattle.browser_model.specs.Beginnings.{begun_window}
use Rattle.browser_driver.specs.Begun.{IsSmallWindow}
use Rattle.browser_driver.proofs.BeginLaws.{all-at, row-put, rows-done}
use Rattle.browser_driver.proofs.beginning.rows_of_windows.Goals as goal

pub loop-window-preserved : goal.loop-window-preserved
loop-window-preserved c =
    let known = c.loop-window.windows in
    let i = c.loop-window.window-index in
    let x = c.window-item.result in
    let small = all-at IsSmallWindow c.args.shown.now i x c.requires c.loop-window-test.true c.window-item.is in
    let is_pos : to_z w32 x.selected ≡ pos x.selected = to_z_pos w32 x.selected (omega (arith, small.selected)) in
    let info = c.in_ok-info.ensures in
    let put : c.put.new.self ≡ put_row int_cmp window_key (window_row (begun_window x)) known =
    rw (is_pos, info) at c.in_ok-put.ensures.ok in
    row-put int_cmp window_key (λ ws. map window_row (map begun_window ws)) _ c.args.shown.now i x
    (window_row (begun_window x)) known c.put.new.self c.loop-window-test.true c.window-item.is (λ ys. refl) put
    c.loop-window.invariant

pub returns : goal.returns
returns c =
    rows-done int_cmp window_key (λ ws. map window_row (map begun_window ws)) _ c.args.shown.now
    c.loop-window.window-index c.loop-window.windows c.loop-window-test.false refl c.loop-window.invariant
