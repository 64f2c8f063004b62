use Rattle.std.proofs.Common.{◌≡◌, zero, map, refl, ap, ◌∙◌, rules, FitsSigned, w32}
use Rattle.std.specs.Ordering.{int_cmp}
use Rattle.std.proofs.lemmas.Int.{to_z-of_z}
use Rattle.window_state.specs.Keys.{tab_key}
use Rattle.browser_model.specs.Browsers.{rows}
use Rattle.browser_model.specs.Beginnings.{begun_window}
use Rattle.browser_driver.specs.Begun.{tab_rows, with_tabs}
use Rattle.browser_driver.proofs.BeginLaws.{rows-put, rows-done, window-rows}
use Rattle.browser_driver.proofs.beginning.rows_of_tabs.Goals as goal

pub loop-window-preserved : goal.loop-window-preserved
loop-window-preserved c =
    let known = c.loop-window.tabs in
    let i = c.loop-window.window-index in
    let x = c.window-item.result in
    let fits : FitsSigned w32 x.info.id = search rules in
    let put : c.put_tabs.new.tabs ≡ with_tabs known (tab_rows x.info.id zero x.tabs) =
    simp to_z-of_z at c.in_ok-put_tabs.ensures
    ∙ ap (λ ts. with_tabs known (tab_rows x.info.id zero ts)) c.as_slice.ensures in
    rows-put int_cmp tab_key (λ ws. rows (map begun_window ws)) _ c.args.windows.now i x
    (tab_rows x.info.id zero x.tabs) known c.put_tabs.new.tabs c.loop-window-test.true c.window-item.is
    (λ ys. window-rows (begun_window x) (map begun_window ys)) put c.loop-window.invariant

pub returns : goal.returns
returns c =
    rows-done int_cmp tab_key (λ ws. rows (map begun_window ws)) _ c.args.windows.now c.loop-window.window-index
    c.loop-window.tabs c.loop-window-test.false refl c.loop-window.invariant
