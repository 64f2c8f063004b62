use Rattle.std.proofs.Common.{rules, ◌≡◌, IfOk, IfSome, FitsSigned, w32, sym, subst}
use Rattle.std.specs.List.{AllByRecursion}
use Rattle.window_state.specs.States.{State}
use Rattle.browser_driver.specs.Begun.{IsSmallWindow}
use Rattle.browser_driver.proofs.ViewedLaws.{viewed, made, made-state}
use Rattle.browser_driver.proofs.beginning.state_of.Goals as goal

pub rows_of_tabs-requires : goal.rows_of_tabs-requires
rows_of_tabs-requires c =
    subst (AllByRecursion IsSmallWindow) (sym c.as_slice.ensures) (viewed c.args.view.now c.requires).small

pub rows_of_windows-requires : goal.rows_of_windows-requires
rows_of_windows-requires c =
    subst (AllByRecursion IsSmallWindow) (sym c.as_slice-2.ensures) (viewed c.args.view.now c.requires).small

pub from_rows-requires : goal.from_rows-requires
from_rows-requires c =
    let fits : IfSome c.or.result (FitsSigned w32) = search rules in
    made-state c.args.view.now c.args.active c.as_slice.result.now c.as_slice-2.result.now c.as_slice-3.result.now _
    c.requires fits (record {
      tabs_of_is = c.as_slice.ensures;
      windows_of_is = c.as_slice-2.ensures;
      groups_of_is = c.as_slice-3.ensures;
      tabs = c.in_ok-tabs.ensures;
      windows = c.in_ok-windows.ensures;
      groups = c.in_ok-groups.ensures;
      active_is = c.or.ensures;
    })

pub returns : goal.returns
returns c =
    let s : State = record {
      tabs = c.in_ok-tabs.tabs;
      windows = c.in_ok-windows.windows;
      groups = c.in_ok-groups.groups;
      active = c.or.result;
    } in
    let is = made c.args.view.now c.args.active c.as_slice.result.now c.as_slice-2.result.now c.as_slice-3.result.now s
    (record {
      tabs_of_is = c.as_slice.ensures;
      windows_of_is = c.as_slice-2.ensures;
      groups_of_is = c.as_slice-3.ensures;
      tabs = c.in_ok-tabs.ensures;
      windows = c.in_ok-windows.ensures;
      groups = c.in_ok-groups.ensures;
      active_is = c.or.ensures;
    }) in
    subst (λ state. IfOk c.from_rows.result (λ x. x ≡ state)) is c.from_rows.ensures
