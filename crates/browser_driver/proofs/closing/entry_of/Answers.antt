use Rattle.std.proofs.Common.{◌≡◌, Some, sym, ap, ◌∙◌, FitsSigned, w32}
use Rattle.std.specs.Option.{option_copied}
use Rattle.std.specs.Ordering.{int_cmp}
use Rattle.std.proofs.lemmas.Int.{to_z-of_z}
use Rattle.window_state.specs.Fits.{IsKeptTab}
use Rattle.window_state.specs.Keys.{tab_key}
use Rattle.window_state.specs.Ranges.{IsTabInRange}
use Rattle.window_state.specs.RowLists.{find_row}
use Rattle.browser_driver.proofs.RowLaws.{of-row}
use Rattle.browser_driver.proofs.closing.entry_of.Goals as goal

pub tab_entry-requires-clause-kept : goal.tab_entry-requires-clause-kept
tab_entry-requires-clause-kept c =
    let tab = c.in-Some.tab.now in
    let of_id : FitsSigned w32 c.args.id = c.ranges.id in
    let here = simp to_z-of_z at c.get.ensures in
    let found : find_row int_cmp tab_key c.args.id c.args.state.now.tabs ≡ Some tab =
    sym (sym (ap option_copied c.in-Some.is) ∙ here
    ∙ ap (λ tabs. find_row int_cmp tab_key c.args.id tabs) c.tabs.ensures) in
    of-row IsKeptTab int_cmp tab_key c.args.id tab c.args.state.now.tabs found c.known.ensures.kept.each_tab

pub tab_entry-requires-clause-ranged : goal.tab_entry-requires-clause-ranged
tab_entry-requires-clause-ranged c =
    let tab = c.in-Some.tab.now in
    let of_id : FitsSigned w32 c.args.id = c.ranges.id in
    let here = simp to_z-of_z at c.get.ensures in
    let found : find_row int_cmp tab_key c.args.id c.args.state.now.tabs ≡ Some tab =
    sym (sym (ap option_copied c.in-Some.is) ∙ here
    ∙ ap (λ tabs. find_row int_cmp tab_key c.args.id tabs) c.tabs.ensures) in
    of-row IsTabInRange int_cmp tab_key c.args.id tab c.args.state.now.tabs found c.known.ensures.ranged.tabs
