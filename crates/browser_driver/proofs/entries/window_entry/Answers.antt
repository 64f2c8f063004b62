use Rattle.std.proofs.Common.{◌≡◌, pos, map, Some, ap, ◌∙◌, arith, rules, FitsSigned, w32, w64, to_z}
use Rattle.std.proofs.lemmas.Int.{to_z-of_z, to_z_pos}
use Rattle.closed_entries.specs.declared.entry.Entry.TheVariants as entry
use Rattle.tab_pages.specs.Positions.{first_from}
use Rattle.browser_driver.specs.SeatPlans.{closed_row}
use Rattle.browser_driver.specs.WindowEntries.{seen_places, seen_rows, closed_rows}
use Rattle.browser_driver.proofs.SeenLaws.{window-left}
use Rattle.browser_driver.proofs.entries.window_entry.Goals as goal

pub returns : goal.returns
returns c =
    let w = c.args.window.now in
    let order = c.args.order.now in
    let places = seen_places c.args.tabs.now 0 order in
    let seen = seen_rows c.args.tabs.now order in
    let time : FitsSigned w64 c.args.moment = c.ranges.moment in
    let selected : FitsSigned w32 w.selected = search rules in
    let within = c.seen_position-selected.ensures.within in
    let is_pos : to_z w32 c.seen_position-selected.result ≡ pos c.seen_position-selected.result =
    to_z_pos w32 c.seen_position-selected.result (omega (arith, within, c.requires)) in
    let position : c.seen_position-selected.result ≡ first_from w.selected places =
    simp to_z-of_z at c.seen_position-selected.ensures.is in
    let tabs : c.in_ok-seen.seen.items ≡ map (closed_row c.args.groups.now c.args.moment) seen =
    simp to_z-of_z at c.in_ok-seen.ensures in
    let made : c.in_ok-window.window ≡ record (closed_rows c.args.groups.now c.args.moment w places seen) {
      selected = pos c.seen_position-selected.result;
      tabs = c.in_ok-seen.seen.items;
    } = simp (is_pos, to_z-of_z) at c.in_ok-window.ensures in
    ap (λ v. Some (entry.Window v)) made
    ∙ ap (λ n. Some (entry.Window (record (closed_rows c.args.groups.now c.args.moment w places seen) {
      selected = pos n;
      tabs = c.in_ok-seen.seen.items;
    }))) position
    ∙ window-left c.args.groups.now c.args.moment w places seen c.in_ok-seen.seen.items tabs
    c.in_ok-seen.seen.len c.in_ok-seen.seen.ok.0 c.if-is_empty.ensures
