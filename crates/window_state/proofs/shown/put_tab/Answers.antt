use Rattle.std.proofs.Common.{rules, ◌∙◌, ap, FitsSigned, w32}
use Rattle.std.specs.Map.Iter.{deref}
use Rattle.window_state.specs.Shown.{place_order, entries_of, FitsPlace}
use Rattle.window_state.proofs.ShownLaws.{all-keys, map-insert}
use Rattle.window_state.proofs.shown.put_tab.Goals as goal

pub returns-clause-entries : goal.returns-clause-entries
returns-clause-entries c = ap entries_of c.in_ok-insert.ensures.entries ∙ map-insert place_order deref c.args.place c.args.tab c.args.tabs.now.entries

pub returns-clause-fits : goal.returns-clause-fits
returns-clause-fits c =
    let index : FitsSigned w32 c.args.place.index = search rules in
    let id : FitsSigned w32 c.args.place.id = search rules in
    λ old. rw c.in_ok-insert.ensures.entries (all-keys place_order FitsPlace c.args.place c.args.tab c.args.tabs.now.entries (index, id) old)
