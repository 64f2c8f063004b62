use Rattle.std.proofs.Common.{◌≡◌, [], length, ap, ◌∙◌, arith}
use Rattle.std.specs.Map.{values_of}
use Rattle.std.specs.Map.Iter.{deref}
use Rattle.std.proofs.lemmas.List.{length-map}
use Rattle.std.proofs.lemmas.Map.Iter.{rest_all}
use Rattle.window_state.specs.Shown.{entries_in, entries_of}
use Rattle.window_state.proofs.ShownLaws.{entries-shown, length-fold}
use Rattle.window_state.proofs.shown.Shown.of.Goals as goal

pub returns-clause-tabs : goal.returns-clause-tabs
returns-clause-tabs c =
    let none = rest_all deref c.loop-tab.tab-iterator c.next.new.self c.next.result c.in-None.is c.next.ensures.steps in
    let all = rw none at c.loop-tab.invariant.tabs in
    λ window. ap (λ es. values_of (entries_in window es)) all ∙ entries-shown window c.args.tabs.now c.iter-tab-items.ensures.ordered

pub returns-clause-count : goal.returns-clause-count
returns-clause-count c =
    let none = rest_all deref c.loop-tab.tab-iterator c.next.new.self c.next.result c.in-None.is c.next.ensures.steps in
    let all = rw none at c.loop-tab.invariant.tabs in
    let same : length (entries_of c.loop-tab.shown.tabs.entries) ≡ length c.loop-tab.shown.tabs.entries = length-map c.loop-tab.shown.tabs.entries _ in
    let fewer = length-fold [] c.args.tabs.now in
    omega (arith, ap length all)
