use Rattle.std.proofs.Common.{◌≡◌, ℤ, pos, ◌++◌, ◌∷◌, [], map, get_or, sym, ap, ◌∙◌, rules, FitsSigned, w32, w64}
use Rattle.std.proofs.lemmas.Int.{to_z-of_z}
use Rattle.std.proofs.lemmas.List.{append-nil, drop_more, drop_all}
use Rattle.browser_driver.specs.SeatPlans.{closed_row}
use Rattle.browser_driver.specs.WindowEntries.{seen_rows}
use Rattle.browser_driver.proofs.SeenLaws.{closed-more}
use Rattle.browser_driver.proofs.entries.closed_tabs.Goals as goal

pub loop-id-preserved : goal.loop-id-preserved
loop-id-preserved c =
    let i = c.loop-id.id-index in
    let ids = c.args.order.now in
    let e : ℤ = get_or ids i (pos 0) in
    let fits : FitsSigned w32 e = search rules in
    let time : FitsSigned w64 c.args.moment = c.ranges.moment in
    let old = c.loop-id.closed.items in
    let more : c.push_closed.new.out.items
    ≡ old ++ map (closed_row c.args.groups.now c.args.moment) (seen_rows c.args.tabs.now (e ∷ [])) =
    simp to_z-of_z at c.in_ok-push_closed.ensures in
    simp to_z-of_z (closed-more c.args.groups.now c.args.moment c.args.tabs.now i ids e old c.push_closed.new.out.items
    (drop_more ids i (pos 0) c.loop-id-test.true) more ∙ simp to_z-of_z at c.loop-id.invariant)

pub returns : goal.returns
returns c =
    let ids = c.args.order.now in
    let time : FitsSigned w64 c.args.moment = c.ranges.moment in
    let old = c.loop-id.closed.items in
    let none = drop_all c.loop-id.id-index ids c.loop-id-test.false in
    sym (append-nil old)
    ∙ ap (λ us. old ++ map (closed_row c.args.groups.now c.args.moment) (seen_rows c.args.tabs.now us)) (sym none)
    ∙ simp to_z-of_z at c.loop-id.invariant
