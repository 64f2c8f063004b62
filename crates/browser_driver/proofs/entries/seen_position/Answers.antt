use Rattle.std.proofs.Common.{◌≡◌, ◌+◌, ◌-◌, ℤ, pos, true, false, int_le, drop, get_or, is_some, refl, sym, ap, ◌∙◌}
use Rattle.std.proofs.Common.{arith, rules, FitsSigned, w32, to_z}
use Rattle.std.proofs.lemmas.Int.{to_z-of_z, to_z_pos}
use Rattle.std.proofs.lemmas.List.{drop_more, drop_all}
use Rattle.tab_pages.specs.Positions.{first_from}
use Rattle.browser_driver.specs.WindowEntries.{seen_places, seen_tab}
use Rattle.browser_driver.proofs.SeenLaws.{copied-some, position_after, position-all, passed-unseen, passed-before}
use Rattle.browser_driver.proofs.SeenLaws.{here-first}
use Rattle.browser_driver.proofs.entries.seen_position.Goals as goal
use Rattle.browser_driver.proofs.entries.seen_position.Goals.{then-is_some+else-place-selected, else-is_some}

pub loop-id-init : goal.loop-id-init
loop-id-init c = record {
  place = refl;
  before = omega arith;
  all = position-all _ (seen_places c.args.tabs.now 0 c.args.order.now);
}

pub returns-then-place-selected : goal.returns-then-place-selected
returns-then-place-selected c =
    let i = c.loop-id.id-index in
    let p = c.loop-id.place in
    let ids = c.args.order.now in
    let tabs = c.args.tabs.now in
    let e : ℤ = get_or ids i (pos 0) in
    let fits : FitsSigned w32 e = search rules in
    let least : FitsSigned w32 c.args.selected = c.ranges.selected in
    let inv = c.loop-id.invariant in
    let within = c.loop-id-test.true in
    let place = inv.place in
    let before = inv.before in
    let is_pos : to_z w32 p ≡ pos p = to_z_pos w32 p (omega (arith, c.requires)) in
    let found = simp to_z-of_z at c.seen_tab.ensures in
    let seen : is_some (seen_tab tabs e) ≡ true =
    ap is_some (sym found) ∙ copied-some c.seen_tab.result ∙ sym c.is_some.ensures ∙ c.if-is_some.true in
    let high : int_le c.args.selected (pos p) ≡ true = simp (is_pos, to_z-of_z) at c.if-place-selected.true in
    record {
      is = here-first tabs c.args.selected p i c.loop-id.before ids e (drop_more ids i (pos 0) within) seen high
          ∙ simp to_z-of_z at inv.all;
      within = omega (arith, before, within);
    }

pub loop-id-preserved : goal.loop-id-preserved
loop-id-preserved c =
    let i = c.loop-id.id-index in
    let p = c.loop-id.place in
    let ids = c.args.order.now in
    let tabs = c.args.tabs.now in
    let e : ℤ = get_or ids i (pos 0) in
    let fits : FitsSigned w32 e = search rules in
    let least : FitsSigned w32 c.args.selected = c.ranges.selected in
    let inv = c.loop-id.invariant in
    let within = c.loop-id-test.true in
    let place = inv.place in
    let before = inv.before in
    let is_pos : to_z w32 p ≡ pos p = to_z_pos w32 p (omega (arith, c.requires)) in
    let first = drop_more ids i (pos 0) within in
    let rest = seen_places tabs (p + 1) (drop (i + 1) ids) in
    let all : position_after c.loop-id.before c.args.selected (seen_places tabs p (drop i ids))
    ≡ first_from c.args.selected (seen_places tabs 0 ids) = simp to_z-of_z at inv.all in
    let found = simp to_z-of_z at c.seen_tab.ensures in
    let some : is_some (seen_tab tabs e) ≡ c.is_some.result =
    ap is_some (sym found) ∙ copied-some c.seen_tab.result ∙ sym c.is_some.ensures in
    elim c.if-is_some.branch [
      | then-is_some+else-place-selected w ↦
          let low : int_le c.args.selected (pos p) ≡ false = simp (is_pos, to_z-of_z) at w.if-place-selected.false in
          let more = w.before-is in
          record {
            place = omega (arith, place);
            before = omega (arith, before, more);
            all = simp to_z-of_z (ap (λ n. position_after n c.args.selected rest) more
                ∙ passed-before tabs c.args.selected p i c.loop-id.before ids e first (some ∙ w.if-is_some.true) low
                ∙ all);
          }
      | else-is_some w ↦
          let same = w.before-is in
          record {
            place = omega (arith, place);
            before = omega (arith, before, same);
            all = simp to_z-of_z (ap (λ n. position_after n c.args.selected rest) same
                ∙ passed-unseen tabs c.args.selected p i c.loop-id.before ids e first (some ∙ w.if-is_some.false)
                ∙ all);
          }
    ]

pub returns : goal.returns
returns c =
    let selected : FitsSigned w32 c.args.selected = c.ranges.selected in
    let inv = c.loop-id.invariant in
    let none = drop_all c.loop-id.id-index c.args.order.now c.loop-id-test.false in
    let less : c.saturating_sub.result ≡ c.loop-id.before - 1 = c.saturating_sub.ensures in
    let all : position_after c.loop-id.before c.args.selected
    (seen_places c.args.tabs.now c.loop-id.place (drop c.loop-id.id-index c.args.order.now))
    ≡ first_from c.args.selected (seen_places c.args.tabs.now 0 c.args.order.now) = simp to_z-of_z at inv.all in
    let before = inv.before in
    let end = c.loop-id.auto.id-index-end in
    record {
      is = less ∙ ap (λ us. position_after c.loop-id.before c.args.selected
          (seen_places c.args.tabs.now c.loop-id.place us)) (sym none) ∙ all;
      within = omega (arith, less, before, end);
    }
