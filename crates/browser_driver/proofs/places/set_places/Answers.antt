use Rattle.std.proofs.Common.{◌≡◌, ℤ, pos, drop, get_or, sym, ◌∙◌, arith, rules, FitsSigned, w32, to_z}
use Rattle.std.proofs.lemmas.Int.{to_z-of_z, to_z_pos}
use Rattle.std.proofs.lemmas.List.{drop_more, drop_all}
use Rattle.window_state.specs.declared.change.TabEdit.TheVariants.{Index}
use Rattle.browser_driver.specs.Plans.{with_edit}
use Rattle.browser_driver.proofs.PlaceLaws.{placed-more, placed-all}
use Rattle.browser_driver.proofs.places.set_places.Goals as goal

pub loop-id-preserved : goal.loop-id-preserved
loop-id-preserved c =
    let test = c.loop-id-test.true in
    let p = c.loop-id.place in
    let i = c.loop-id.id-index in
    let ids = c.args.ids.now in
    let e : ℤ = get_or ids i (pos 0) in
    let fits : FitsSigned w32 e = search rules in
    let room = c.requires in
    let place = c.loop-id.invariant.place in
    let is_pos : to_z w32 p ≡ pos p = to_z_pos w32 p (omega arith) in
    let edited : c.edit_tab.new.state ≡ with_edit e (Index (pos p)) c.loop-id.state =
    rw (is_pos, to_z-of_z w32 e fits) at c.edit_tab.ensures in
    record {
      place = omega (arith, place);
      all = placed-more p i ids e c.loop-id.state c.edit_tab.new.state (drop_more ids i (pos 0) test) edited
          ∙ c.loop-id.invariant.all;
    }

pub returns : goal.returns
returns c =
    let none = drop_all c.loop-id.id-index c.args.ids.now c.loop-id-test.false in
    sym (placed-all c.loop-id.place (drop c.loop-id.id-index c.args.ids.now) c.loop-id.state none)
    ∙ c.loop-id.invariant.all
