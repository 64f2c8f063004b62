use Rattle.std.proofs.Common.{◌≡◌, pos, arith, w32, to_z}
use Rattle.std.proofs.lemmas.Int.{to_z_pos}
use Rattle.browser_driver.proofs.BeginLaws.{page-put}
use Rattle.browser_driver.proofs.beginning.pages_of.Goals as goal

pub loop-index-preserved : goal.loop-index-preserved
loop-index-preserved c =
    let i = c.loop-index.index in
    let within = c.loop-index-test.true in
    let few = c.requires in
    let is_pos : to_z w32 i ≡ pos i = to_z_pos w32 i (omega arith) in
    let put = rw is_pos at c.in_ok-put.ensures.ok in
    page-put c.args.shown.now i c.index-shown-index.result c.in_ok-copy.field-0 c.loop-index.pages c.put.new.self
    within c.index-shown-index.is c.in_ok-copy.ensures put c.loop-index.invariant
