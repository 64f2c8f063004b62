use Rattle.std.proofs.Common.{◌≡◌, suc, ◌+◌, nat_lt, true, pos, if◌then◌else◌, sym, ap, ◌∙◌, arith}
use Rattle.std.proofs.Common.{FitsSigned, w32, to_z}
use Rattle.std.proofs.lemmas.Bool.Decides.{nat_tests}
use Rattle.std.proofs.lemmas.Int.{to_z-of_z, to_z_pos}
use Rattle.window_state.specs.declared.change.TabEdit.TheVariants.{PruneBack}
use Rattle.browser_driver.specs.Plans.{with_edit}
use Rattle.browser_driver.proofs.visiting.cut_behind.Goals as goal

pub returns : goal.returns
returns c =
    let s = c.args.state.now in
    let id = c.args.id in
    let place = c.args.place in
    let count = c.args.count in
    let fits : FitsSigned w32 id = c.ranges.id in
    let few = c.requires.few in
    let below = c.if-next-count.false in
    let next : place + 1 ≡ suc place = omega arith in
    let at : to_z w32 (place + 1) ≡ pos (suc place) =
    to_z_pos w32 (place + 1) (omega (arith, below, few)) ∙ ap pos next in
    let test : nat_lt (suc place) count ≡ true = grind (arith, nat_tests) in
    let edited : c.edit_tab.new.state ≡ with_edit id (PruneBack (pos (suc place))) s =
    rw (to_z-of_z w32 id fits, at) at c.edit_tab.ensures in
    edited ∙ sym (ap (λ b. if b then with_edit id (PruneBack (pos (suc place))) s else s) test)
