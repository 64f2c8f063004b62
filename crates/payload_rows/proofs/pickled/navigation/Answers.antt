use Rattle.std.proofs.Common.{w32, rules, refl}
use Rattle.std.specs.Prelude.{FitsSigned}
use Rattle.std.proofs.lemmas.Int.{to_z-of_z}
use Rattle.payload_rows.proofs.PickledLaws.{navigation_read}
use Rattle.payload_rows.proofs.pickled.navigation.Goals as goal

pub returns : goal.returns
returns c =
    let tab : FitsSigned w32 c.in-Ok.parts.tab = search rules in
    let index : FitsSigned w32 c.in-Ok.parts.index = search rules in
    (refl, navigation_read c.args.payload.now c.in-Ok.parts c.in_ok-navigation.navigation _ _ c.in-Ok.ensures.found c.in_ok-navigation.ensures (to_z-of_z w32 c.in-Ok.parts.tab tab) (to_z-of_z w32 c.in-Ok.parts.index index))
