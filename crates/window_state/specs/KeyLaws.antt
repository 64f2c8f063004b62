-- Groups with one token are told apart by nothing else.
use Rattle.std.specs.Prelude.{◌≡◌, refl}
use Rattle.std.specs.Ordering.{nat_cmp, ordering_then}
use Rattle.std.specs.declared.cmp.Ordering.{Ordering}
use Rattle.std.specs.declared.cmp.Ordering.TheVariants.{Less, Equal, Greater}
use Rattle.std.proofs.lemmas.Map.Lookups.{exact_unsigned}
use Rattle.window_state.specs.declared.group_id.GroupId.{GroupId}
use Rattle.window_state.specs.Keys.{group_cmp}

both_equal : (a b : Ordering) → ordering_then a b ≡ Equal → (a ≡ Equal) × (b ≡ Equal)
both_equal Less b e = (e, absurd cc)
both_equal Equal b e = (refl, e)
both_equal Greater b e = (e, absurd cc)

pub same_group : (x y : GroupId) → group_cmp x y ≡ Equal → x ≡ y
same_group x y e =
    let both = both_equal (nat_cmp x.high y.high) (nat_cmp x.low y.low) e in
    let high = exact_unsigned x.high y.high both.0 in
    let low = exact_unsigned x.low y.low both.1 in
    λ i. record { high = high i; low = low i }
