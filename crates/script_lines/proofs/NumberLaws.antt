-- Signed numbers by their first byte.
use Rattle.std.proofs.Common.{◌≡◌, ◌≢◌, ℕ, ◌-◌, ◌^◌, false, eqb, List, [], ◌∷◌, refl, ap, arith}
use Rattle.std.proofs.lemmas.Bool.Decides.{nat_tests}
use Rattle.script_lines.specs.Numbers.{counted_in, minus_in, signed_of}

-- a field without a minus sign
pub signed_of-plain : (field : List ℕ) → ((digits : List ℕ) → field ≢ 45 ∷ digits) → signed_of field ≡ counted_in 0 (2 ^ 31 - 1) field
unfolding signed_of
signed_of-plain [] h = refl
signed_of-plain (b ∷ field) h =
    let ne : b ≢ 45 = λ e. h field (ap (λ c. c ∷ field) e) in
    let e : eqb b 45 ≡ false = grind (arith, nat_tests) in
    rw e refl

-- a field with one
pub signed_of-minus : (field digits : List ℕ) → field ≡ 45 ∷ digits → signed_of field ≡ minus_in 1 (2 ^ 31) digits
unfolding signed_of
signed_of-minus field digits e = ap signed_of e
