-- What a verb that is done says of its tests: what is looked for is found, and nothing refuses it.
use Rattle.std.proofs.Common.{◌≡◌, Bool, true, false, Option, Some, None, Ok, refl}
use Rattle.browser_driver.specs.declared.fault.VerbFault.{VerbFault}
use Rattle.browser_driver.specs.Acts.{Outcome, Answer, refused_where, with_found}

pub where-found : {A : Type 0} (P : Type 0) (some : Option A) (why : VerbFault) (answer : A → Answer) (o : Outcome)
    → ((found : A) → some ≡ Some found → answer found ≡ Ok o → P) → with_found some why answer ≡ Ok o → P
where-found P None why answer o then is = absurd cc
where-found P (Some found) why answer o then is = then found refl is

pub where-allowed : (P : Type 0) (refused : Bool) (why : VerbFault) (answer : Answer) (o : Outcome)
    → (refused ≡ false → answer ≡ Ok o → P) → refused_where refused why answer ≡ Ok o → P
where-allowed P true why answer o then is = absurd cc
where-allowed P false why answer o then is = then refl is
