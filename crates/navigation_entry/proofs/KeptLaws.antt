-- What holds of a value that was read holds of it where it is kept.
use Rattle.std.proofs.Common.{◌≡◌, Bool, true, false, List, ℕ, Option, Result, Ok, Err, sym, subst}
use Rattle.std.specs.Prelude.{IfOk, IfSome}
use Rattle.pickle_cells.specs.declared.fault.PickleFault.{PickleFault}
use Rattle.navigation_entry.specs.Display.{goes_on, with_behind}

going_on : {A : Type 0} (P : A → Type 0) (reads : Bool) (left behind : List ℕ) (value : Result A PickleFault) → IfOk value P → IfSome (goes_on reads left (with_behind behind value)).0 P
going_on P false left behind value holds = tt
going_on P true left behind (Ok x) holds = holds
going_on P true left behind (Err fault) holds = tt

pub kept_holds : {A : Type 0} (P : A → Type 0) (reads : Bool) (left behind : List ℕ) (value : Result A PickleFault) (kept : Option A) → IfOk value P → kept ≡ (goes_on reads left (with_behind behind value)).0 → IfSome kept P
kept_holds {A} P reads left behind value kept holds is = subst (λ (o : Option A). IfSome o P) (sym is) (going_on P reads left behind value holds)

-- the first of two facts
pub first_of : {A : Type 0} (P Q : A → Type 0) (value : Result A PickleFault) → IfOk value (λ x. P x × Q x) → IfOk value P
first_of P Q (Ok x) holds = holds.0
first_of P Q (Err fault) holds = tt
