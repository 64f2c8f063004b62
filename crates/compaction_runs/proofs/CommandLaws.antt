-- What holds of each command of a field or of a list holds of all that a compaction joins of them.
use Rattle.std.proofs.Common.{ℤ, Bool, true, false, cond, List, [], ◌∷◌, ◌++◌, map, flat_map, Option, Some, None, IfSome}
use Rattle.std.specs.List.{AllByRecursion}
use Rattle.std.specs.Ordering.{int_eq}
use Rattle.compaction_runs.specs.FieldCommands.{given, flagged, unusual}
use Rattle.compaction_runs.specs.Runs.{Are}

all-append : {C : Type 0} (P : C → Type 0) (xs ys : List C) → AllByRecursion P xs → AllByRecursion P ys → AllByRecursion P (xs ++ ys)
all-append P [] ys all others = others
all-append P (x ∷ xs) ys all others = (all.0, all-append P xs ys all.1 others)

pub joint : {C : Type 0} {P : C → Type 0} {xs ys : List C} → Are P xs → Are P ys → Are P (xs ++ ys)
joint {C} {P} {xs} {ys} first second = record { all = all-append P xs ys first.all second.all }

module _ {C : Type 0} (P : C → Type 0) where
  pub are-one : (command : C) → P command → Are P (command ∷ [])
  are-one command is = record { all = (is, tt) }

  pub are-given : {A : Type 0} (Q : A → Type 0) (command : A → C) (o : Option A) → ((x : A) → Q x → P (command x)) → IfSome o Q → Are P (given command o)
  are-given Q command None is fits = record { all = tt }
  are-given Q command (Some x) is fits = record { all = (is x fits, tt) }

  pub are-flagged : (command : C) (flag : Bool) → P command → Are P (flagged command flag)
  are-flagged command true is = record { all = (is, tt) }
  are-flagged command false is = record { all = tt }

  pub are-unusual : (usual : ℤ) (command : ℤ → C) (z : ℤ) → P (command z) → Are P (unusual usual command z)
  are-unusual usual command z is = record { all = elim (int_eq z usual) as (λ b. AllByRecursion P (cond b [] (command z ∷ []))) [ true ↦ tt | false ↦ (is, tt) ] }

  pub are-map : {X : Type 0} (Q : X → Type 0) (command : X → C) (xs : List X) → ((x : X) → Q x → P (command x)) → AllByRecursion Q xs → Are P (map command xs)
  are-map Q command [] is fits = record { all = tt }
  are-map Q command (x ∷ xs) is fits = record { all = (is x fits.0, (are-map Q command xs is fits.1).all) }

  pub are-flat : {X : Type 0} (Q : X → Type 0) (commands : X → List C) (xs : List X) → ((x : X) → Q x → Are P (commands x)) → AllByRecursion Q xs → Are P (flat_map commands xs)
  are-flat Q commands [] is fits = record { all = tt }
  are-flat Q commands (x ∷ xs) is fits = joint (is x fits.0) (are-flat Q commands xs is fits.1)

pub weaker : {C : Type 0} (P Q : C → Type 0) → ((command : C) → P command → Q command) → (commands : List C) → Are P commands → AllByRecursion Q commands
weaker {C} P Q from commands are = each commands are.all
  where
    each : (xs : List C) → AllByRecursion P xs → AllByRecursion Q xs
    each [] all = tt
    each (x ∷ xs) all = (from x all.0, each xs all.1)

pub both : {X : Type 0} (P Q : X → Type 0) (xs : List X) → AllByRecursion P xs → AllByRecursion Q xs → AllByRecursion (λ x. P x × Q x) xs
both P Q [] first second = tt
both P Q (x ∷ xs) first second = ((first.0, second.0), both P Q xs first.1 second.1)
