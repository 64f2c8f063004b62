-- Runs of commands, one after another, and those of the fields and lists that a compaction restates.
use Rattle.std.proofs.Common.{◌≡◌, ℤ, Bool, true, false, List, [], ◌∷◌, ◌++◌, map, flat_map, Option, Some, None, refl, sym, ap, subst, ◌∙◌, append_assoc, arith}
use Rattle.std.specs.Ordering.{int_eq}
use Rattle.std.proofs.lemmas.List.{append-nil}
use Rattle.std.proofs.lemmas.List.Concat.{flat_map_single}
use Rattle.std.proofs.lemmas.Int.{ints}
use Rattle.machine_law.specs.Kind.{Kind, fold}
use Rattle.compaction_runs.specs.FieldCommands.{given, flagged, unusual}
use Rattle.compaction_runs.specs.Runs.{Leads}

same_int : (x y : ℤ) → int_eq x y ≡ true → y ≡ x
same_int x y e = grind (arith, ints)

fold-append : {S C : Type 0} (kind : Kind S C) (s : S) (xs ys : List C) → fold kind s (xs ++ ys) ≡ fold kind (fold kind s xs) ys
fold-append kind s [] ys = refl
fold-append kind s (x ∷ xs) ys = fold-append kind (kind.step s x) xs ys

pub followed : {S C : Type 0} {kind : Kind S C} {a b c : S} {xs ys : List C} → Leads kind a xs b → Leads kind b ys c → Leads kind a (xs ++ ys) c
followed {S} {C} {kind} {a} {b} {c} {xs} {ys} first second = record { to = fold-append kind a xs ys ∙ ap (λ s. fold kind s ys) first.to ∙ second.to }

module _ {S C : Type 0} (kind : Kind S C) where
  pub leads-none : (s : S) → Leads kind s [] s
  leads-none s = record { to = refl }

  pub leads-one : (old new : S) (command : C) → kind.step old command ≡ new → Leads kind old (command ∷ []) new
  leads-one old new command is = record { to = is }

  pub leads-given : {A : Type 0} (command : A → C) (state : Option A → S) (o : Option A) → ((x : A) → o ≡ Some x → kind.step (state None) (command x) ≡ state (Some x)) → Leads kind (state None) (given command o) (state o)
  leads-given command state None steps = record { to = refl }
  leads-given command state (Some x) steps = record { to = steps x refl }

  pub leads-flagged : (command : C) (state : Bool → S) (flag : Bool) → kind.step (state false) command ≡ state true → Leads kind (state false) (flagged command flag) (state flag)
  leads-flagged command state true steps = record { to = steps }
  leads-flagged command state false steps = record { to = refl }

  pub leads-unusual : (usual : ℤ) (command : ℤ → C) (state : ℤ → S) (z : ℤ) → kind.step (state usual) (command z) ≡ state z → Leads kind (state usual) (unusual usual command z) (state z)
  leads-unusual usual command state z steps = by (int_eq z usual) refl
    where
      by : (b : Bool) → int_eq z usual ≡ b → Leads kind (state usual) (unusual usual command z) (state z)
      by true e = record { to = rw e (ap state (same_int z usual e)) }
      by false e = record { to = rw e steps }

  -- each element in its order, behind those before it
  pub leads-flat : {X : Type 0} (state : List X → S) (all : List X) (commands : X → List C) → ((done rest : List X) (x : X) → done ++ x ∷ rest ≡ all → Leads kind (state done) (commands x) (state (done ++ x ∷ [])))
      → Leads kind (state []) (flat_map commands all) (state all)
  leads-flat {X} state all commands each = behind [] all refl
    where
      behind : (done rest : List X) → done ++ rest ≡ all → Leads kind (state done) (flat_map commands rest) (state all)
      behind done [] whole = record { to = ap state (sym (append-nil done) ∙ whole) }
      behind done (x ∷ rest) whole = followed (each done rest x whole) (behind (done ++ x ∷ []) rest (append_assoc done (x ∷ []) rest ∙ whole))

  pub leads-map : {X : Type 0} (state : List X → S) (all : List X) (command : X → C) → ((done rest : List X) (x : X) → done ++ x ∷ rest ≡ all → kind.step (state done) (command x) ≡ state (done ++ x ∷ []))
      → Leads kind (state []) (map command all) (state all)
  leads-map state all command each =
      let flat = leads-flat state all (λ x. command x ∷ []) (λ done rest x whole. leads-one (state done) (state (done ++ x ∷ [])) (command x) (each done rest x whole)) in
      subst (λ commands. Leads kind (state []) commands (state all)) (flat_map_single command all) flat
