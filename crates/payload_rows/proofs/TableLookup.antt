-- Tables of ids with their shapes, looked into.
use Rattle.std.proofs.Common.{◌≡◌, ℕ, eqb, List, [], ◌∷◌, Option, Some, None, refl, sym, subst, inl, inr}
use Rattle.std.specs.Prelude.{option_map}
use Rattle.std.specs.List.{AllByRecursion}
use Rattle.std.proofs.lemmas.Bool.{eqb-true, cases_Bool}
use Rattle.payload_rows.specs.declared.shape.Shape.{Shape as Named}
use Rattle.payload_rows.specs.PayloadLayout.{Shape}
use Rattle.payload_rows.specs.Shapes.{fields_of, shape_at}

-- what holds of each line of a table holds of what is found
pub found : (P : ℕ → Named → Type 0) (table : List (ℕ × Named)) → AllByRecursion (λ line. P line.0 line.1) table → (id : ℕ) (s : Named) → shape_at table id ≡ Some s → P id s
found P [] all id s e = absurd cc
found P (line ∷ lines) all id s e =
    elim (cases_Bool (eqb id line.0)) [
      | inl same ↦
          let is : Some line.1 ≡ Some s = rw same at e in
          let shape : line.1 ≡ s = cc in
          let own : id ≡ line.0 = eqb-true id line.0 same in
          subst (λ (x : ℕ). P x s) (sym own) (subst (λ (name : Named). P line.0 name) shape all.0)
      | inr apart ↦ found P lines all.1 id s (rw apart at e)
    ]

named_found : (name : Option Named) (s : Shape) → option_map fields_of name ≡ Some s → (x : Named) × (name ≡ Some x) × (fields_of x ≡ s)
named_found None s e = absurd cc
named_found (Some x) s e = (x, refl, cc)

-- the shape that is found under an id
pub found_shape : (table : List (ℕ × Named)) (id : ℕ) (s : Shape) → option_map fields_of (shape_at table id) ≡ Some s → (name : Named) × (shape_at table id ≡ Some name) × (fields_of name ≡ s)
found_shape table id s e = named_found (shape_at table id) s e
