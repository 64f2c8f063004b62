-- What a search in a list finds, from its start or from its end.
use Rattle.std.proofs.Common.{◌≡◌, Bool, true, false, List, [], ◌∷◌, ◌++◌, map, reverse, Option, Some, None, option_map, option_copied, IfSome, Contains, Bor, refl, sym, ap, ◌∙◌, subst, inl, inr, arith}
use Rattle.std.proofs.lemmas.List.{map-append, reverse-append}
use Rattle.std.proofs.lemmas.List.Elements.{Contains-append_right, Contains-push_cases}
use Rattle.std.proofs.lemmas.List.Folds.{list_all-append}
use Rattle.std.specs.List.{find, list_all}

module _ {X : Type 0} where
  -- what is found passes the test, passes what all pass, and is there
  pub found_passes : (p : X → Bool) (xs : List X) (x : X) → find p xs ≡ Some x → p x ≡ true
  found_passes p [] x e = cc
  found_passes p (y ∷ xs) x e = grind (arith, found_passes p xs x)

  pub found_passes_all : (p q : X → Bool) (xs : List X) (x : X) → list_all q xs ≡ true → find p xs ≡ Some x → q x ≡ true
  found_passes_all p q [] x a e = cc
  found_passes_all p q (y ∷ xs) x a e = grind (arith, found_passes_all p q xs x)

  pub found_contained : (p : X → Bool) (xs : List X) (x : X) → find p xs ≡ Some x → Contains xs x
  found_contained p [] x e = cc
  found_contained p (y ∷ xs) x e = first_or_later (p y) refl (found_contained p xs x)
    where
      first_or_later : (b : Bool) → p y ≡ b → (find p xs ≡ Some x → Contains xs x) → Contains (y ∷ xs) x
      first_or_later true t later =
          let same : y ≡ x = grind arith in
          (0, omega arith, same)
      first_or_later false t later =
          let rest : find p xs ≡ Some x = grind arith in
          Contains-append_right (y ∷ []) xs x (later rest)

  pub list_all-reverse : (p : X → Bool) (xs : List X) → list_all p (reverse xs) ≡ list_all p xs
  list_all-reverse p [] = refl
  list_all-reverse p (x ∷ xs) = rw (reverse-append (x ∷ []) xs, list_all-append p (reverse xs) (x ∷ []), list_all-reverse p xs) (grind arith)

  pub contained_in_reverse : (xs : List X) (x : X) → Contains (reverse xs) x → Contains xs x
  contained_in_reverse [] x h = h
  contained_in_reverse (y ∷ xs) x h =
      elim (Contains-push_cases (reverse xs) y x (subst (λ ys. Contains ys x) (reverse-append (y ∷ []) xs) h)) [
        | inl later ↦ Contains-append_right (y ∷ []) xs x (contained_in_reverse xs x later)
        | inr same ↦ (0, omega arith, same)
      ]

  -- a fact of what a reference points to, where there is one
  pub IfSome-copied : (P : X → Type 0) (found : Option (Bor X)) → ((x : X) → option_copied found ≡ Some x → P x) → IfSome found (λ r. P r.now)
  IfSome-copied P None h = tt
  IfSome-copied P (Some r) h = h r.now refl

pub map-reverse : {X Y : Type 0} (f : X → Y) (xs : List X) → map f (reverse xs) ≡ reverse (map f xs)
map-reverse f [] = refl
map-reverse f (x ∷ xs) =
    ap (map f) (reverse-append (x ∷ []) xs) ∙ map-append f (reverse xs) (x ∷ []) ∙ ap (λ ys. ys ++ f x ∷ []) (map-reverse f xs) ∙ sym (reverse-append (f x ∷ []) (map f xs))

pub find-map : {X Y : Type 0} (f : X → Y) (p : Y → Bool) (xs : List X) → find p (map f xs) ≡ option_map f (find (λ x. p (f x)) xs)
find-map f p [] = refl
find-map f p (x ∷ xs) = grind (arith, find-map f p xs)
