-- The last item of a list: the newest, where a list grows at its end.
use Rattle.std.specs.Prelude.{List, [], ◌∷◌}

-- the last item is changed, where there is one
abbrev pub on_last : {X : Type 0} → (X → X) → List X → List X
on_last change [] = []
on_last change (x ∷ []) = change x ∷ []
on_last change (x ∷ y ∷ ys) = x ∷ on_last change (y ∷ ys)

-- there is a last item, and this holds of it
abbrev pub HoldsOfLast : {X : Type 0} → (X → Type 0) → List X → Type 0
HoldsOfLast P [] = ⊥
HoldsOfLast P (x ∷ []) = P x
HoldsOfLast P (x ∷ y ∷ ys) = HoldsOfLast P (y ∷ ys)
