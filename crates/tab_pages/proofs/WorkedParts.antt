-- Pages in parts, as the definitions compute them.
use Rattle.std.proofs.Common.{◌≡◌, pos, true, false, [], ◌∷◌, refl}
use Rattle.navigation_entry.specs.declared.navigation.Navigation.{Navigation}
use Rattle.tab_pages.specs.PartLists.{all_before, begins_by, joined, part_of}

one_behind_the_other : (a b c : Navigation) → joined (((pos 0, a) ∷ (pos 3, b) ∷ []) ∷ [] ∷ ((pos 5, c) ∷ []) ∷ []) ≡ (pos 0, a) ∷ (pos 3, b) ∷ (pos 5, c) ∷ []
one_behind_the_other a b c = refl

-- an index that stands in a part, one between two parts, one behind all, and one behind a part without pages
standing : (a b c : Navigation) → part_of (pos 3) (((pos 0, a) ∷ (pos 3, b) ∷ []) ∷ ((pos 5, c) ∷ []) ∷ []) ≡ 0
standing a b c = refl

between : (a b c : Navigation) → part_of (pos 4) (((pos 0, a) ∷ (pos 3, b) ∷ []) ∷ ((pos 5, c) ∷ []) ∷ []) ≡ 1
between a b c = refl

behind : (a b c : Navigation) → part_of (pos 9) (((pos 0, a) ∷ (pos 3, b) ∷ []) ∷ ((pos 5, c) ∷ []) ∷ []) ≡ 1
behind a b c = refl

past_empty : (a b : Navigation) → part_of (pos 2) (((pos 0, a) ∷ []) ∷ [] ∷ ((pos 5, b) ∷ []) ∷ []) ≡ 2
past_empty a b = refl

-- a part without pages ends before every index, and begins by none
ends : all_before (pos 0) [] ≡ true
ends = refl

begins : begins_by (pos 7) [] ≡ false
begins = refl

begins_at : (a b : Navigation) → begins_by (pos 7) ((pos 7, a) ∷ (pos 9, b) ∷ []) ≡ true
begins_at a b = refl
