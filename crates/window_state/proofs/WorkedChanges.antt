-- Changes of a tab's current index and of its values, as the definitions compute them.
use Rattle.std.proofs.Common.{◌≡◌, pos, negsuc, [], ◌∷◌, refl}
use Rattle.window_state.specs.Changes.{current_front, current_pruned, set_pair}

-- a current index in the range falls before it
middle : current_pruned (pos 2) (pos 2) (pos 3) ≡ pos 1
middle = refl

-- a current index below -1 rises to it when pages at the front go
front : current_front (pos 2147483647) (negsuc 2147483647) ≡ negsuc 0
front = refl

-- a key that is set again keeps its place
set_again : set_pair (97 ∷ []) (51 ∷ []) (set_pair (98 ∷ []) (50 ∷ []) (set_pair (97 ∷ []) (49 ∷ []) [])) ≡ (97 ∷ [], 51 ∷ []) ∷ (98 ∷ [], 50 ∷ []) ∷ []
set_again = refl
