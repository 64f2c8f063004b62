-- Prunings of small lists, as the definitions compute them.
use Rattle.std.proofs.Common.{◌≡◌, pos, negsuc, [], ◌∷◌, refl}
use Rattle.navigation_entry.specs.declared.navigation.Navigation.{Navigation}
use Rattle.tab_pages.specs.PageLists.{prune, prune_back, prune_front, put_page}

-- two pages in the middle go, and later ones fall
middle : (a b c d e f : Navigation) → prune (pos 2) (pos 2) ((pos 0, a) ∷ (pos 1, b) ∷ (pos 2, c) ∷ (pos 3, d) ∷ (pos 4, e) ∷ (pos 5, f) ∷ []) ≡ (pos 0, a) ∷ (pos 1, b) ∷ (pos 2, e) ∷ (pos 3, f) ∷ []
middle a b c d e f = refl

-- all indices but the greatest go at the front
front : (a b : Navigation) → prune_front (pos 2147483647) ((pos 5, a) ∷ (pos 2147483647, b) ∷ []) ≡ (pos 0, b) ∷ []
front a b = refl

-- a range that passes the greatest index, a negative index, and no count
past_end : (a b : Navigation) → prune (pos 1) (pos 2147483647) ((pos 0, a) ∷ (pos 7, b) ∷ []) ≡ (pos 0, a) ∷ []
past_end a b = refl

negative : (a : Navigation) → prune (negsuc 0) (pos 1) ((pos 0, a) ∷ []) ≡ (pos 0, a) ∷ []
negative a = refl

none : (a : Navigation) → prune (pos 0) (pos 0) ((pos 0, a) ∷ []) ≡ (pos 0, a) ∷ []
none a = refl

back : (a b : Navigation) → prune_back (negsuc 4) ((pos 0, a) ∷ (pos 7, b) ∷ []) ≡ []
back a b = refl

-- a page replaced, put between, and refused
replaced : (a b c : Navigation) → put_page (pos 3) c ((pos 0, a) ∷ (pos 3, b) ∷ []) ≡ (pos 0, a) ∷ (pos 3, c) ∷ []
replaced a b c = refl

between : (a b c : Navigation) → put_page (pos 2) c ((pos 0, a) ∷ (pos 3, b) ∷ []) ≡ (pos 0, a) ∷ (pos 2, c) ∷ (pos 3, b) ∷ []
between a b c = refl

refused : (a b : Navigation) → put_page (negsuc 0) b ((pos 0, a) ∷ []) ≡ (pos 0, a) ∷ []
refused a b = refl
