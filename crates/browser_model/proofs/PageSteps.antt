-- Pages that stand from 0 without a gap, and what is made of them.
use Rattle.std.proofs.Common.{◌≡◌, ℕ, zero, suc, ◌+◌, ◌-◌, ◌<◌, ◌≤◌, nat_lt, Bool, true, false, cond, ℤ, pos, negsuc}
use Rattle.std.proofs.Common.{◌-ℤ◌, int_lt, List, [], ◌∷◌, ◌++◌, map, filter, length, take, drop, refl, sym, ap, ◌∙◌}
use Rattle.std.proofs.Common.{arith}
use Rattle.std.specs.Int.{int_max}
use Rattle.std.specs.Ordering.{int_cmp}
use Rattle.std.specs.BTreeMap.{insert_entry}
use Rattle.std.proofs.lemmas.Int.{ints}
use Rattle.std.proofs.lemmas.Bool.Decides.{nat_tests}
use Rattle.navigation_entry.specs.declared.navigation.Navigation.{Navigation}
use Rattle.tab_pages.specs.PageLists.{is_natural, prune_back, prune_front, shifted, put_page}
use Rattle.window_state.specs.Changes.{current_front}
use Rattle.browser_model.specs.Browsers.{numbered, AtPage}
use Rattle.browser_model.specs.OneTab.{reached}

take-none : {X : Type 0} (k : ℕ) → take {A = X} k [] ≡ []
take-none zero = refl
take-none (suc k) = refl

drop-none : {X : Type 0} (k : ℕ) → drop {A = X} k [] ≡ []
drop-none zero = refl
drop-none (suc k) = refl

-- pages before an index
pub number-back : (n r : ℕ) (ps : List Navigation) → prune_back (pos r) (numbered n ps) ≡ numbered n (take (r - n) ps)
number-back n r [] = ap (numbered n) (sym (take-none (r - n)))
number-back n r (p ∷ ps) = by (number-back (suc n) r ps) (int_lt (pos n) (pos r)) refl
  where
    by : prune_back (pos r) (numbered (suc n) ps) ≡ numbered (suc n) (take (r - suc n) ps) → (b : Bool)
        → int_lt (pos n) (pos r) ≡ b → prune_back (pos r) (numbered n (p ∷ ps)) ≡ numbered n (take (r - n) (p ∷ ps))
    by rest true e =
        let less : n < r = grind (arith, ints) in
        let more : r - n ≡ suc (r - suc n) = omega arith in
        rw (e, more) (ap (λ qs. (pos n, p) ∷ qs) rest)
    by rest false e =
        let least : r ≤ n = grind (arith, ints) in
        let none : r - n ≡ zero = omega arith in
        let none' : r - suc n ≡ zero = omega arith in
        let rest' = rw none' at rest in
        rw (e, none) rest'

-- the next page
pub number-put : (n k : ℕ) (page : Navigation) (ps : List Navigation) → n + length ps ≡ k
    → put_page (pos k) page (numbered n ps) ≡ numbered n (ps ++ page ∷ [])
number-put n k page ps is = let natural : is_natural (pos k) ≡ true = grind (arith, ints) in rw natural (put n ps is)
  where
    put : (n : ℕ) (ps : List Navigation) → n + length ps ≡ k
        → insert_entry int_cmp (numbered n ps) (pos k) page ≡ numbered n (ps ++ page ∷ [])
    put n [] is = let e : k ≡ n = omega (arith, is) in rw e refl
    put n (p ∷ ps) is =
        let above : int_lt (pos k) (pos n) ≡ false = grind (arith, ints) in
        let below : int_lt (pos n) (pos k) ≡ true = grind (arith, ints) in
        rw (above, below) (ap (λ qs. (pos n, p) ∷ qs) (put (suc n) ps (omega (arith, is))))

-- pages from an index on, numbered anew
pub number-front : (n k : ℕ) (ps : List Navigation)
    → filter (λ page. is_natural page.0) (map (shifted (pos k)) (numbered n ps)) ≡ numbered (n - k) (drop (k - n) ps)
number-front n k [] = ap (numbered (n - k)) (sym (drop-none (k - n)))
number-front n k (p ∷ ps) = by (number-front (suc n) k ps) (int_lt (pos n) (pos k)) refl
  where
    by : filter (λ page. is_natural page.0) (map (shifted (pos k)) (numbered (suc n) ps))
        ≡ numbered (suc n - k) (drop (k - suc n) ps) → (b : Bool) → int_lt (pos n) (pos k) ≡ b
        → filter (λ page. is_natural page.0) (map (shifted (pos k)) (numbered n (p ∷ ps)))
        ≡ numbered (n - k) (drop (k - n) (p ∷ ps))
    by rest true e =
        let less : n < k = grind (arith, ints) in
        let gone : is_natural (pos n -ℤ pos k) ≡ false = grind (arith, ints) in
        let more : k - n ≡ suc (k - suc n) = omega arith in
        let z : n - k ≡ zero = omega arith in
        let z' : suc n - k ≡ zero = omega arith in
        let rest' = rw z' at rest in
        rw (gone, more, z) rest'
    by rest false e =
        let least : k ≤ n = grind (arith, ints) in
        let kept : is_natural (pos n -ℤ pos k) ≡ true = grind (arith, ints) in
        let none : k - n ≡ zero = omega arith in
        let none' : k - suc n ≡ zero = omega arith in
        let next : suc n - k ≡ suc (n - k) = omega arith in
        let place : pos n -ℤ pos k ≡ pos (n - k) = omega (arith, ints) in
        let rest' = rw (none', next) at rest in
        rw (kept, none, place) (ap (λ qs. (pos (n - k), p) ∷ qs) rest')

-- a place among pages
pub reached-within : (c : ℤ) (ps : List Navigation) → AtPage ps c → reached c ≤ length ps
reached-within c [] at = rw at (omega arith)
reached-within c (p ∷ ps) at = let less = at.2 in rw at.1 (omega (arith, less))

pub all-taken : (r : ℕ) (ps : List Navigation) → length ps ≤ r → take r ps ≡ ps
all-taken zero [] h = refl
all-taken (suc r) [] h = refl
all-taken zero (p ∷ ps) h = absurd (omega arith)
all-taken (suc r) (p ∷ ps) h = ap (λ qs. p ∷ qs) (all-taken r ps (omega arith))

-- the pages that a visit leaves before the new one
pub back-where : (r : ℕ) (ps : List Navigation)
    → cond (nat_lt r (length ps)) (prune_back (pos r) (numbered zero ps)) (numbered zero ps) ≡ numbered zero (take r ps)
back-where r ps = by (nat_lt r (length ps)) refl
  where
    by : (b : Bool) → nat_lt r (length ps) ≡ b
        → cond (nat_lt r (length ps)) (prune_back (pos r) (numbered zero ps)) (numbered zero ps)
        ≡ numbered zero (take r ps)
    by true e = let z : r - zero ≡ r = omega arith in
        rw e (number-back zero r ps ∙ ap (λ k. numbered zero (take k ps)) z)
    by false e = let most : length ps ≤ r = grind arith in rw e (ap (numbered zero) (sym (all-taken r ps most)))

pub front-where : (k : ℕ) (ps : List Navigation)
    → cond (nat_lt zero k) (prune_front (pos k) (numbered zero ps)) (numbered zero ps) ≡ numbered zero (drop k ps)
front-where zero ps = refl
front-where (suc k) ps =
    let z : zero - suc k ≡ zero = omega arith in
    let z' : suc k - zero ≡ suc k = omega arith in
    let up : nat_lt zero (suc k) ≡ true = grind (arith, nat_tests) in
    rw up (number-front zero (suc k) ps ∙ rw (z, z') refl)

pub current-where : (k r : ℕ) → k ≤ r → cond (nat_lt zero k) (current_front (pos k) (pos r)) (pos r) ≡ pos (r - k)
current-where zero r h = let z : r - zero ≡ r = omega arith in ap pos (sym z)
current-where (suc k) r h =
    let fall : pos r -ℤ pos (suc k) ≡ pos (r - suc k) = omega (arith, ints) in
    let up : nat_lt zero (suc k) ≡ true = grind (arith, nat_tests) in
    rw up (ap (λ z. int_max (negsuc zero) z) fall)
