-- Pairs that are read one after another, as a loop does.
use Rattle.std.proofs.Common.{◌≡◌, ℕ, suc, ◌-◌, ◌+◌, ◌<◌, ◌≤◌, List, [], ◌∷◌, ◌++◌, Some, None, sym, ap, ◌∙◌, append_assoc, arith}
use Rattle.std.proofs.lemmas.List.{append-nil}
use Rattle.navigation_entry.specs.declared.more.InfoPair.{InfoPair}
use Rattle.navigation_entry.specs.Display.{front, pair_at, pairs_at}

abbrev pub Pairs : Type 0
Pairs = List InfoPair × List ℕ

-- what was read before, and what is still read
abbrev pub joined : List InfoPair → Pairs → Pairs
joined before x = (before ++ x.0, x.1)

pub pairs_go_on : (before : List InfoPair) (count i : ℕ) (left : List ℕ) (pair : InfoPair) (behind : List ℕ) (all : Pairs) → i < count → front pair_at left ≡ Some (pair, behind)
    → joined before (pairs_at (count - i) left) ≡ all → joined (before ++ pair ∷ []) (pairs_at (count - (i + 1)) behind) ≡ all
unfolding pairs_at
pairs_go_on before count i left pair behind all lt found so_far =
    let k : count - i ≡ suc (count - (i + 1)) = omega arith in
    let one : joined before (pairs_at (count - i) left) ≡ joined (before ++ pair ∷ []) (pairs_at (count - (i + 1)) behind) = rw (k, found) (ap (λ (ps : List InfoPair). (ps, (pairs_at (count - (i + 1)) behind).1)) (sym (append_assoc before (pair ∷ []) (pairs_at (count - (i + 1)) behind).0))) in
    sym one ∙ so_far

pub pairs_stop : (before : List InfoPair) (count i : ℕ) (left : List ℕ) (all : Pairs) → i < count → front pair_at left ≡ None
    → joined before (pairs_at (count - i) left) ≡ all → ◌≡◌ {A = Pairs} (before, left) all
unfolding pairs_at
pairs_stop before count i left all lt none so_far =
    let k : count - i ≡ suc (count - (i + 1)) = omega arith in
    let one : ◌≡◌ {A = Pairs} (joined before (pairs_at (count - i) left)) (before, left) = rw (k, none) (ap (λ (ps : List InfoPair). (ps, left)) (append-nil before)) in
    sym one ∙ so_far

pub pairs_end : (before : List InfoPair) (count i : ℕ) (left : List ℕ) (all : Pairs) → count ≤ i → joined before (pairs_at (count - i) left) ≡ all → ◌≡◌ {A = Pairs} (before, left) all
unfolding pairs_at
pairs_end before count i left all le so_far =
    let k : count - i ≡ 0 = omega arith in
    let one : ◌≡◌ {A = Pairs} (joined before (pairs_at (count - i) left)) (before, left) = rw k (ap (λ (ps : List InfoPair). (ps, left)) (append-nil before)) in
    sym one ∙ so_far
