-- A fitted navigation has a payload.
use Rattle.std.proofs.Common.{◌≡◌, ℕ, ◌+◌, ◌*◌, ◌<◌, ◌≤◌, Bool, true, false, cond, ltb, List, [], length, sym, ap, subst, ◌∙◌, arith}
use Rattle.std.proofs.lemmas.Bool.Decides.{nat_tests}
use Rattle.pickle_cells.specs.Cell.{padding}
use Rattle.pickle_cells.proofs.CellLaws.{padding_small}
use Rattle.navigation_entry.specs.Layouts.{navigation_size}
use Rattle.navigation_entry.specs.Fitting.{kept, sum_with}

kept_adds : (test : Bool) (sum : ℕ) (field : List ℕ) → length (cond test field []) + sum ≡ cond test (sum + length field) sum
kept_adds true sum field = omega arith
kept_adds false sum field = omega arith

kept_units_add : (test : Bool) (sum : ℕ) (field : List ℕ) → 2 * length (cond test field []) + sum ≡ cond test (sum + 2 * length field) sum
kept_units_add true sum field = omega arith
kept_units_add false sum field = omega arith

below : (sum size : ℕ) → sum < 64511 → sum_with sum size < 64511
below sum size lt = grind (arith, nat_tests)

total : (u t p k l m s q r rest : ℕ) → u + 0 ≡ s → t + s ≡ q → p + q ≡ r → r < 64511 → k ≤ 3 → l ≤ 3 → m ≤ 3 → rest ≤ 984 → 16 + (4 + u + k) + (4 + t + l) + (4 + p + m) + rest ≤ 65534
total u t p k l m s q r rest a b c d e f g h = omega arith

-- the fields u, t and p that stay of a URL, a title and a page state, with the sums s and q behind the first two
pub fitted_short : (url title page_state u t p : List ℕ) (s q rest : ℕ) → rest ≤ 984
    → u ≡ kept 0 (length url) url → s ≡ sum_with 0 (length url) → t ≡ kept s (2 * length title) title → q ≡ sum_with s (2 * length title) → p ≡ kept q (length page_state) page_state
    → navigation_size (length u) (2 * length t) (length p) rest ≤ 65534
fitted_short url title page_state u t p s q rest few is-u is-s is-t is-q is-p =
    let a : s < 64511 = subst (λ (x : ℕ). x < 64511) (sym is-s) (below 0 (length url) (omega arith)) in
    let b : q < 64511 = subst (λ (x : ℕ). x < 64511) (sym is-q) (below s (2 * length title) a) in
    let c = below q (length page_state) b in
    let x : length u + 0 ≡ s = ap (λ (f : List ℕ). length f + 0) is-u ∙ kept_adds (ltb (0 + length url) 64511) 0 url ∙ sym is-s in
    let y : 2 * length t + s ≡ q = ap (λ (f : List ℕ). 2 * length f + s) is-t ∙ kept_units_add (ltb (s + 2 * length title) 64511) s title ∙ sym is-q in
    let z : length p + q ≡ sum_with q (length page_state) = ap (λ (f : List ℕ). length f + q) is-p ∙ kept_adds (ltb (q + length page_state) 64511) q page_state in
    let k = padding_small (length u) in
    let l = padding_small (2 * length t) in
    let m = padding_small (length p) in
    total (length u) (2 * length t) (length p) (padding (length u)) (padding (2 * length t)) (padding (length p)) s q (sum_with q (length page_state)) rest x y z c k l m few
