-- A page that is put among pages that stand from 0 without a gap, in place of all later ones.
use Rattle.std.proofs.Common.{◌≡◌, ℕ, zero, suc, ◌+◌, ◌-◌, ◌≤◌, nat_lt, Bool, true, false, cond, int_lt, pos, List, []}
use Rattle.std.proofs.Common.{◌∷◌, ◌++◌, length, take, drop, refl, sym, ap, ◌∙◌, arith}
use Rattle.std.specs.Ordering.{int_cmp}
use Rattle.std.specs.BTreeMap.{insert_entry}
use Rattle.std.proofs.lemmas.Bool.Decides.{nat_tests}
use Rattle.std.proofs.lemmas.Int.{ints}
use Rattle.navigation_entry.specs.declared.navigation.Navigation.{Navigation}
use Rattle.tab_pages.specs.PageLists.{is_natural, put_page, prune_back, prune_front}
use Rattle.window_state.specs.Changes.{current_front}
use Rattle.browser_model.specs.Browsers.{numbered}
use Rattle.browser_model.proofs.PageSteps.{front-where, current-where}

-- none stands before an index where all stand behind it
none-before : (n r : ℕ) (ps : List Navigation) → r ≤ n → prune_back (pos r) (numbered n ps) ≡ []
none-before n r [] h = refl
none-before n r (p ∷ ps) h =
    let out : int_lt (pos n) (pos r) ≡ false = grind (arith, ints) in
    rw out (none-before (suc n) r ps (omega arith))

module _ (page : Navigation) where
  -- later pages go behind it
  put-over : (n j k : ℕ) (ps : List Navigation) → n + j ≡ k → j ≤ length ps
      → prune_back (pos (suc k)) (insert_entry int_cmp (numbered n ps) (pos k) page)
      ≡ numbered n (take j ps ++ page ∷ [])
  put-over n zero k [] is h =
      let same : k ≡ n = omega (arith, is) in
      let kept : int_lt (pos k) (pos (suc k)) ≡ true = grind (arith, ints) in
      rw kept (ap (λ m. (pos m, page) ∷ []) same)
  put-over n (suc j) k [] is h = absurd (omega arith)
  put-over n zero k (p ∷ ps) is h =
      let same : k ≡ n = omega (arith, is) in
      let low : int_lt (pos k) (pos n) ≡ false = grind (arith, ints) in
      let high : int_lt (pos n) (pos k) ≡ false = grind (arith, ints) in
      let kept : int_lt (pos n) (pos (suc k)) ≡ true = grind (arith, ints) in
      rw (low, high, kept, none-before (suc n) (suc k) ps (omega (arith, same))) refl
  put-over n (suc j) k (p ∷ ps) is h =
      let low : int_lt (pos k) (pos n) ≡ false = grind (arith, ints) in
      let high : int_lt (pos n) (pos k) ≡ true = grind (arith, ints) in
      let kept : int_lt (pos n) (pos (suc k)) ≡ true = grind (arith, ints) in
      rw (low, high, kept) (ap (λ qs. (pos n, p) ∷ qs) (put-over (suc n) j k ps (omega (arith, is)) (omega arith)))

  -- where there are no later ones it is the last
  put-last : (n j k : ℕ) (ps : List Navigation) → n + j ≡ k → j ≤ length ps → length ps ≤ suc j
      → insert_entry int_cmp (numbered n ps) (pos k) page ≡ numbered n (take j ps ++ page ∷ [])
  put-last n zero k [] is h few = let same : k ≡ n = omega (arith, is) in ap (λ m. (pos m, page) ∷ []) same
  put-last n (suc j) k [] is h few = absurd (omega arith)
  put-last n zero k (p ∷ []) is h few =
      let same : k ≡ n = omega (arith, is) in
      let low : int_lt (pos k) (pos n) ≡ false = grind (arith, ints) in
      let high : int_lt (pos n) (pos k) ≡ false = grind (arith, ints) in
      rw (low, high) refl
  put-last n zero k (p ∷ q ∷ ps) is h few = absurd (omega arith)
  put-last n (suc j) k (p ∷ ps) is h few =
      let low : int_lt (pos k) (pos n) ≡ false = grind (arith, ints) in
      let high : int_lt (pos n) (pos k) ≡ true = grind (arith, ints) in
      rw (low, high) (ap (λ qs. (pos n, p) ∷ qs)
      (put-last (suc n) j k ps (omega (arith, is)) (omega arith) (omega arith)))

  pub cut-is : (r : ℕ) (ps : List Navigation) → r ≤ length ps
      → cond (nat_lt (suc r) (length ps)) (prune_back (pos (suc r)) (put_page (pos r) page (numbered zero ps)))
      (put_page (pos r) page (numbered zero ps))
      ≡ numbered zero (take r ps ++ page ∷ [])
  cut-is r ps within =
      let natural : is_natural (pos r) ≡ true = grind (arith, ints) in
      rw natural (by (nat_lt (suc r) (length ps)) refl)
    where
      by : (b : Bool) → nat_lt (suc r) (length ps) ≡ b
          → cond b (prune_back (pos (suc r)) (insert_entry int_cmp (numbered zero ps) (pos r) page))
          (insert_entry int_cmp (numbered zero ps) (pos r) page)
          ≡ numbered zero (take r ps ++ page ∷ [])
      by true e = put-over zero r r ps (omega arith) within
      by false e =
          let few : length ps ≤ suc r = grind (arith, nat_tests) in
          put-last zero r r ps (omega arith) within few

pub front-any : (k : ℕ) (ps : List Navigation) → prune_front (pos k) (numbered zero ps) ≡ numbered zero (drop k ps)
front-any zero ps = refl
front-any (suc k) ps =
    let up : nat_lt zero (suc k) ≡ true = grind (arith, nat_tests) in
    sym (ap (λ b. cond b (prune_front (pos (suc k)) (numbered zero ps)) (numbered zero ps)) up) ∙ front-where (suc k) ps

pub current-any : (k r : ℕ) → k ≤ r → current_front (pos k) (pos r) ≡ pos (r - k)
current-any zero r h = let z : r - zero ≡ r = omega arith in ap pos (sym z)
current-any (suc k) r h =
    let up : nat_lt zero (suc k) ≡ true = grind (arith, nat_tests) in
    sym (ap (λ b. cond b (current_front (pos (suc k)) (pos r)) (pos r)) up) ∙ current-where (suc k) r h
