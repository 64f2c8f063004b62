-- Pruning each gap from the front numbers the pages from 0, and the current index goes with its page.
use Rattle.std.proofs.Common.{◌≡◌, ℕ, zero, suc, ◌+◌, Bool, true, false, not, int_lt, int_le, ℤ, pos, ◌+ℤ◌, ◌-ℤ◌, ◌≤ℤ◌}
use Rattle.std.proofs.Common.{List, [], ◌∷◌, ◌++◌, map, filter, refl, sym, ap, ◌∙◌, append_assoc, arith}
use Rattle.std.specs.List.{AllByRecursion}
use Rattle.std.proofs.lemmas.Int.{ints}
use Rattle.navigation_entry.specs.declared.navigation.Navigation.{Navigation}
use Rattle.tab_pages.specs.PageLists.{IsRising, is_natural, is_positive, is_pruned, lowered, prune}
use Rattle.browser_model.specs.Browsers.{numbered}
use Rattle.browser_model.specs.Tidying.{gaps}
use Rattle.browser_model.specs.Tidied.{prune_gaps, current_gaps}

abbrev Pages : Type 0
Pages = List (ℤ × Navigation)

abbrev down : ℤ → ℤ × Navigation → ℤ × Navigation
down d p = (p.0 -ℤ d, p.1)

abbrev Below : ℤ → Pages → Type 0
Below k ps = AllByRecursion (λ p. int_lt p.0 k ≡ true) ps

-- what a pruning of a gap does
abbrev cut : ℤ → ℤ → Pages → Pages
cut k g ps = map (lowered k g) (filter (λ p. not (is_pruned k g p.0)) ps)

prune-is : (k : ℕ) (g : ℤ) (ps : Pages) → int_lt (pos 0) g ≡ true → prune (pos k) g ps ≡ cut (pos k) g ps
prune-is k g ps up = let natural : is_natural (pos k) ≡ true = grind (arith, ints) in rw (natural, up) refl

kept-below : (i k g : ℤ) → int_lt i k ≡ true → (is_pruned k g i ≡ false) × (int_lt k i ≡ false)
kept-below i k g h =
    let low : int_le k i ≡ false = grind (arith, ints) in
    (rw low refl, grind (arith, ints))

keep_done : (k g : ℤ) (done xs : Pages) → Below k done → cut k g (done ++ xs) ≡ done ++ cut k g xs
keep_done k g [] xs h = refl
keep_done k g (p ∷ ps) xs h =
    let rest = keep_done k g ps xs h.1 in
    let kept = kept-below p.0 k g h.0 in
    rw (kept.0, kept.1) (ap (λ qs. p ∷ qs) rest)

kept-above : (i k g : ℤ) → int_lt (pos 0) g ≡ true → int_lt i (k +ℤ g) ≡ false
    → (is_pruned k g i ≡ false) × (int_lt k i ≡ true)
kept-above i k g up h =
    let above : int_lt k i ≡ true = grind (arith, ints) in
    let le : int_le k i ≡ true = grind (arith, ints) in
    (rw (le, h) refl, above)

all_fall : (k g d a : ℤ) (ps : Pages) → int_lt (pos 0) g ≡ true → IsRising a ps → int_lt (a -ℤ d) (k +ℤ g) ≡ false
    → cut k g (map (down d) ps) ≡ map (down (d +ℤ g)) ps
all_fall k g d a [] up h out = refl
all_fall k g d a (p ∷ ps) up h out =
    let first = h.0 in
    let o : int_lt (p.0 -ℤ d) (k +ℤ g) ≡ false = grind (arith, ints) in
    let next : int_lt ((p.0 +ℤ pos 1) -ℤ d) (k +ℤ g) ≡ false = grind (arith, ints) in
    let kept = kept-above (p.0 -ℤ d) k g up o in
    let less : (p.0 -ℤ d) -ℤ g ≡ p.0 -ℤ (d +ℤ g) = omega (arith, ints) in
    let rest = all_fall k g d (p.0 +ℤ pos 1) ps up h.1 next in
    rw (kept.0, kept.1, less) (ap (λ qs. (p.0 -ℤ (d +ℤ g), p.1) ∷ qs) rest)

below_more : (k : ℕ) (done : Pages) (n : Navigation) → Below (pos k) done
    → Below (pos (suc k)) (done ++ (pos k, n) ∷ [])
below_more k [] n h = (grind (arith, ints), tt)
below_more k (q ∷ qs) n h = let first = h.0 in (grind (arith, ints), below_more k qs n h.1)

pub number_all : (k : ℕ) (d e : ℤ) (done ps : Pages) → e ≡ pos k +ℤ d → Below (pos k) done → IsRising e ps
    → prune_gaps (gaps k e ps) (done ++ map (down d) ps) ≡ done ++ numbered k (map (λ p. p.1) ps)
number_all k d e done [] is low h = refl
number_all k d e done (p ∷ ps) is low h =
    by (λ dd here. number_all (suc k) dd (p.0 +ℤ pos 1) (done ++ (pos k, p.1) ∷ []) ps here (below_more k done p.1 low)
    h.1) (int_lt e p.0) refl
  where
    one : (dd : ℤ) → p.0 -ℤ dd ≡ pos k → prune_gaps (gaps (suc k) (p.0 +ℤ pos 1) ps)
        ((done ++ (pos k, p.1) ∷ []) ++ map (down dd) ps) ≡ (done ++ (pos k, p.1) ∷ [])
        ++ numbered (suc k) (map (λ q. q.1) ps)
        → prune_gaps (gaps (suc k) (p.0 +ℤ pos 1) ps) (done ++ map (down dd) (p ∷ ps)) ≡ done
        ++ numbered k (map (λ q. q.1) (p ∷ ps))
    one dd here rec =
        ap (λ i. prune_gaps (gaps (suc k) (p.0 +ℤ pos 1) ps) (done ++ (i, p.1) ∷ map (down dd) ps)) here
        ∙ ap (prune_gaps (gaps (suc k) (p.0 +ℤ pos 1) ps))
        (sym (append_assoc done ((pos k, p.1) ∷ []) (map (down dd) ps)))
        ∙ rec
        ∙ append_assoc done ((pos k, p.1) ∷ []) (numbered (suc k) (map (λ q. q.1) ps))

    by : ((dd : ℤ) → p.0 +ℤ pos 1 ≡ pos (suc k) +ℤ dd
        → prune_gaps (gaps (suc k) (p.0 +ℤ pos 1) ps) ((done ++ (pos k, p.1) ∷ []) ++ map (down dd) ps)
        ≡ (done ++ (pos k, p.1) ∷ []) ++ numbered (suc k) (map (λ q. q.1) ps))
        → (b : Bool) → int_lt e p.0 ≡ b → prune_gaps (gaps k e (p ∷ ps)) (done ++ map (down d) (p ∷ ps)) ≡ done
        ++ numbered k (map (λ q. q.1) (p ∷ ps))
    by rec true gap =
        let g = p.0 -ℤ e in
        let up : int_lt (pos 0) g ≡ true = grind (arith, ints) in
        let out : int_lt (p.0 -ℤ d) (pos k +ℤ g) ≡ false = let same : p.0 -ℤ d ≡ pos k +ℤ g = omega (arith, ints, is) in
        rw same (irr (pos k +ℤ g)) in
        let rising : IsRising p.0 (p ∷ ps) = (omega (arith, ints), h.1) in
        let cut_is : prune (pos k) g (done ++ map (down d) (p ∷ ps)) ≡ done ++ map (down (d +ℤ g)) (p ∷ ps) =
        prune-is k g (done ++ map (down d) (p ∷ ps)) up ∙ keep_done (pos k) g done (map (down d) (p ∷ ps)) low
        ∙ ap (λ xs. done ++ xs) (all_fall (pos k) g d p.0 (p ∷ ps) up rising out) in
        let here : p.0 -ℤ (d +ℤ g) ≡ pos k = omega (arith, ints, is) in
        let next : p.0 +ℤ pos 1 ≡ pos (suc k) +ℤ (d +ℤ g) = omega (arith, ints, is) in
        rw gap (ap (prune_gaps (gaps (suc k) (p.0 +ℤ pos 1) ps)) cut_is ∙ one (d +ℤ g) here (rec (d +ℤ g) next))
      where
        irr : (i : ℤ) → int_lt i i ≡ false
        irr i = grind (arith, ints)
    by rec false gap =
        let first = h.0 in
        let here : p.0 -ℤ d ≡ pos k = let most : p.0 ≤ℤ e = grind (arith, ints) in omega (arith, ints, is) in
        let next : p.0 +ℤ pos 1 ≡ pos (suc k) +ℤ d = omega (arith, ints, here) in
        rw gap (one d here (rec d next))

-- the pages of a tab
pub tidy_pages : (ps : Pages) → IsRising (pos 0) ps
    → prune_gaps (gaps zero (pos 0) ps) ps ≡ numbered zero (map (λ p. p.1) ps)
tidy_pages ps h = ap (prune_gaps (gaps zero (pos 0) ps)) (sym (none_down ps))
    ∙ number_all zero (pos 0) (pos 0) [] ps (omega (arith, ints)) tt h
  where
    none_down : (qs : Pages) → map (down (pos 0)) qs ≡ qs
    none_down [] = refl
    none_down (q ∷ qs) = let same : q.0 -ℤ pos 0 ≡ q.0 = omega (arith, ints) in
        rw same (ap (λ rs. q ∷ rs) (none_down qs))

-- the current index: at the page with a number
abbrev pub IsAt : ℤ → ℤ → ℕ → Pages → Type 0
IsAt d c j [] = ⊥
IsAt d c zero (p ∷ ps) = c ≡ p.0 -ℤ d
IsAt d c (suc j) (p ∷ ps) = IsAt d c j ps

current-below : (k : ℕ) (e c : ℤ) (ps : Pages) → int_lt c (pos k) ≡ true → IsRising e ps
    → current_gaps (gaps k e ps) c ≡ c
current-below k e c [] low h = refl
current-below k e c (p ∷ ps) low h = by (current-below (suc k) (p.0 +ℤ pos 1) c ps (grind (arith, ints)) h.1)
    (int_lt e p.0) refl
  where
    by : current_gaps (gaps (suc k) (p.0 +ℤ pos 1) ps) c ≡ c → (b : Bool) → int_lt e p.0 ≡ b
        → current_gaps (gaps k e (p ∷ ps)) c ≡ c
    by rest true gap =
        let natural : is_natural (pos k) ≡ true = grind (arith, ints) in
        let up : is_positive (p.0 -ℤ e) ≡ true = grind (arith, ints) in
        let kept = kept-below c (pos k) (p.0 -ℤ e) low in
        rw (gap, natural, up, kept.0, kept.1) rest
    by rest false gap = rw gap rest

at-least : (e d c : ℤ) (j : ℕ) (ps : Pages) → IsRising e ps → IsAt d c j ps → (e -ℤ d) ≤ℤ c
at-least e d c j [] h at = absurd at
at-least e d c zero (p ∷ ps) h at = let first = h.0 in omega (arith, ints, at)
at-least e d c (suc j) (p ∷ ps) h at = let first = h.0 in let later = at-least (p.0 +ℤ pos 1) d c j ps h.1 at in
    omega (arith, ints)

at-down : (d g c : ℤ) (j : ℕ) (ps : Pages) → IsAt d c j ps → IsAt (d +ℤ g) (c -ℤ g) j ps
at-down d g c j [] at = absurd at
at-down d g c zero (p ∷ ps) at = omega (arith, ints, at)
at-down d g c (suc j) (p ∷ ps) at = at-down d g c j ps at

pub number_current : (k : ℕ) (d e c : ℤ) (j : ℕ) (ps : Pages) → e ≡ pos k +ℤ d → IsRising e ps → IsAt d c j ps
    → current_gaps (gaps k e ps) c ≡ pos (k + j)
number_current k d e c j [] is h at = absurd at
number_current k d e c zero (p ∷ ps) is h at = by (int_lt e p.0) refl
  where
    stay : (z : ℤ) → z ≡ pos k → current_gaps (gaps (suc k) (p.0 +ℤ pos 1) ps) z ≡ pos (k + zero)
    stay z z_is =
        let low : int_lt z (pos (suc k)) ≡ true = rw z_is (up k) in
        let plus : pos k ≡ pos (k + zero) = omega (arith, ints) in
        current-below (suc k) (p.0 +ℤ pos 1) z ps low h.1 ∙ z_is ∙ plus
      where
        up : (m : ℕ) → int_lt (pos m) (pos (suc m)) ≡ true
        up m = grind (arith, ints)

    by : (b : Bool) → int_lt e p.0 ≡ b → current_gaps (gaps k e (p ∷ ps)) c ≡ pos (k + zero)
    by true gap =
        let g = p.0 -ℤ e in
        let natural : is_natural (pos k) ≡ true = grind (arith, ints) in
        let up : is_positive g ≡ true = grind (arith, ints) in
        let c_is : c ≡ pos k +ℤ g = omega (arith, ints, is, at) in
        let out : int_lt c (pos k +ℤ g) ≡ false = rw c_is (irr (pos k +ℤ g)) in
        let kept = kept-above c (pos k) g up out in
        rw (gap, natural, up, kept.0, kept.1) (stay (c -ℤ g) (omega (arith, ints, c_is)))
      where
        irr : (i : ℤ) → int_lt i i ≡ false
        irr i = grind (arith, ints)
    by false gap =
        let first = h.0 in
        let most : p.0 ≤ℤ e = grind (arith, ints) in
        rw gap (stay c (omega (arith, ints, is, at)))
number_current k d e c (suc j) (p ∷ ps) is h at =
    by (λ dd cc' here a. number_current (suc k) dd (p.0 +ℤ pos 1) cc' j ps here h.1 a) (int_lt e p.0) refl
  where
    plus : pos (suc k + j) ≡ pos (k + suc j)
    plus = omega (arith, ints)

    by : ((dd z : ℤ) → p.0 +ℤ pos 1 ≡ pos (suc k) +ℤ dd → IsAt dd z j ps
        → current_gaps (gaps (suc k) (p.0 +ℤ pos 1) ps) z ≡ pos (suc k + j)) → (b : Bool) → int_lt e p.0 ≡ b
        → current_gaps (gaps k e (p ∷ ps)) c ≡ pos (k + suc j)
    by rec true gap =
        let g = p.0 -ℤ e in
        let natural : is_natural (pos k) ≡ true = grind (arith, ints) in
        let up : is_positive g ≡ true = grind (arith, ints) in
        let far = at-least (p.0 +ℤ pos 1) d c j ps h.1 at in
        let out : int_lt c (pos k +ℤ g) ≡ false = let m : (pos k +ℤ g) ≤ℤ c = omega (arith, ints, is) in
        grind (arith, ints) in
        let kept = kept-above c (pos k) g up out in
        let next : p.0 +ℤ pos 1 ≡ pos (suc k) +ℤ (d +ℤ g) = omega (arith, ints, is) in
        rw (gap, natural, up, kept.0, kept.1) (rec (d +ℤ g) (c -ℤ g) next (at-down d g c j ps at) ∙ plus)
    by rec false gap =
        let first = h.0 in
        let most : p.0 ≤ℤ e = grind (arith, ints) in
        let next : p.0 +ℤ pos 1 ≡ pos (suc k) +ℤ d = omega (arith, ints, is) in
        rw gap (rec d c next at ∙ plus)
