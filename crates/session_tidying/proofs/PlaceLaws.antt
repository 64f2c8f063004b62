-- The page that is found for a tab's current index.
use Rattle.std.proofs.Common.{◌≡◌, ℕ, suc, ◌+◌, ◌-◌, ◌<◌, ◌≤◌, nat_lt, Bool, true, false, int_le, ℤ, List, [], ◌∷◌}
use Rattle.std.proofs.Common.{map, length, Some, slice_get, refl, ap, arith}
use Rattle.std.specs.List.{position_or_len}
use Rattle.std.proofs.lemmas.Bool.Decides.{nat_tests}
use Rattle.std.proofs.lemmas.List.{length-map}
use Rattle.navigation_entry.specs.declared.navigation.Navigation.{Navigation}
use Rattle.tab_pages.specs.Positions.{first_from}
use Rattle.browser_model.specs.Tidying.{index_from}

abbrev Pages : Type 0
Pages = List (ℤ × Navigation)

-- how many pages stand before the first one from an index on
abbrev before : ℤ → Pages → ℕ
before c pages = position_or_len (λ i. int_le c i) (map (λ (page : ℤ × Navigation). page.0) pages)

found-at : (c last : ℤ) (pages : Pages) (page : ℤ × Navigation) → before c pages < length pages
    → slice_get pages (before c pages) ≡ Some page
    → index_from c pages last ≡ page.0
found-at c last [] page within at = absurd (omega arith)
found-at c last (p ∷ ps) page within at = by (found-at c p.0 ps page) (int_le c p.0) refl
  where
    by : (before c ps < length ps → slice_get ps (before c ps) ≡ Some page → index_from c ps p.0 ≡ page.0)
        → (b : Bool) → int_le c p.0 ≡ b
        → index_from c (p ∷ ps) last ≡ page.0
    by rest true e = let here = rw e at at in let same : p ≡ page = cc in rw e (ap (λ x. x.0) same)
    by rest false e =
        let next : 1 + before c ps ≡ suc (before c ps) = omega arith in
        let later = rw (e, next) at at in
        let within' = rw e at within in
        rw e (rest (omega arith) later)

last-at : (c last : ℤ) (p : ℤ × Navigation) (ps : Pages) (page : ℤ × Navigation) → length (p ∷ ps) ≤ before c (p ∷ ps)
    → slice_get (p ∷ ps) (length ps) ≡ Some page
    → index_from c (p ∷ ps) last ≡ page.0
last-at c last p [] page none at =
    let same : p ≡ page = cc in
    by (int_le c p.0) refl (ap (λ x. x.0) same)
  where
    by : (b : Bool) → int_le c p.0 ≡ b → p.0 ≡ page.0 → index_from c (p ∷ []) last ≡ page.0
    by true e same = rw e same
    by false e same = rw e same
last-at c last p (q ∷ ps) page none at = by (λ h. last-at c p.0 q ps page h at) (int_le c p.0) refl
  where
    by : (length (q ∷ ps) ≤ before c (q ∷ ps) → index_from c (q ∷ ps) p.0 ≡ page.0) → (b : Bool) → int_le c p.0 ≡ b
        → index_from c (p ∷ q ∷ ps) last ≡ page.0
    by rest true e = let none' = rw e at none in absurd (omega arith)
    by rest false e = let none' = rw e at none in rw e (rest (omega arith))

-- the page at the position of an index, else the last one, has the index that tidying makes the current one
pub index-found : (c last : ℤ) (pages : Pages) (page : ℤ × Navigation)
    → slice_get pages (first_from c (map (λ p. p.0) pages)) ≡ Some page
    → index_from c pages last ≡ page.0
index-found c last [] page at = absurd cc
index-found c last (p ∷ ps) page at =
    by (nat_lt (before c (p ∷ ps)) (length (map (λ (q : ℤ × Navigation). q.0) (p ∷ ps)))) refl
  where
    long : length (map (λ (q : ℤ × Navigation). q.0) (p ∷ ps)) ≡ length (p ∷ ps)
    long = length-map (p ∷ ps) (λ (q : ℤ × Navigation). q.0)

    by : (b : Bool) → nat_lt (before c (p ∷ ps)) (length (map (λ (q : ℤ × Navigation). q.0) (p ∷ ps))) ≡ b
        → index_from c (p ∷ ps) last ≡ page.0
    by true e =
        let within : before c (p ∷ ps) < length (p ∷ ps) = let l = long in grind (arith, nat_tests) in
        found-at c last (p ∷ ps) page within (rw e at at)
    by false e =
        let none : length (p ∷ ps) ≤ before c (p ∷ ps) = let l = long in grind (arith, nat_tests) in
        let place : length (map (λ (q : ℤ × Navigation). q.0) (p ∷ ps)) - 1 ≡ length ps = let l = long in omega arith in
        last-at c last p ps page none (rw (e, place) at at)
