-- The numbers of pages stay in the ranges of their types when pages come and go.
use Rattle.std.proofs.Common.{◌≡◌, ◌-ℤ◌, ◌≤ℤ◌, ◌<ℤ◌, ℤ, pos, int_lt, FitsSigned, w32, Bool, true, false, not, cond, List, [], ◌∷◌, map, filter, refl, arith}
use Rattle.std.proofs.lemmas.Int.{ints}
use Rattle.std.specs.Ordering.{int_cmp}
use Rattle.std.specs.BTreeMap.{insert_entry}
use Rattle.std.specs.List.{AllByRecursion}
use Rattle.navigation_entry.specs.declared.navigation.Navigation.{Navigation}
use Rattle.tab_pages.specs.PageLists.{is_natural, is_positive, is_pruned, lowered, shifted, prune, prune_front, put_page}
use Rattle.tab_pages.specs.Ranges.{IsPageInRange}

-- an index that falls and isn't negative
pub fallen : (count index : ℤ) → pos 0 <ℤ count → pos 0 ≤ℤ (index -ℤ count) → FitsSigned w32 index → FitsSigned w32 (index -ℤ count)
fallen count index c h fits = omega (arith, ints)

module _ {X : Type 0} (P : X → Type 0) where
  pub all-filter : (test : X → Bool) (xs : List X) → AllByRecursion P xs → AllByRecursion P (filter test xs)
  all-filter test [] all = tt
  all-filter test (x ∷ xs) all =
      let rest = all-filter test xs all.1 in
      elim (test x) as (λ b. AllByRecursion P (cond b (x ∷ filter test xs) (filter test xs))) [ true ↦ (all.0, rest) | false ↦ rest ]

put-in_range : (index : ℤ) (n : Navigation) (pages : List (ℤ × Navigation)) → IsPageInRange (index, n) → AllByRecursion IsPageInRange pages → AllByRecursion IsPageInRange (insert_entry int_cmp pages index n)
put-in_range index n [] new all = (new, tt)
put-in_range index n (p ∷ ps) new all = by (put-in_range index n ps new all.1) (int_lt index p.0) refl (int_lt p.0 index) refl
  where
    by : AllByRecursion IsPageInRange (insert_entry int_cmp ps index n) → (a : Bool) → int_lt index p.0 ≡ a → (b : Bool) → int_lt p.0 index ≡ b → AllByRecursion IsPageInRange (insert_entry int_cmp (p ∷ ps) index n)
    by rest true a b l = rw a (new, all)
    by rest false a true l = rw (a, l) (all.0, rest)
    by rest false a false l = rw (a, l) ((all.0.0, new.1), all.1)

pub put_page-in_range : (index : ℤ) (n : Navigation) (pages : List (ℤ × Navigation)) → IsPageInRange (index, n) → AllByRecursion IsPageInRange pages → AllByRecursion IsPageInRange (put_page index n pages)
put_page-in_range index n pages new all = by (is_natural index) refl
  where
    by : (b : Bool) → is_natural index ≡ b → AllByRecursion IsPageInRange (put_page index n pages)
    by true e = rw e (put-in_range index n pages new all)
    by false e = rw e all

shifted-in_range : (count : ℤ) (pages : List (ℤ × Navigation)) → pos 0 <ℤ count → AllByRecursion IsPageInRange pages → AllByRecursion IsPageInRange (filter (λ page. is_natural page.0) (map (shifted count) pages))
shifted-in_range count [] c all = tt
shifted-in_range count (p ∷ ps) c all = by (shifted-in_range count ps c all.1) (is_natural (p.0 -ℤ count)) refl
  where
    by : AllByRecursion IsPageInRange (filter (λ page. is_natural page.0) (map (shifted count) ps)) → (b : Bool) → is_natural (p.0 -ℤ count) ≡ b → AllByRecursion IsPageInRange (filter (λ page. is_natural page.0) (map (shifted count) (p ∷ ps)))
    by rest true e =
        let low : pos 0 ≤ℤ (p.0 -ℤ count) = grind (arith, ints) in
        rw e ((fallen count p.0 c low all.0.0, all.0.1), rest)
    by rest false e = rw e rest

pub prune_front-in_range : (count : ℤ) (pages : List (ℤ × Navigation)) → AllByRecursion IsPageInRange pages → AllByRecursion IsPageInRange (prune_front count pages)
prune_front-in_range count pages all = by (is_positive count) refl
  where
    by : (b : Bool) → is_positive count ≡ b → AllByRecursion IsPageInRange (prune_front count pages)
    by true e = rw e (shifted-in_range count pages (grind (arith, ints)) all)
    by false e = rw e all

lowered-in_range : (first count : ℤ) (page : ℤ × Navigation) → pos 0 ≤ℤ first → pos 0 <ℤ count → is_pruned first count page.0 ≡ false → IsPageInRange page → IsPageInRange (lowered first count page)
lowered-in_range first count page f c kept fits = by (int_lt first page.0) refl
  where
    by : (b : Bool) → int_lt first page.0 ≡ b → IsPageInRange (lowered first count page)
    by true e =
        let low : pos 0 ≤ℤ (page.0 -ℤ count) = grind (arith, ints) in
        rw e (fallen count page.0 c low fits.0, fits.1)
    by false e = rw e fits

pruned-in_range : (first count : ℤ) (pages : List (ℤ × Navigation)) → pos 0 ≤ℤ first → pos 0 <ℤ count → AllByRecursion IsPageInRange pages
    → AllByRecursion IsPageInRange (map (lowered first count) (filter (λ page. not (is_pruned first count page.0)) pages))
pruned-in_range first count [] f c all = tt
pruned-in_range first count (p ∷ ps) f c all = by (pruned-in_range first count ps f c all.1) (is_pruned first count p.0) refl
  where
    by : AllByRecursion IsPageInRange (map (lowered first count) (filter (λ page. not (is_pruned first count page.0)) ps)) → (b : Bool) → is_pruned first count p.0 ≡ b
        → AllByRecursion IsPageInRange (map (lowered first count) (filter (λ page. not (is_pruned first count page.0)) (p ∷ ps)))
    by rest true e = rw e rest
    by rest false e = rw e (lowered-in_range first count p f c e all.0, rest)

pub prune-in_range : (first count : ℤ) (pages : List (ℤ × Navigation)) → AllByRecursion IsPageInRange pages → AllByRecursion IsPageInRange (prune first count pages)
prune-in_range first count pages all = by (is_natural first) refl (is_positive count) refl
  where
    by : (a : Bool) → is_natural first ≡ a → (b : Bool) → is_positive count ≡ b → AllByRecursion IsPageInRange (prune first count pages)
    by true f true c = rw (f, c) (pruned-in_range first count pages (grind (arith, ints)) (grind (arith, ints)) all)
    by true f false c = rw (f, c) all
    by false f b c = rw f all
