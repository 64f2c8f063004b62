-- The pages of one part, whose indices are lower than what is stored.
use Rattle.std.proofs.Common.{◌≡◌, ℕ, zero, suc, ◌+◌, ◌<◌, ◌≤◌, ℤ, pos, negsuc, ◌+ℤ◌, ◌-ℤ◌, ◌≤ℤ◌, ◌<ℤ◌, int_le, int_lt, Bool, true, false, not, ◌&&◌, List, [], ◌∷◌, ◌++◌, map, filter, length, take, drop, get_or, slice_get, Some, refl, sym, ap, ◌∙◌, arith, true≢false, Result, Ok, Err, OnOk, OnErr}
use Rattle.std.proofs.lemmas.Int.{ints}
use Rattle.std.proofs.lemmas.List.{take-append-drop}
use Rattle.navigation_entry.specs.declared.navigation.Navigation.{Navigation}
use Rattle.tab_pages.specs.PageLists.{IsRising, is_pruned, lowered, shifted}
use Rattle.tab_pages.specs.PartLists.{all_before, begins_by, AreLow}
use Rattle.tab_pages.proofs.PageLaws.{rising-weaken}

abbrev pub Page : Type 0
Page = ℤ × Navigation

pub rising-shifted : (count least : ℤ) (pages : List Page) → IsRising least pages → IsRising (least -ℤ count) (map (shifted count) pages)
rising-shifted count least [] r = tt
rising-shifted count least (p ∷ ps) r =
    let first = r.0 in
    let rest = rising-shifted count (p.0 +ℤ pos 1) ps r.1 in
    (omega (arith, ints), rising-weaken _ _ (map (shifted count) ps) (omega (arith, ints)) rest)

-- where all that is stored is lowered by the fall, it is the index
pub lowered-shifted : (fall least : ℤ) (pages : List Page) → pos 0 ≤ℤ least → IsRising least pages → map (lowered (negsuc 0) fall) pages ≡ map (shifted fall) pages
lowered-shifted fall least [] h r = refl
lowered-shifted fall least (p ∷ ps) h r =
    let first = r.0 in
    let later : int_lt (negsuc 0) p.0 ≡ true = grind (arith, ints) in
    rw later (ap (λ qs. shifted fall p ∷ qs) (lowered-shifted fall (p.0 +ℤ pos 1) ps (omega (arith, ints)) r.1))

pub shifted-none : (pages : List Page) → map (shifted (pos 0)) pages ≡ pages
shifted-none [] = refl
shifted-none (p ∷ ps) =
    let same : p.0 -ℤ pos 0 ≡ p.0 = omega (arith, ints) in
    rw (same, shifted-none ps) refl

-- all pages of a part fall
pub all-fall : (first count fall least : ℤ) (pages : List Page) → pos 0 ≤ℤ first → pos 0 <ℤ count → ((first +ℤ count) +ℤ fall) ≤ℤ least → IsRising least pages
    → map (shifted (fall +ℤ count)) pages ≡ map (lowered first count) (filter (λ page. not (is_pruned first count page.0)) (map (shifted fall) pages))
all-fall first count fall least [] f c h r = refl
all-fall first count fall least (p ∷ ps) f c h r =
    let low = r.0 in
    let kept : is_pruned first count (p.0 -ℤ fall) ≡ false = grind (arith, ints) in
    let later : int_lt first (p.0 -ℤ fall) ≡ true = grind (arith, ints) in
    let same : p.0 -ℤ (fall +ℤ count) ≡ (p.0 -ℤ fall) -ℤ count = omega (arith, ints) in
    rw (kept, later, same) (ap (λ qs. ((p.0 -ℤ fall) -ℤ count, p.1) ∷ qs) (all-fall first count fall (p.0 +ℤ pos 1) ps f c (omega (arith, ints)) r.1))

-- pages before an index stay
pub none-pruned : (first count : ℤ) (pages : List Page) → all_before first pages ≡ true → map (lowered first count) (filter (λ page. not (is_pruned first count page.0)) pages) ≡ pages
none-pruned first count [] h = refl
none-pruned first count (p ∷ ps) h = by (none-pruned first count ps) (int_lt p.0 first) refl
  where
    by : (all_before first ps ≡ true → map (lowered first count) (filter (λ page. not (is_pruned first count page.0)) ps) ≡ ps) → (b : Bool) → int_lt p.0 first ≡ b
        → map (lowered first count) (filter (λ page. not (is_pruned first count page.0)) (p ∷ ps)) ≡ p ∷ ps
    by rest true l =
        let h' = rw l at h in
        let kept : is_pruned first count p.0 ≡ false = grind (arith, ints) in
        let before : int_lt first p.0 ≡ false = grind (arith, ints) in
        rw (kept, before) (ap (λ qs. p ∷ qs) (rest h'))
    by rest false l = let h' = rw l at h in absurd cc

pub none-cut : (index : ℤ) (pages : List Page) → all_before index pages ≡ true → filter (λ page. int_lt page.0 index) pages ≡ pages
none-cut index [] h = refl
none-cut index (p ∷ ps) h = by (none-cut index ps) (int_lt p.0 index) refl
  where
    by : (all_before index ps ≡ true → filter (λ page. int_lt page.0 index) ps ≡ ps) → (b : Bool) → int_lt p.0 index ≡ b → filter (λ page. int_lt page.0 index) (p ∷ ps) ≡ p ∷ ps
    by rest true l = let h' = rw l at h in rw l (ap (λ qs. p ∷ qs) (rest h'))
    by rest false l = let h' = rw l at h in absurd cc

-- the last page tells whether all stand before an index
pub last-before : (least fall index : ℤ) (pages : List Page) (i : ℕ) (last : Page) → length pages ≤ i + 1 → IsRising least pages → Some last ≡ slice_get pages i → int_lt last.0 (index +ℤ fall) ≡ all_before index (map (shifted fall) pages)
last-before least fall index [] i last n r at = absurd cc
last-before least fall index (p ∷ []) zero last n r at =
    let same : last ≡ p = cc in
    rw same (by (int_lt (p.0 -ℤ fall) index) refl)
  where
    by : (b : Bool) → int_lt (p.0 -ℤ fall) index ≡ b → int_lt p.0 (index +ℤ fall) ≡ ((int_lt (p.0 -ℤ fall) index) && true)
    by true l = rw l (grind (arith, ints))
    by false l = rw l (grind (arith, ints))
last-before least fall index (p ∷ []) (suc i) last n r at = absurd cc
last-before least fall index (p ∷ q ∷ qs) zero last n r at = absurd (omega arith)
last-before least fall index (p ∷ q ∷ qs) (suc i) last n r at =
    last-before (p.0 +ℤ pos 1) fall index (q ∷ qs) i last (omega arith) r.1 at ∙ by (int_lt (p.0 -ℤ fall) index) refl (int_lt (q.0 -ℤ fall) index) refl (all_before index (map (shifted fall) qs))
  where
    by : (a : Bool) → int_lt (p.0 -ℤ fall) index ≡ a → (b : Bool) → int_lt (q.0 -ℤ fall) index ≡ b → (rest : Bool) → (int_lt (q.0 -ℤ fall) index && rest) ≡ (int_lt (p.0 -ℤ fall) index && (int_lt (q.0 -ℤ fall) index && rest))
    by true k b l rest = rw k refl
    by false k true l rest =
        let next = r.1.0 in
        let other : int_lt (p.0 -ℤ fall) index ≡ true = grind (arith, ints) in
        absurd (true≢false (sym other ∙ k))
    by false k false l rest = rw (k, l) refl

-- no index is higher than the last one
pub are_low : (least fall : ℤ) (pages : List Page) (i : ℕ) (last : Page) → length pages ≤ i + 1 → IsRising least pages → pos 0 ≤ℤ fall → last.0 ≤ℤ pos 2147483647 → Some last ≡ slice_get pages i → AreLow (map (shifted fall) pages)
are_low least fall [] i last n r f h at = tt
are_low least fall (p ∷ []) zero last n r f h at =
    let whole : last ≡ p = cc in
    let same : last.0 ≡ p.0 = ap (λ x. x.0) whole in
    (omega (arith, ints), tt)
are_low least fall (p ∷ []) (suc i) last n r f h at = absurd cc
are_low least fall (p ∷ q ∷ qs) zero last n r f h at = absurd (omega arith)
are_low least fall (p ∷ q ∷ qs) (suc i) last n r f h at =
    let rest = are_low (p.0 +ℤ pos 1) fall (q ∷ qs) i last (omega arith) r.1 f h at in
    let bound = rest.0 in
    let next = r.1.0 in
    (omega (arith, ints), rest)

-- a first page that is high enough
pub rising-raise : (least more : ℤ) (pages : List Page) (first : Page) → IsRising least pages → Some first ≡ slice_get pages 0 → more ≤ℤ first.0 → IsRising more pages
rising-raise least more [] first r at h = tt
rising-raise least more (p ∷ ps) first r at h =
    let whole : first ≡ p = cc in
    let same : first.0 ≡ p.0 = ap (λ x. x.0) whole in
    (omega (arith, ints), r.1)

pub begins-first : (fall index : ℤ) (pages : List Page) (first : Page) → Some first ≡ slice_get pages 0 → int_le (first.0 -ℤ fall) index ≡ begins_by index (map (shifted fall) pages)
begins-first fall index [] first at = absurd cc
begins-first fall index (p ∷ ps) first at = let whole : first ≡ p = cc in rw whole refl

pub rising-first : (least : ℤ) (pages : List Page) (first : Page) → IsRising least pages → Some first ≡ slice_get pages 0 → least ≤ℤ first.0
rising-first least [] first r at = absurd cc
rising-first least (p ∷ ps) first r at =
    let whole : first ≡ p = cc in
    let same : first.0 ≡ p.0 = ap (λ x. x.0) whole in
    let low = r.0 in
    omega (arith, ints)

pub rising_at : (least : ℤ) (pages : List Page) (i : ℕ) (page : Page) → i < length pages → IsRising least pages → page ≡ get_or pages i page → least ≤ℤ page.0
rising_at least [] i page h r at = absurd (omega arith)
rising_at least (p ∷ ps) zero page h r at =
    let same : page.0 ≡ p.0 = ap (λ x. x.0) at in
    let low = r.0 in
    omega (arith, ints)
rising_at least (p ∷ ps) (suc i) page h r at =
    let later = rising_at (p.0 +ℤ pos 1) ps i page (omega arith) r.1 at in
    let low = r.0 in
    omega (arith, ints)

pub shifted-get : (fall : ℤ) (pages : List Page) (i : ℕ) (page : Page) → i < length pages → page ≡ get_or pages i page → slice_get (map (shifted fall) pages) i ≡ Some (page.0 -ℤ fall, page.1)
shifted-get fall [] i page h at = absurd (omega arith)
shifted-get fall (p ∷ ps) zero page h at = rw at refl
shifted-get fall (p ∷ ps) (suc i) page h at = shifted-get fall ps i page (omega arith) at

pub rising-take : (least : ℤ) (n : ℕ) (pages : List Page) → IsRising least pages → IsRising least (take n pages)
rising-take least zero pages r = tt
rising-take least (suc n) [] r = tt
rising-take least (suc n) (p ∷ ps) r = (r.0, rising-take (p.0 +ℤ pos 1) n ps r.1)

pub rising-drop : (least : ℤ) (n : ℕ) (pages : List Page) → IsRising least pages → IsRising least (drop n pages)
rising-drop least zero pages r = r
rising-drop least (suc n) [] r = tt
rising-drop least (suc n) (p ∷ ps) r =
    let low = r.0 in
    rising-drop least n ps (rising-weaken least (p.0 +ℤ pos 1) ps (omega (arith, ints)) r.1)

pub rising-applied : (fall : ℤ) (pages : List Page) → IsRising fall pages → IsRising (pos 0) (map (shifted fall) pages)
rising-applied fall pages r =
    let none : fall -ℤ fall ≡ pos 0 = omega (arith, ints) in
    let all = rising-shifted fall fall pages r in
    rw none at all

pub split-whole : (n : ℕ) (whole seen front back : List Page) → front ≡ take n whole → back ≡ drop n whole → whole ≡ seen → seen ≡ map (shifted (pos 0)) front ++ map (shifted (pos 0)) back
split-whole n whole seen front back f b s =
    rw (shifted-none front, shifted-none back, f, b, take-append-drop n whole, s) refl

pub navigations-shifted : (fall : ℤ) (pages : List Page) → map (λ page. page.1) (map (shifted fall) pages) ≡ map (λ page. page.1) pages
navigations-shifted fall [] = refl
navigations-shifted fall (p ∷ ps) = ap (λ ns. p.1 ∷ ns) (navigations-shifted fall ps)

-- what holds after an `Ok` and after an `Err`
pub either : {T E : Type 0} (r : Result T E) (P : Type 0) → OnOk r P → OnErr r P → P
either (Ok x) P a b = a
either (Err e) P a b = b
