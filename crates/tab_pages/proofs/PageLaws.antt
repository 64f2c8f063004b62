-- What lists of pages by rising index keep, and where a page stands in them.
use Rattle.std.proofs.Common.{◌≡◌, ◌≢◌, ℕ, zero, suc, ◌<◌, ◌≤◌, ℤ, pos, ◌+ℤ◌, ◌-ℤ◌, ◌≤ℤ◌, ◌<ℤ◌, int_lt, Bool, true, false, List, [], ◌∷◌, ◌++◌, map, filter, length, take, drop, get_or, set, insert, refl, sym, ap, ◌∙◌, arith}
use Rattle.std.proofs.lemmas.Int.{ints}
use Rattle.std.proofs.lemmas.List.{length-map}
use Rattle.std.proofs.Math.Seq.{take-append_seam}
use Rattle.std.specs.Ordering.{int_cmp}
use Rattle.std.specs.BTreeMap.{insert_entry}
use Rattle.std.specs.List.Sorted.{IsPartitionPoint, IsPartitionedBy}
use Rattle.navigation_entry.specs.declared.navigation.Navigation.{Navigation}
use Rattle.tab_pages.specs.PageLists.{IsRising, is_natural, is_positive, is_pruned, place_of, prune, pruned, prune_front, put_page, shifted}

-- an index in a place, against the bound and against a later one
rising_from : (least : ℤ) (pages : List (ℤ × Navigation)) (j : ℕ) (d : ℤ × Navigation) → IsRising least pages → j < length pages → least ≤ℤ (get_or pages j d).0
rising_from least [] j d r h = absurd (omega arith)
rising_from least (p ∷ ps) zero d r h = r.0
rising_from least (p ∷ ps) (suc j) d r h =
    let later = rising_from (p.0 +ℤ pos 1) ps j d r.1 (omega arith) in
    let first = r.0 in
    omega (arith, ints)

rising_order : (least : ℤ) (pages : List (ℤ × Navigation)) (i j : ℕ) (d : ℤ × Navigation) → IsRising least pages → i ≤ j → j < length pages → (get_or pages i d).0 ≤ℤ (get_or pages j d).0
rising_order least [] i j d r o h = absurd (omega arith)
rising_order least (p ∷ ps) zero zero d r o h = omega (arith, ints)
rising_order least (p ∷ ps) zero (suc j) d r o h = let later = rising_from (p.0 +ℤ pos 1) ps j d r.1 (omega arith) in omega (arith, ints)
rising_order least (p ∷ ps) (suc i) zero d r o h = absurd (omega arith)
rising_order least (p ∷ ps) (suc i) (suc j) d r o h = rising_order (p.0 +ℤ pos 1) ps i j d r.1 (omega arith) (omega arith)

below : (a b index : ℤ) → a ≤ℤ b → int_lt b index ≡ true → int_lt a index ≡ true
below a b index h l = grind (arith, ints)

pub rising_partitioned : (least index : ℤ) (pages : List (ℤ × Navigation)) → IsRising least pages → IsPartitionedBy (λ page. int_lt page.0 index) pages
rising_partitioned least index pages r = λ i j d o h l. below (get_or pages i d).0 (get_or pages j d).0 index (rising_order least pages i j d r o h) l

-- the place that a search by halves finds
pub place_is : (index : ℤ) (pages : List (ℤ × Navigation)) (place : ℕ) → place ≤ length pages
    → IsPartitionPoint (λ page. int_lt page.0 index ≡ true) (λ page. int_lt page.0 index ≡ false) pages place → place ≡ place_of index pages
place_is index [] place within point = omega arith
place_is index (p ∷ ps) zero within point = let first : int_lt p.0 index ≡ false = point.1 0 p (omega arith) (omega arith) in rw first refl
place_is index (p ∷ ps) (suc place) within point =
    let first : int_lt p.0 index ≡ true = point.0 0 p (omega arith) (omega arith) in
    let later = place_is index ps place (omega arith) (λ k d low high. point.0 (suc k) d (omega arith) (omega arith), λ k d low high. point.1 (suc k) d (omega arith) (omega arith)) in
    rw first (ap suc later)

-- a page replaced, and a page put in
pub put-present : (index : ℤ) (n : Navigation) (pages : List (ℤ × Navigation)) (d : ℤ × Navigation) → place_of index pages < length pages → (get_or pages (place_of index pages) d).0 ≡ index
    → set pages (place_of index pages) (index, n) ≡ insert_entry int_cmp pages index n
put-present index n [] d h e = absurd (omega arith)
put-present index n (p ∷ ps) d h e = by (put-present index n ps d) (int_lt p.0 index) refl
  where
    by : (place_of index ps < length ps → (get_or ps (place_of index ps) d).0 ≡ index → set ps (place_of index ps) (index, n) ≡ insert_entry int_cmp ps index n) → (b : Bool) → int_lt p.0 index ≡ b → set (p ∷ ps) (place_of index (p ∷ ps)) (index, n) ≡ insert_entry int_cmp (p ∷ ps) index n
    by rest true l =
        let above : int_lt index p.0 ≡ false = grind (arith, ints) in
        let h' = rw l at h in
        let e' = rw l at e in
        rw (above, l) (ap (λ qs. p ∷ qs) (rest (omega arith) e'))
    by rest false l =
        let e' : p.0 ≡ index = rw l at e in
        let above : int_lt index p.0 ≡ false = grind (arith, ints) in
        rw (above, l, e') refl

pub put-absent : (index : ℤ) (n : Navigation) (pages : List (ℤ × Navigation)) (d : ℤ × Navigation) → (place_of index pages < length pages → (get_or pages (place_of index pages) d).0 ≢ index)
    → insert pages (place_of index pages) (index, n) ≡ insert_entry int_cmp pages index n
put-absent index n [] d h = refl
put-absent index n (p ∷ ps) d h = by (put-absent index n ps d) (int_lt p.0 index) refl
  where
    by : ((place_of index ps < length ps → (get_or ps (place_of index ps) d).0 ≢ index) → insert ps (place_of index ps) (index, n) ≡ insert_entry int_cmp ps index n) → (b : Bool) → int_lt p.0 index ≡ b → insert (p ∷ ps) (place_of index (p ∷ ps)) (index, n) ≡ insert_entry int_cmp (p ∷ ps) index n
    by rest true l =
        let above : int_lt index p.0 ≡ false = grind (arith, ints) in
        let h' = rw l at h in
        rw (above, l) (ap (λ qs. p ∷ qs) (rest (λ k e. h' (omega arith) e)))
    by rest false l =
        let h' = rw l at h in
        let apart : p.0 ≢ index = h' (omega arith) in
        let above : int_lt index p.0 ≡ true = grind (arith, ints) in
        rw (above, l) refl

-- indices rise still
pub rising-weaken : (low high : ℤ) (pages : List (ℤ × Navigation)) → low ≤ℤ high → IsRising high pages → IsRising low pages
rising-weaken low high [] h r = tt
rising-weaken low high (p ∷ ps) h r = let first = r.0 in (omega (arith, ints), r.1)

pub rising-put : (least index : ℤ) (n : Navigation) (pages : List (ℤ × Navigation)) → least ≤ℤ index → IsRising least pages → IsRising least (insert_entry int_cmp pages index n)
rising-put least index n [] h r = (h, tt)
rising-put least index n (p ∷ ps) h r = by (λ k. rising-put (p.0 +ℤ pos 1) index n ps k r.1) (int_lt index p.0) refl (int_lt p.0 index) refl
  where
    by : ((p.0 +ℤ pos 1) ≤ℤ index → IsRising (p.0 +ℤ pos 1) (insert_entry int_cmp ps index n)) → (a : Bool) → int_lt index p.0 ≡ a → (b : Bool) → int_lt p.0 index ≡ b → IsRising least (insert_entry int_cmp (p ∷ ps) index n)
    by rest true a b l = rw a (h, (grind (arith, ints), r.1))
    by rest false a true l = rw (a, l) (r.0, rest (grind (arith, ints)))
    by rest false a false l = rw (a, l) r

pub rising-filter : (test : ℤ × Navigation → Bool) (least : ℤ) (pages : List (ℤ × Navigation)) → IsRising least pages → IsRising least (filter test pages)
rising-filter test least [] r = tt
rising-filter test least (p ∷ ps) r = by (rising-filter test (p.0 +ℤ pos 1) ps r.1) (test p) refl
  where
    by : IsRising (p.0 +ℤ pos 1) (filter test ps) → (b : Bool) → test p ≡ b → IsRising least (filter test (p ∷ ps))
    by rest true e = rw e (r.0, rest)
    by rest false e = let first = r.0 in rw e (rising-weaken least (p.0 +ℤ pos 1) (filter test ps) (omega (arith, ints)) rest)

-- behind the range all indices fall
rising-behind : (first count least : ℤ) (pages : List (ℤ × Navigation)) → pos 0 <ℤ count → (first +ℤ count) ≤ℤ least → IsRising least pages → IsRising (least -ℤ count) (pruned first count pages)
rising-behind first count least [] c h r = tt
rising-behind first count least (p ∷ ps) c h r =
    let low = r.0 in
    let kept : is_pruned first count p.0 ≡ false = grind (arith, ints) in
    let later : int_lt first p.0 ≡ true = grind (arith, ints) in
    let rest = rising-behind first count (p.0 +ℤ pos 1) ps c (omega (arith, ints)) r.1 in
    rw (kept, later) (omega (arith, ints), rising-weaken _ _ (pruned first count ps) (omega (arith, ints)) rest)

pub rising-pruned : (first count low least : ℤ) (pages : List (ℤ × Navigation)) → pos 0 <ℤ count → low ≤ℤ first → low ≤ℤ least → IsRising least pages → IsRising low (pruned first count pages)
rising-pruned first count low least [] c f h r = tt
rising-pruned first count low least (p ∷ ps) c f h r = by (λ bound below_first low_bound. rising-pruned first count bound (p.0 +ℤ pos 1) ps c below_first low_bound r.1) (int_lt p.0 first) refl (int_lt p.0 (first +ℤ count)) refl
  where
    by : ((bound : ℤ) → bound ≤ℤ first → bound ≤ℤ (p.0 +ℤ pos 1) → IsRising bound (pruned first count ps)) → (a : Bool) → int_lt p.0 first ≡ a → (b : Bool) → int_lt p.0 (first +ℤ count) ≡ b → IsRising low (pruned first count (p ∷ ps))
    by rest true a b l =
        let bound = r.0 in
        let kept : is_pruned first count p.0 ≡ false = grind (arith, ints) in
        let before : int_lt first p.0 ≡ false = grind (arith, ints) in
        rw (kept, before) (omega (arith, ints), rest (p.0 +ℤ pos 1) (grind (arith, ints)) (omega (arith, ints)))
    by rest false a true l =
        let bound = r.0 in
        let gone : is_pruned first count p.0 ≡ true = grind (arith, ints) in
        rw gone (rest low f (omega (arith, ints)))
    by rest false a false l =
        let bound = r.0 in
        let kept : is_pruned first count p.0 ≡ false = grind (arith, ints) in
        let behind : (first +ℤ count) ≤ℤ p.0 = grind (arith, ints) in
        let later : int_lt first p.0 ≡ true = grind (arith, ints) in
        let fallen = rising-behind first count (p.0 +ℤ pos 1) ps c (omega (arith, ints)) r.1 in
        rw (kept, later) (omega (arith, ints), rising-weaken _ _ (pruned first count ps) (omega (arith, ints)) fallen)

-- a pruning from 0 on is one at the front, since no index is negative
pub prune-front : (count least : ℤ) (pages : List (ℤ × Navigation)) → pos 0 <ℤ count → pos 0 ≤ℤ least → IsRising least pages → pruned (pos 0) count pages ≡ filter (λ page. is_natural page.0) (map (shifted count) pages)
prune-front count least [] c h r = refl
prune-front count least (p ∷ ps) c h r = let bound = r.0 in by (prune-front count (p.0 +ℤ pos 1) ps c (omega (arith, ints)) r.1) (int_lt p.0 count) refl
  where
    by : pruned (pos 0) count ps ≡ filter (λ page. is_natural page.0) (map (shifted count) ps) → (b : Bool) → int_lt p.0 count ≡ b → pruned (pos 0) count (p ∷ ps) ≡ filter (λ page. is_natural page.0) (map (shifted count) (p ∷ ps))
    by rest true l =
        let bound = r.0 in
        let gone : is_pruned (pos 0) count p.0 ≡ true = grind (arith, ints) in
        let negative : is_natural (p.0 -ℤ count) ≡ false = grind (arith, ints) in
        rw (gone, negative) rest
    by rest false l =
        let bound = r.0 in
        let kept : is_pruned (pos 0) count p.0 ≡ false = grind (arith, ints) in
        let natural : is_natural (p.0 -ℤ count) ≡ true = grind (arith, ints) in
        let later : int_lt (pos 0) p.0 ≡ true = grind (arith, ints) in
        rw (kept, natural, later) (ap (λ qs. shifted count p ∷ qs) rest)

-- pages of a tab rise still after each change of them
pub rising-put_page : (index : ℤ) (n : Navigation) (pages : List (ℤ × Navigation)) → IsRising (pos 0) pages → IsRising (pos 0) (put_page index n pages)
rising-put_page index n pages r = by (is_natural index) refl
  where
    by : (b : Bool) → is_natural index ≡ b → IsRising (pos 0) (put_page index n pages)
    by true e = rw e (rising-put (pos 0) index n pages (grind (arith, ints)) r)
    by false e = rw e r

pub rising-prune_front : (count : ℤ) (pages : List (ℤ × Navigation)) → IsRising (pos 0) pages → IsRising (pos 0) (prune_front count pages)
rising-prune_front count pages r = by (is_positive count) refl
  where
    by : (b : Bool) → is_positive count ≡ b → IsRising (pos 0) (prune_front count pages)
    by true e =
        let positive : pos 0 <ℤ count = grind (arith, ints) in
        rw (e, ← prune-front count (pos 0) pages positive (omega (arith, ints)) r) (rising-pruned (pos 0) count (pos 0) (pos 0) pages positive (omega (arith, ints)) (omega (arith, ints)) r)
    by false e = rw e r

pub rising-prune : (first count : ℤ) (pages : List (ℤ × Navigation)) → IsRising (pos 0) pages → IsRising (pos 0) (prune first count pages)
rising-prune first count pages r = by (is_natural first) refl (is_positive count) refl
  where
    by : (a : Bool) → is_natural first ≡ a → (b : Bool) → is_positive count ≡ b → IsRising (pos 0) (prune first count pages)
    by true f true c = rw (f, c) (rising-pruned first count (pos 0) (pos 0) pages (grind (arith, ints)) (grind (arith, ints)) (omega (arith, ints)) r)
    by true f false c = rw (f, c) r
    by false f b c = rw f r

-- what a slice that was written leaves in its vector
pub written_over : {X : Type 0} (f : X → X) (items written : List X) (len : ℕ) → len ≡ length items → written ≡ map f items → take len (written ++ drop (length written) items) ≡ map f items
written_over f items written len same w =
    let long : len ≡ length written = same ∙ sym (ap length w ∙ length-map items f) in
    rw long (take-append_seam written (drop (length written) items) ∙ w)
