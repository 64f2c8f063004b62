-- Pages in parts, and their one list.
use Rattle.std.proofs.Common.{◌≡◌, ◌≢◌, ℕ, zero, suc, ◌+◌, ◌-◌, ◌<◌, ◌≤◌, ℤ, pos, ◌+ℤ◌, ◌≤ℤ◌, int_lt, Bool, true, false, List, [], ◌∷◌, ◌++◌, map, filter, length, take, drop, get_or, set, insert, slice_get, Some, refl, sym, ap, ◌∙◌, arith}
use Rattle.std.proofs.lemmas.Int.{ints}
use Rattle.std.proofs.lemmas.List.{append-nil, append_assoc, map-append, take_more}
use Rattle.std.proofs.lemmas.List.Elements.{filter-append}
use Rattle.std.specs.Ordering.{int_cmp}
use Rattle.std.specs.BTreeMap.{insert_entry}
use Rattle.navigation_entry.specs.declared.navigation.Navigation.{Navigation}
use Rattle.tab_pages.specs.PageLists.{IsRising, has_page}
use Rattle.tab_pages.specs.PartLists.{IsInFirst, joined, all_before, begins_by, part_of, AreLow}
use Rattle.tab_pages.proofs.PageLaws.{rising-weaken}
use Rattle.tab_pages.proofs.PartLaws.{Page}

pub joined-append : (xs ys : List (List Page)) → joined (xs ++ ys) ≡ joined xs ++ joined ys
joined-append [] ys = refl
joined-append (x ∷ xs) ys = ap (λ ps. x ++ ps) (joined-append xs ys) ∙ sym (append_assoc x (joined xs) (joined ys))

-- what is done in each part is done to the whole
pub joined-filter : (test : Page → Bool) (parts : List (List Page)) → joined (map (filter test) parts) ≡ filter test (joined parts)
joined-filter test [] = refl
joined-filter test (p ∷ ps) = ap (λ qs. filter test p ++ qs) (joined-filter test ps) ∙ sym (filter-append test p (joined ps))

pub joined-map_filter : (f : Page → Page) (test : Page → Bool) (parts : List (List Page)) → joined (map (λ part. map f (filter test part)) parts) ≡ map f (filter test (joined parts))
joined-map_filter f test [] = refl
joined-map_filter f test (p ∷ ps) =
    ap (λ qs. map f (filter test p) ++ qs) (joined-map_filter f test ps)
    ∙ sym (map-append f (filter test p) (filter test (joined ps)))
    ∙ ap (map f) (sym (filter-append test p (joined ps)))

pub joined-kept : (parts : List (List Page)) → joined (filter has_page parts) ≡ joined parts
joined-kept [] = refl
joined-kept ([] ∷ ps) = joined-kept ps
joined-kept ((q ∷ qs) ∷ ps) = ap (λ rest. (q ∷ qs) ++ rest) (joined-kept ps)

-- a page that is put in behind some pages
insert-behind : (index : ℤ) (n : Navigation) (xs ys : List Page) → all_before index xs ≡ true → insert_entry int_cmp (xs ++ ys) index n ≡ xs ++ insert_entry int_cmp ys index n
insert-behind index n [] ys h = refl
insert-behind index n (p ∷ ps) ys h = by (insert-behind index n ps ys) (int_lt p.0 index) refl
  where
    by : (all_before index ps ≡ true → insert_entry int_cmp (ps ++ ys) index n ≡ ps ++ insert_entry int_cmp ys index n) → (b : Bool) → int_lt p.0 index ≡ b → insert_entry int_cmp ((p ∷ ps) ++ ys) index n ≡ (p ∷ ps) ++ insert_entry int_cmp ys index n
    by rest true l =
        let above : int_lt index p.0 ≡ false = grind (arith, ints) in
        let h' = rw l at h in
        rw (above, l) (ap (λ qs. p ∷ qs) (rest h'))
    by rest false l = let h' = rw l at h in absurd cc

-- a page that is put in among some pages, or in the place of one of them
insert-among : (index : ℤ) (n : Navigation) (xs ys : List Page) → all_before index xs ≡ false → insert_entry int_cmp (xs ++ ys) index n ≡ insert_entry int_cmp xs index n ++ ys
insert-among index n [] ys h = absurd cc
insert-among index n (p ∷ ps) ys h = by (insert-among index n ps ys) (int_lt index p.0) refl (int_lt p.0 index) refl
  where
    by : (all_before index ps ≡ false → insert_entry int_cmp (ps ++ ys) index n ≡ insert_entry int_cmp ps index n ++ ys) → (a : Bool) → int_lt index p.0 ≡ a → (b : Bool) → int_lt p.0 index ≡ b → insert_entry int_cmp ((p ∷ ps) ++ ys) index n ≡ insert_entry int_cmp (p ∷ ps) index n ++ ys
    by rest true a b l = rw a refl
    by rest false a true l =
        let h' = rw l at h in
        rw (a, l) (ap (λ qs. p ∷ qs) (rest h'))
    by rest false a false l = rw (a, l) refl

-- a page put into the part in which it belongs
pub put-part : (index : ℤ) (n : Navigation) (d : List Page) (parts : List (List Page)) → 0 < length parts
    → joined (set parts (part_of index parts) (insert_entry int_cmp (get_or parts (part_of index parts) d) index n)) ≡ insert_entry int_cmp (joined parts) index n
put-part index n d [] h = absurd (omega arith)
put-part index n d (p ∷ []) h = append-nil (insert_entry int_cmp p index n) ∙ ap (λ ps. insert_entry int_cmp ps index n) (sym (append-nil p))
put-part index n d (p ∷ q ∷ qs) h = by (put-part index n d (q ∷ qs) (omega arith)) (all_before index p) refl
  where
    by : joined (set (q ∷ qs) (part_of index (q ∷ qs)) (insert_entry int_cmp (get_or (q ∷ qs) (part_of index (q ∷ qs)) d) index n)) ≡ insert_entry int_cmp (joined (q ∷ qs)) index n
        → (b : Bool) → all_before index p ≡ b → joined (set (p ∷ q ∷ qs) (part_of index (p ∷ q ∷ qs)) (insert_entry int_cmp (get_or (p ∷ q ∷ qs) (part_of index (p ∷ q ∷ qs)) d) index n)) ≡ insert_entry int_cmp (joined (p ∷ q ∷ qs)) index n
    by rest true e = rw e (ap (λ ps. p ++ ps) rest ∙ sym (insert-behind index n p (joined (q ∷ qs)) e))
    by rest false e = rw e (sym (insert-among index n p (joined (q ∷ qs)) e))

-- the search for that part
pub part_of-last : (index : ℤ) (parts : List (List Page)) (i : ℕ) → i < length parts → length parts ≤ i + 1 → part_of index (drop i parts) ≡ zero
part_of-last index [] i h l = absurd (omega arith)
part_of-last index (p ∷ []) zero h l = refl
part_of-last index (p ∷ q ∷ qs) zero h l = absurd (omega arith)
part_of-last index (p ∷ ps) (suc i) h l = part_of-last index ps i (omega arith) (omega arith)

-- a part that is split
pub joined-opened : (parts : List (List Page)) (i : ℕ) → i ≤ length parts → joined (insert parts i []) ≡ joined parts
joined-opened parts zero h = refl
joined-opened [] (suc i) h = absurd (omega arith)
joined-opened (p ∷ ps) (suc i) h = ap (λ qs. p ++ qs) (joined-opened ps i (omega arith))

pub joined-split : (parts : List (List Page)) (i : ℕ) (d a b : List Page) → i < length parts → get_or (insert parts (suc i) []) i d ≡ a ++ b
    → joined (set (set (insert parts (suc i) []) i a) (suc i) b) ≡ joined parts
joined-split [] i d a b h e = absurd (omega arith)
joined-split (p ∷ ps) zero d a b h e =
    let whole : p ≡ a ++ b = e in
    rw whole (sym (append_assoc a b (joined ps)))
joined-split (p ∷ ps) (suc i) d a b h e = ap (λ qs. p ++ qs) (joined-split ps i d a b (omega arith) e)

-- there are no more pages than indices
few : (least : ℤ) (pages : List Page) → least ≤ℤ pos 2147483648 → IsRising least pages → AreLow pages → (least +ℤ pos (length pages)) ≤ℤ pos 2147483648
few least [] h r low = omega (arith, ints)
few least (p ∷ ps) h r low =
    let first = r.0 in
    let bound = low.0 in
    let rest = few (p.0 +ℤ pos 1) ps (omega (arith, ints)) r.1 low.1 in
    omega (arith, ints)

rising-front : (least : ℤ) (xs ys : List Page) → IsRising least (xs ++ ys) → IsRising least xs
rising-front least [] ys r = tt
rising-front least (x ∷ xs) ys r = (r.0, rising-front (x.0 +ℤ pos 1) xs ys r.1)

pub low-append : (xs ys : List Page) → AreLow xs → AreLow ys → AreLow (xs ++ ys)
low-append [] ys a b = b
low-append (x ∷ xs) ys a b = (a.0, low-append xs ys a.1 b)

-- one more part, and the pages so far
pub joined_more : (parts : List (List Page)) (i : ℕ) (part : List Page) → i < length parts → part ≡ get_or parts i part → joined (take (i + 1) parts) ≡ joined (take i parts) ++ part
joined_more parts i part h at = ap joined (take_more parts i part h) ∙ joined-append (take i parts) (get_or parts i part ∷ []) ∙ ap (λ qs. joined (take i parts) ++ qs) (append-nil (get_or parts i part) ∙ sym at)

pub joined-split_at : (parts : List (List Page)) (i : ℕ) → joined (take i parts) ++ joined (drop i parts) ≡ joined parts
joined-split_at parts zero = refl
joined-split_at [] (suc i) = refl
joined-split_at (p ∷ ps) (suc i) = append_assoc p (joined (take i ps)) (joined (drop i ps)) ∙ ap (λ qs. p ++ qs) (joined-split_at ps i)

pub few_so_far : (parts : List (List Page)) (i : ℕ) → IsRising (pos 0) (joined parts) → AreLow (joined (take i parts)) → length (joined (take i parts)) ≤ 2147483648
few_so_far parts i r low =
    let front = rising-front (pos 0) (joined (take i parts)) (joined (drop i parts)) (rw joined-split_at r) in
    let bound = few (pos 0) (joined (take i parts)) (omega (arith, ints)) front low in
    omega (arith, ints)

-- the place of a page, in the first part or behind it
pub drop-behind : (xs ys : List Page) (i : ℕ) → length xs ≤ i → drop (i - length xs) ys ≡ drop i (xs ++ ys)
drop-behind [] ys i h = let same : i - 0 ≡ i = omega arith in rw same refl
drop-behind (x ∷ xs) ys zero h = absurd (omega arith)
drop-behind (x ∷ xs) ys (suc i) h =
    let same : suc i - length (x ∷ xs) ≡ i - length xs = omega arith in
    rw same (drop-behind xs ys i (omega arith))

pub drop-here : (xs ys : List Page) (i : ℕ) (page : Page) → i < length xs → slice_get xs i ≡ Some page → drop i (xs ++ ys) ≡ page ∷ drop (i + 1) (xs ++ ys)
drop-here [] ys i page h at = absurd (omega arith)
drop-here (x ∷ xs) ys zero page h at = let same : x ≡ page = cc in rw same refl
drop-here (x ∷ xs) ys (suc i) page h at =
    let next : suc i + 1 ≡ suc (i + 1) = omega arith in
    rw next (drop-here xs ys i page (omega arith) at)

pub drop-first : (xs : List Page) (i : ℕ) (page : Page) (rest : List Page) → drop i xs ≡ page ∷ rest → slice_get xs i ≡ Some page
drop-first [] zero page rest e = absurd cc
drop-first [] (suc i) page rest e = absurd cc
drop-first (x ∷ xs) zero page rest e = let same : x ≡ page = cc in rw same refl
drop-first (x ∷ xs) (suc i) page rest e = drop-first xs i page rest e

drop-none : (i : ℕ) → drop i (joined []) ≡ []
drop-none zero = refl
drop-none (suc i) = refl

pub drop-some : (xs : List Page) (i : ℕ) → i < length xs → drop i xs ≢ []
drop-some [] i h e = absurd (omega arith)
drop-some (x ∷ xs) zero h e = absurd cc
drop-some (x ∷ xs) (suc i) h e = drop-some xs i (omega arith) e

pub in-first : (place : ℕ) (parts : List (List Page)) (part : List Page) → IsInFirst place parts → Some part ≡ slice_get parts 0 → place < length part
in-first place [] part h at = absurd cc
in-first place (p ∷ ps) part h at = let same : part ≡ p = cc in rw same h

pub drop-next : (parts : List (List Page)) (place : ℕ) (part : List Page) (page : Page) → Some part ≡ slice_get parts 0 → place < length part → slice_get part place ≡ Some page → drop place (joined parts) ≡ page ∷ drop (place + 1) (joined parts)
drop-next [] place part page at h here = absurd cc
drop-next (p ∷ ps) place part page at h here =
    let same : part ≡ p = cc in
    let h' : place < length p = rw same at h in
    let here' : slice_get p place ≡ Some page = rw same at here in
    drop-here p (joined ps) place page h' here'

pub at-first : (whole : List Page) (place : ℕ) (parts : List (List Page)) (skip : ℕ) (part : List Page) (page : Page) → drop skip (joined parts) ≡ drop place whole → IsInFirst skip parts → place < length whole → part ≡ get_or parts 0 part → slice_get part skip ≡ Some page → slice_get whole place ≡ Some page
at-first whole place [] skip part page same within h at here =
    let none : drop skip (joined []) ≡ [] = drop-none skip in
    absurd (drop-some whole place h (sym same ∙ none))
at-first whole place (p ∷ ps) skip part page same within h at here =
    let here' : slice_get p skip ≡ Some page = ap (λ q. slice_get q skip) (sym at) ∙ here in
    drop-first whole place page (drop (skip + 1) (p ++ joined ps)) (sym same ∙ drop-here p (joined ps) skip page within here')

pub joined-push : (parts : List (List Page)) → joined (parts ++ [] ∷ []) ≡ joined parts
joined-push parts = joined-append parts ([] ∷ []) ∙ append-nil (joined parts)

-- pages that stand before others, where these begin no later than at an index
before-others : (least index : ℤ) (xs ys : List Page) → IsRising least (xs ++ ys) → ((bound : ℤ) → IsRising bound ys → bound ≤ℤ index) → (least ≤ℤ index) × (all_before index xs ≡ true)
before-others least index [] ys r reached = (reached least r, refl)
before-others least index (x ∷ xs) ys r reached =
    let low = r.0 in
    let later = before-others (x.0 +ℤ pos 1) index xs ys r.1 reached in
    let here = later.0 in
    let first : int_lt x.0 index ≡ true = grind (arith, ints) in
    (omega (arith, ints), rw (first, later.1) refl)

first-reached : (least index : ℤ) (xs ys : List Page) → begins_by index xs ≡ true → IsRising least (xs ++ ys) → least ≤ℤ index
first-reached least index [] ys b r = absurd cc
first-reached least index (x ∷ xs) ys b r = let low = r.0 in grind (arith, ints)

rising-back : (least : ℤ) (xs ys : List Page) → IsRising least (xs ++ ys) → IsRising least ys
rising-back least [] ys r = r
rising-back least (x ∷ xs) ys r =
    let low = r.0 in
    rising-weaken least (x.0 +ℤ pos 1) ys (omega (arith, ints)) (rising-back (x.0 +ℤ pos 1) xs ys r.1)

last-reached : (least index : ℤ) (parts : List (List Page)) (i : ℕ) (last : List Page) → length parts ≤ i + 1 → Some last ≡ slice_get parts i → begins_by index last ≡ true → IsRising least (joined parts) → least ≤ℤ index
last-reached least index [] i last n at b r = absurd cc
last-reached least index (p ∷ []) zero last n at b r = let same : last ≡ p = cc in first-reached least index p [] (rw same at b) r
last-reached least index (p ∷ []) (suc i) last n at b r = absurd cc
last-reached least index (p ∷ q ∷ qs) zero last n at b r = absurd (omega arith)
last-reached least index (p ∷ q ∷ qs) (suc i) last n at b r = (before-others least index p (joined (q ∷ qs)) r (λ bound k. last-reached bound index (q ∷ qs) i last (omega arith) at b k)).0

-- where the last part begins no later than at an index, the index belongs there
pub part_of-reached : (least index : ℤ) (parts : List (List Page)) (i : ℕ) (last : List Page) → length parts ≤ i + 1 → Some last ≡ slice_get parts i → begins_by index last ≡ true → IsRising least (joined parts) → part_of index parts ≡ i
part_of-reached least index [] i last n at b r = absurd cc
part_of-reached least index (p ∷ []) zero last n at b r = refl
part_of-reached least index (p ∷ []) (suc i) last n at b r = absurd cc
part_of-reached least index (p ∷ q ∷ qs) zero last n at b r = absurd (omega arith)
part_of-reached least index (p ∷ q ∷ qs) (suc i) last n at b r =
    let before = before-others least index p (joined (q ∷ qs)) r (λ bound k. last-reached bound index (q ∷ qs) i last (omega arith) at b k) in
    rw before.1 (ap suc (part_of-reached least index (q ∷ qs) i last (omega arith) at b (rising-back least p (joined (q ∷ qs)) r)))

all_before-append : (index : ℤ) (xs ys : List Page) → all_before index xs ≡ true → all_before index ys ≡ true → all_before index (xs ++ ys) ≡ true
all_before-append index [] ys a b = b
all_before-append index (x ∷ xs) ys a b = by (all_before-append index xs ys) (int_lt x.0 index) refl
  where
    by : (all_before index xs ≡ true → all_before index ys ≡ true → all_before index (xs ++ ys) ≡ true) → (c : Bool) → int_lt x.0 index ≡ c → all_before index ((x ∷ xs) ++ ys) ≡ true
    by rest true l = let a' = rw l at a in rw l (rest a' b)
    by rest false l = let a' = rw l at a in absurd cc

begins-before : (index : ℤ) (pages : List Page) → has_page pages ≡ true → all_before index pages ≡ true → begins_by index pages ≡ true
begins-before index [] h a = absurd cc
begins-before index (p ∷ ps) h a = by (int_lt p.0 index) refl
  where
    by : (c : Bool) → int_lt p.0 index ≡ c → begins_by index (p ∷ ps) ≡ true
    by true l = grind (arith, ints)
    by false l = let a' = rw l at a in absurd cc

-- where the last part has a page and ends before an index, all pages stand before it
pub all_before-last : (least index : ℤ) (parts : List (List Page)) (i : ℕ) (last : List Page) → length parts ≤ i + 1 → Some last ≡ slice_get parts i → has_page last ≡ true → all_before index last ≡ true → IsRising least (joined parts) → all_before index (joined parts) ≡ true
all_before-last least index [] i last n at h a r = refl
all_before-last least index (p ∷ []) zero last n at h a r = let same : last ≡ p = cc in rw (append-nil p) (rw same at a)
all_before-last least index (p ∷ []) (suc i) last n at h a r = absurd cc
all_before-last least index (p ∷ q ∷ qs) zero last n at h a r = absurd (omega arith)
all_before-last least index (p ∷ q ∷ qs) (suc i) last n at h a r =
    let b = begins-before index last h a in
    let before = before-others least index p (joined (q ∷ qs)) r (λ bound k. last-reached bound index (q ∷ qs) i last (omega arith) at b k) in
    all_before-append index p (joined (q ∷ qs)) before.1 (all_before-last least index (q ∷ qs) i last (omega arith) at h a (rising-back least p (joined (q ∷ qs)) r))
