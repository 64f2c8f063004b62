-- How many pages stand before an index, in one list and in parts.
use Rattle.std.proofs.Common.{◌≡◌, ℕ, suc, ◌+◌, ◌≤◌, ◌-◌, ◌<◌, ℤ, pos, ◌+ℤ◌, ◌-ℤ◌, ◌≤ℤ◌, int_le, int_lt, nat_lt, Bool, true, false, List, [], ◌∷◌, ◌++◌, map, length, take, drop, refl, ap, ◌∙◌, arith}
use Rattle.std.proofs.lemmas.Int.{ints}
use Rattle.std.proofs.lemmas.List.{length-append}
use Rattle.std.proofs.lemmas.List.Elements.{filter-append}
use Rattle.std.specs.List.{position_or_len}
use Rattle.tab_pages.specs.PageLists.{IsRising, place_of, prune_back, shifted}
use Rattle.tab_pages.specs.PartLists.{joined}
use Rattle.tab_pages.specs.Positions.{first_from}
use Rattle.tab_pages.proofs.PositionLaws.{first_from-map}
use Rattle.tab_pages.proofs.JoinLaws.{joined-split_at}
use Rattle.tab_pages.proofs.PartLaws.{Page}

-- no page stands before an index from which all rise
none-before : (least index : ℤ) (pages : List Page) → index ≤ℤ least → IsRising least pages → prune_back index pages ≡ []
none-before least index [] h r = refl
none-before least index (p ∷ ps) h r =
    let low = r.0 in
    let behind : int_lt p.0 index ≡ false = grind (arith, ints) in
    rw behind (none-before (p.0 +ℤ pos 1) index ps (omega (arith, ints)) r.1)

pub place_of-count : (least index : ℤ) (pages : List Page) → IsRising least pages → place_of index pages ≡ length (prune_back index pages)
place_of-count least index [] r = refl
place_of-count least index (p ∷ ps) r = by (place_of-count (p.0 +ℤ pos 1) index ps r.1) (int_lt p.0 index) refl
  where
    by : place_of index ps ≡ length (prune_back index ps) → (b : Bool) → int_lt p.0 index ≡ b → place_of index (p ∷ ps) ≡ length (prune_back index (p ∷ ps))
    by rest true l = rw l (ap suc rest)
    by rest false l =
        let none = none-before (p.0 +ℤ pos 1) index ps (grind (arith, ints)) r.1 in
        rw (l, none) refl

-- as many are before an index as stored ones are before it and what is yet to be taken off
pub count-shifted : (fall index : ℤ) (pages : List Page) → length (prune_back index (map (shifted fall) pages)) ≡ length (prune_back (index +ℤ fall) pages)
count-shifted fall index [] = refl
count-shifted fall index (p ∷ ps) = by (count-shifted fall index ps) (int_lt p.0 (index +ℤ fall)) refl
  where
    by : length (prune_back index (map (shifted fall) ps)) ≡ length (prune_back (index +ℤ fall) ps) → (b : Bool) → int_lt p.0 (index +ℤ fall) ≡ b → length (prune_back index (map (shifted fall) (p ∷ ps))) ≡ length (prune_back (index +ℤ fall) (p ∷ ps))
    by rest true l =
        let same : int_lt (p.0 -ℤ fall) index ≡ true = grind (arith, ints) in
        rw (l, same) (ap suc rest)
    by rest false l =
        let same : int_lt (p.0 -ℤ fall) index ≡ false = grind (arith, ints) in
        rw (l, same) rest

-- the first page from an index on stands behind those before it
first-from : (least index : ℤ) (pages : List Page) → IsRising least pages → position_or_len (λ page. int_le index page.0) pages ≡ length (prune_back index pages)
first-from least index [] r = refl
first-from least index (p ∷ ps) r = by (first-from (p.0 +ℤ pos 1) index ps r.1) (int_lt p.0 index) refl
  where
    by : position_or_len (λ page. int_le index page.0) ps ≡ length (prune_back index ps) → (b : Bool) → int_lt p.0 index ≡ b → position_or_len (λ page. int_le index page.0) (p ∷ ps) ≡ length (prune_back index (p ∷ ps))
    by rest true l =
        let before : int_le index p.0 ≡ false = grind (arith, ints) in
        rw (l, before) (omega (arith, rest))
    by rest false l =
        let behind : int_le index p.0 ≡ true = grind (arith, ints) in
        let none = none-before (p.0 +ℤ pos 1) index ps (grind (arith, ints)) r.1 in
        rw (l, behind, none) refl

pub first_from-within : (least index : ℤ) (pages : List Page) → IsRising least pages → length (prune_back index pages) < length pages → first_from index (map (λ page. page.0) pages) ≡ length (prune_back index pages)
first_from-within least index pages r h =
    let within : nat_lt (length (prune_back index pages)) (length pages) ≡ true = grind arith in
    first_from-map index (λ page. page.0) pages ∙ rw (first-from least index pages r, within) refl

pub first_from-last : (least index : ℤ) (pages : List Page) → IsRising least pages → length pages ≤ length (prune_back index pages) → first_from index (map (λ page. page.0) pages) ≡ length pages - 1
first_from-last least index pages r h =
    let behind : nat_lt (length (prune_back index pages)) (length pages) ≡ false = grind arith in
    first_from-map index (λ page. page.0) pages ∙ rw (first-from least index pages r, behind) refl

-- the counts of parts are summed
pub count-append : (index : ℤ) (xs ys : List Page) → length (prune_back index (xs ++ ys)) ≡ length (prune_back index xs) + length (prune_back index ys)
count-append index xs ys = ap length (filter-append (λ page. int_lt page.0 index) xs ys) ∙ length-append (prune_back index xs) (prune_back index ys)

count-within : (index : ℤ) (pages : List Page) → length (prune_back index pages) ≤ length pages
count-within index [] = omega arith
count-within index (p ∷ ps) = by (count-within index ps) (int_lt p.0 index) refl
  where
    by : length (prune_back index ps) ≤ length ps → (b : Bool) → int_lt p.0 index ≡ b → length (prune_back index (p ∷ ps)) ≤ length (p ∷ ps)
    by rest true l = rw l (omega (arith, rest))
    by rest false l = rw l (omega (arith, rest))

pub count-so_far : (index : ℤ) (parts : List (List Page)) (i : ℕ) → length (prune_back index (joined (take i parts))) ≤ length (joined parts)
count-so_far index parts i =
    let few = count-within index (joined (take i parts)) in
    let sum = length-append (joined (take i parts)) (joined (drop i parts)) in
    let whole = rw (joined-split_at parts i) at sum in
    omega (arith, few, whole)
