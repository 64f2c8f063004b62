-- Elements of a list one after another, and pages put in behind those before them.
use Rattle.std.proofs.Common.{◌≡◌, ◌<◌, ℤ, pos, ◌+ℤ◌, ◌≤ℤ◌, int_lt, true, false, List, [], ◌∷◌, ◌++◌, length, refl, sym, ap, subst, arith}
use Rattle.std.specs.Ordering.{int_cmp}
use Rattle.std.specs.List.{AllByRecursion}
use Rattle.std.specs.BTreeMap.{insert_entry}
use Rattle.std.proofs.lemmas.Int.{ints}
use Rattle.navigation_entry.specs.declared.navigation.Navigation.{Navigation}
use Rattle.tab_pages.specs.PageLists.{IsRising, is_natural, put_page}

-- what holds of all holds of one of them
pub all-here : {X : Type 0} (P : X → Type 0) (done rest : List X) (x : X) → AllByRecursion P (done ++ x ∷ rest) → P x
all-here P [] rest x all = all.0
all-here P (d ∷ ds) rest x all = all-here P ds rest x all.1

pub length-here : {X : Type 0} (done rest : List X) (x : X) → length done < length (done ++ x ∷ rest)
length-here [] rest x = omega arith
length-here (d ∷ ds) rest x = let later = length-here ds rest x in omega arith

rising-here : (least index : ℤ) (n : Navigation) (done rest : List (ℤ × Navigation)) → IsRising least (done ++ (index, n) ∷ rest) → least ≤ℤ index
rising-here least index n [] rest rising = rising.0
rising-here least index n (d ∷ ds) rest rising =
    let first = rising.0 in
    let later = rising-here (d.0 +ℤ pos 1) index n ds rest rising.1 in
    omega (arith, ints)

insert-rising : (least index : ℤ) (n : Navigation) (done rest : List (ℤ × Navigation)) → IsRising least (done ++ (index, n) ∷ rest) → insert_entry int_cmp done index n ≡ done ++ (index, n) ∷ []
insert-rising least index n [] rest rising = refl
insert-rising least index n (d ∷ ds) rest rising =
    let later = rising-here (d.0 +ℤ pos 1) index n ds rest rising.1 in
    let above : int_lt index d.0 ≡ false = grind (arith, ints) in
    let below : int_lt d.0 index ≡ true = grind (arith, ints) in
    rw (above, below) (ap (λ pages. d ∷ pages) (insert-rising (d.0 +ℤ pos 1) index n ds rest rising.1))

-- pages by rising index, the next behind those before it
pub put-page-behind : (pages done rest : List (ℤ × Navigation)) (page : ℤ × Navigation) → IsRising (pos 0) pages → done ++ page ∷ rest ≡ pages → put_page page.0 page.1 done ≡ done ++ page ∷ []
put-page-behind pages done rest page rising whole =
    let rising' = subst (λ l. IsRising (pos 0) l) (sym whole) rising in
    let low = rising-here (pos 0) page.0 page.1 done rest rising' in
    let natural : is_natural page.0 ≡ true = grind (arith, ints) in
    rw natural (insert-rising (pos 0) page.0 page.1 done rest rising')
