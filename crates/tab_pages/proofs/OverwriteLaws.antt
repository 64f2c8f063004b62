-- A page that comes after another for the same index leaves nothing of it, whatever pages there are: they need not
-- rise.
use Rattle.std.proofs.Common.{◌≡◌, ℤ, Bool, true, false, List, [], ◌∷◌, refl, ap, arith}
use Rattle.std.proofs.lemmas.Int.{ints}
use Rattle.std.specs.declared.cmp.Ordering.{Ordering}
use Rattle.std.specs.declared.cmp.Ordering.TheVariants.{Less, Equal, Greater}
use Rattle.std.specs.Ordering.{int_cmp}
use Rattle.std.specs.BTreeMap.{insert_entry}
use Rattle.navigation_entry.specs.declared.navigation.Navigation.{Navigation}
use Rattle.tab_pages.specs.PageLists.{is_natural, put_page}

-- an entry put in twice under one key
insert-over : {K X : Type 0} (cmp : K → K → Ordering) (k : K) (first second : X) (entries : List (K × X))
    → cmp k k ≡ Equal
    → insert_entry cmp (insert_entry cmp entries k first) k second ≡ insert_entry cmp entries k second
insert-over cmp k first second [] itself = rw itself refl
insert-over {K} {X} cmp k first second (e ∷ es) itself = by (insert-over cmp k first second es itself) (cmp k e.0) refl
  where
    by : insert_entry cmp (insert_entry cmp es k first) k second ≡ insert_entry cmp es k second
        → (o : Ordering) → cmp k e.0 ≡ o
        → insert_entry cmp (insert_entry cmp (e ∷ es) k first) k second ≡ insert_entry cmp (e ∷ es) k second
    by rest Less is = rw (is, itself) refl
    by rest Equal is = rw (is, is) refl
    by rest Greater is = rw (is, is) (ap (λ others. e ∷ others) rest)

pub put_page-over : (index : ℤ) (first second : Navigation) (pages : List (ℤ × Navigation))
    → put_page index second (put_page index first pages) ≡ put_page index second pages
put_page-over index first second pages = by (is_natural index) refl
  where
    by : (b : Bool) → is_natural index ≡ b
        → put_page index second (put_page index first pages) ≡ put_page index second pages
    by true natural =
        let itself : int_cmp index index ≡ Equal = grind (arith, ints) in
        rw natural (insert-over int_cmp index first second pages itself)
    by false negative = rw negative refl
