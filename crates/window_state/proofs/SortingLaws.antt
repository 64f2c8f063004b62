-- Tabs sorted by place: the sorted list is the only list in order with the same tabs.
use Rattle.std.proofs.Common.{◌≡◌, Bool, true, false, cond, ℤ, List, [], ◌∷◌, ◌++◌}
use Rattle.std.proofs.Common.{fold, refl, sym, ap, subst, ◌∙◌, append_assoc}
use Rattle.std.specs.declared.cmp.Ordering.{Ordering}
use Rattle.std.specs.declared.cmp.Ordering.TheVariants.{Less, Equal, Greater}
use Rattle.std.specs.Ordering.{int_cmp, is_eq, ordering_then}
use Rattle.std.specs.Cmp.{IsTotalOrder, int_cmp_total}
use Rattle.std.proofs.lemmas.Cmp.{on_total, then_total}
use Rattle.std.specs.List.{AllByRecursion}
use Rattle.std.proofs.lemmas.Map.Lookups.{exact_signed}
use Rattle.std.proofs.lemmas.List.{append-nil}
use Rattle.window_state.specs.declared.tab.Tab.{Tab}
use Rattle.window_state.specs.Keys.{tab_key}
use Rattle.window_state.specs.Views.{place_cmp, insert_by_place, by_place}
use Rattle.window_state.specs.TabLists.{under, Same, AtMostOne, Upward}
use Rattle.window_state.proofs.IdLaws.{equals_itself, same_key, flip, under-append}

then-equal : (a b : Ordering) → ordering_then a b ≡ Equal → b ≡ Equal
then-equal Less b e = absurd cc
then-equal Equal b e = e
then-equal Greater b e = absurd cc

same-id : (t u : Tab) → place_cmp t u ≡ Equal → tab_key t ≡ tab_key u
same-id t u e = exact_signed (tab_key t) (tab_key u)
    (then-equal (int_cmp t.index u.index) (int_cmp t.info.id u.info.id) e)

place_total : IsTotalOrder place_cmp
place_total = then_total (on_total (λ (t : Tab). t.index) int_cmp_total)
    (on_total (λ (t : Tab). t.info.id) int_cmp_total)

turned : (t u : Tab) → place_cmp t u ≡ Greater → place_cmp u t ≡ Less
turned t u e = place_total.antisymm u t ∙ rw e refl

-- what holds of all holds of what stands under an id
pub all-under : (P : Tab → Type 0) (q : ℤ) (xs : List Tab) (x : Tab) (rest : List Tab) → under q xs ≡ x ∷ rest
    → AllByRecursion P xs → P x
all-under P q [] x rest is all = absurd cc
all-under P q (y ∷ ys) x rest is all = by (λ later. all-under P q ys x rest later all.1) (is_eq (int_cmp q (tab_key y)))
    refl
  where
    by : (under q ys ≡ x ∷ rest → P x) → (b : Bool) → is_eq (int_cmp q (tab_key y)) ≡ b → P x
    by more true e =
        let is' : y ∷ under q ys ≡ x ∷ rest = rw e at is in
        let same : y ≡ x = cc in
        subst P same all.0
    by more false e = more (rw e at is)

first-under : (x : Tab) (xs : List Tab) → under (tab_key x) (x ∷ xs) ≡ x ∷ under (tab_key x) xs
first-under x xs = rw (equals_itself (tab_key x)) refl

-- two lists in order with the same tabs are one
pub in-order-same : (xs ys : List Tab) → Upward xs → Upward ys → Same xs ys → xs ≡ ys
in-order-same [] [] up vp same = refl
in-order-same [] (y ∷ ys) up vp same = let no : [] ≡ y ∷ under (tab_key y) ys = same (tab_key y) ∙ first-under y ys in
    absurd cc
in-order-same (x ∷ xs) [] up vp same = let no : x ∷ under (tab_key x) xs ≡ [] = sym (first-under x xs)
    ∙ same (tab_key x) in absurd cc
in-order-same (x ∷ xs) (y ∷ ys) up vp same =
    by (λ more. in-order-same xs ys up.1 vp.1 more) (is_eq (int_cmp (tab_key x) (tab_key y))) refl
  where
    by : (Same xs ys → xs ≡ ys) → (b : Bool) → is_eq (int_cmp (tab_key x) (tab_key y)) ≡ b → x ∷ xs ≡ y ∷ ys
    by more true e =
        let one_key = same_key (tab_key x) (tab_key y) e in
        let heads : x ∷ under (tab_key x) xs ≡ y ∷ under (tab_key x) ys = sym (first-under x xs) ∙ same (tab_key x)
        ∙ rw e refl in
        let first : x ≡ y = cc in
        let tails : Same xs ys = λ q. tail q one_key (is_eq (int_cmp q (tab_key x))) refl in
        ap (λ z. z ∷ xs) first ∙ ap (λ zs. y ∷ zs) (more tails)
      where
        tail : (q : ℤ) → tab_key x ≡ tab_key y → (b : Bool) → is_eq (int_cmp q (tab_key x)) ≡ b
            → under q xs ≡ under q ys
        tail q one_key true e =
            let e' : is_eq (int_cmp q (tab_key y)) ≡ true = subst (λ j. is_eq (int_cmp q j) ≡ true) one_key e in
            let whole : x ∷ under q xs ≡ y ∷ under q ys = rw (e, e') at (same q) in
            cc
        tail q one_key false e =
            let e' : is_eq (int_cmp q (tab_key y)) ≡ false = subst (λ j. is_eq (int_cmp q j) ≡ false) one_key e in
            rw (e, e') at (same q)
    by more false e =
        let mine : x ∷ under (tab_key x) xs ≡ under (tab_key x) ys = sym (first-under x xs) ∙ same (tab_key x)
        ∙ rw e refl in
        let yours : y ∷ under (tab_key y) ys ≡ under (tab_key y) xs = sym (first-under y ys) ∙ sym (same (tab_key y))
        ∙ rw (flip (tab_key x) (tab_key y) e) refl in
        let less : place_cmp y x ≡ Less = all-under (λ u. place_cmp y u ≡ Less) (tab_key x) ys x (under (tab_key x) xs)
        (sym mine) vp.0 in
        let more' : place_cmp x y ≡ Less = all-under (λ u. place_cmp x u ≡ Less) (tab_key y) xs y (under (tab_key y) ys)
        (sym yours) up.0 in
        let back : place_cmp x y ≡ Greater = place_total.antisymm x y ∙ rw less refl in
        absurd cc

-- one more tab among tabs in order
below-all : (t u : Tab) (us : List Tab) → place_cmp t u ≡ Less → AllByRecursion (λ v. place_cmp u v ≡ Less) us
    → AllByRecursion (λ v. place_cmp t v ≡ Less) us
below-all t u [] less all = tt
below-all t u (v ∷ vs) less all = (place_total.trans t u v less all.0, below-all t u vs less all.1)

pub all-insert : (P : Tab → Type 0) (us : List Tab) (t : Tab) → P t → AllByRecursion P us
    → AllByRecursion P (insert_by_place us t)
all-insert P [] t new all = (new, tt)
all-insert P (u ∷ us) t new all = by (all-insert P us t new all.1) (place_cmp t u) refl
  where
    by : AllByRecursion P (insert_by_place us t) → (o : Ordering) → place_cmp t u ≡ o
        → AllByRecursion P (insert_by_place (u ∷ us) t)
    by rest Less e = rw e (new, all)
    by rest Equal e = rw e (new, all)
    by rest Greater e = rw e (all.0, rest)

upward-insert : (us : List Tab) (t : Tab) → under (tab_key t) us ≡ [] → Upward us → Upward (insert_by_place us t)
upward-insert [] t none up = (tt, tt)
upward-insert (u ∷ us) t none up = by (λ later. upward-insert us t later up.1) (is_eq (int_cmp (tab_key t) (tab_key u)))
    refl (place_cmp t u) refl
  where
    by : (under (tab_key t) us ≡ [] → Upward (insert_by_place us t)) → (b : Bool)
        → is_eq (int_cmp (tab_key t) (tab_key u)) ≡ b → (o : Ordering) → place_cmp t u ≡ o
        → Upward (insert_by_place (u ∷ us) t)
    by rest true own o e = let no : u ∷ under (tab_key t) us ≡ [] = rw own at none in absurd cc
    by rest false own Less e = rw e ((e, below-all t u us e up.0), up)
    by rest false own Equal e =
        let is : is_eq (int_cmp (tab_key t) (tab_key u)) ≡ true = rw (same-id t u e) (equals_itself (tab_key u)) in
        absurd cc
    by rest false own Greater e = rw e (
      all-insert (λ v. place_cmp u v ≡ Less) us t (turned t u e) up.0,
      rest (rw own at none),
    )

same-insert : (q : ℤ) (us : List Tab) (t : Tab) → under (tab_key t) us ≡ []
    → under q (insert_by_place us t) ≡ under q (us ++ t ∷ [])
same-insert q [] t none = refl
same-insert q (u ∷ us) t none = by (λ later. same-insert q us t later) (is_eq (int_cmp (tab_key t) (tab_key u))) refl
    (place_cmp t u) refl
  where
    behind : (us : List Tab) → under (tab_key t) us ≡ [] → under q (t ∷ us) ≡ under q (us ++ t ∷ [])
    behind us none = step (is_eq (int_cmp q (tab_key t))) refl
      where
        step : (b : Bool) → is_eq (int_cmp q (tab_key t)) ≡ b → under q (t ∷ us) ≡ under q (us ++ t ∷ [])
        step true e =
            let none' : under q us ≡ [] = subst (λ j. under j us ≡ []) (sym (same_key q (tab_key t) e)) none in
            rw (under-append q us (t ∷ []), e, none') refl
        step false e = rw (under-append q us (t ∷ []), e) (sym (append-nil (under q us)))

    by : (under (tab_key t) us ≡ [] → under q (insert_by_place us t) ≡ under q (us ++ t ∷ [])) → (b : Bool)
        → is_eq (int_cmp (tab_key t) (tab_key u)) ≡ b → (o : Ordering) → place_cmp t u ≡ o
        → under q (insert_by_place (u ∷ us) t) ≡ under q ((u ∷ us) ++ t ∷ [])
    by rest true own o e = let no : u ∷ under (tab_key t) us ≡ [] = rw own at none in absurd cc
    by rest false own Less e = rw e (behind (u ∷ us) (rw own (rw own at none)))
    by rest false own Equal e = rw e (behind (u ∷ us) (rw own (rw own at none)))
    by rest false own Greater e = rw e (ap (λ zs. cond (is_eq (int_cmp q (tab_key u))) (u ∷ zs) zs)
        (rest (rw own at none)))

-- a sort keeps tabs and puts them in order
pub record IsSorting (done : List Tab) (xs : List Tab) : Type 0 where
  pub upward : Upward (fold insert_by_place done xs)
  pub same : Same (fold insert_by_place done xs) (done ++ xs)

pub sorting : (done xs : List Tab) → Upward done → ((q : ℤ) → AtMostOne (under q (done ++ xs))) → IsSorting done xs
sorting done [] up one = record { upward = up; same = λ q. ap (under q) (sym (append-nil done)) }
sorting done (x ∷ xs) up one =
    let none : under (tab_key x) done ≡ [] = first (under (tab_key x) done) (under (tab_key x) xs)
    (subst AtMostOne (under-append (tab_key x) done (x ∷ xs)
    ∙ ap (λ zs. under (tab_key x) done ++ zs) (first-under x xs)) (one (tab_key x))) in
    let moved : (q : ℤ) → under q (insert_by_place done x ++ xs) ≡ under q (done ++ x ∷ xs) = λ q.
    under-append q (insert_by_place done x) xs ∙ ap (λ zs. zs ++ under q xs) (same-insert q done x none)
    ∙ sym (under-append q (done ++ x ∷ []) xs) ∙ ap (under q) (append_assoc done (x ∷ []) xs) in
    let rest = sorting (insert_by_place done x) xs (upward-insert done x none up)
    (λ q. subst AtMostOne (sym (moved q)) (one q)) in
    record { upward = rest.upward; same = λ q. rest.same q ∙ moved q }
  where
    first : (p r : List Tab) → AtMostOne (p ++ x ∷ r) → p ≡ []
    first [] r h = refl
    first (y ∷ p) r h = absurd (no p h)
      where
        no : (p : List Tab) → p ++ x ∷ r ≡ [] → ⊥
        no [] h = absurd cc
        no (z ∷ p) h = absurd cc

-- the sorted list is the one in order with the same tabs
pub sorted-is : (xs ys : List Tab) → ((q : ℤ) → AtMostOne (under q xs)) → Upward ys → Same xs ys → by_place xs ≡ ys
sorted-is xs ys one up same = let s = sorting [] xs tt one in
    in-order-same (by_place xs) ys s.upward up (λ q. s.same q ∙ same q)
