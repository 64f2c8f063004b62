-- The groups that a state that matches shows are those of the browser's picture.
use Rattle.std.proofs.Common.{◌≡◌, ℕ, zero, suc, ◌==◌, Bool, true, false, cond, ◌&&◌, ◌||◌, if◌then◌else◌, ℤ, List, []}
use Rattle.std.proofs.Common.{◌∷◌, ◌++◌, map, filter, Option, Some, None, IfSome, refl, sym, ap, subst, ◌∙◌, arith}
use Rattle.std.specs.declared.cmp.Ordering.{Ordering}
use Rattle.std.specs.declared.cmp.Ordering.TheVariants.{Less, Equal, Greater}
use Rattle.std.specs.Ordering.{int_cmp, is_eq}
use Rattle.std.specs.Cmp.{IsTotalOrder, nat_cmp_total}
use Rattle.std.specs.List.{AllByRecursion, list_any}
use Rattle.std.specs.List.Sorted.{IsStrictlySortedBy}
use Rattle.std.proofs.lemmas.Cmp.{on_total, then_total, tied_itself}
use Rattle.std.proofs.lemmas.Map.Keys.{sorted_head, sorted_tail}
use Rattle.std.proofs.lemmas.Bool.Decides.{nat_tests}
use Rattle.std.proofs.lemmas.List.Kept.{IsStrictlySortedBy-filter}
use Rattle.navigation_entry.specs.declared.group.GroupInfo.{GroupInfo}
use Rattle.tab_pages.specs.PageLists.{has_page}
use Rattle.window_state.specs.declared.group_id.GroupId.{GroupId}
use Rattle.window_state.specs.declared.tab.Tab.{Tab}
use Rattle.window_state.specs.Keys.{tab_key, group_key, group_cmp}
use Rattle.window_state.specs.KeyLaws.{same_group}
use Rattle.window_state.specs.RowLists.{find_row}
use Rattle.window_state.specs.States.{State}
use Rattle.window_state.specs.Views.{is_group, uses, is_used, view}
use Rattle.window_state.specs.TabLists.{Same, under}
use Rattle.window_state.proofs.IdLaws.{equals_itself}
use Rattle.browser_model.specs.Running.{IsRunning}
use Rattle.browser_model.specs.Browsers.{Browser, BrowserWindow, BrowserTab, Stand, row_of, stands_from, all_stands}
use Rattle.browser_model.specs.Browsers.{rows, Matches, EachTab, HasGroup}
use Rattle.browser_model.specs.Pictures.{is_seen, is_seen_in, picture_view, picture}
use Rattle.browser_model.proofs.PictureLaws.{page-numbered, windows-seen}

or-true : (a b : Bool) → b ≡ true → (a || b) ≡ true
or-true true b e = refl
or-true false b e = e

-- a test of some row
under-any : (p : Tab → Bool) (q : ℤ) (xs : List Tab) → list_any p (under q xs) ≡ true → list_any p xs ≡ true
under-any p q [] e = e
under-any p q (x ∷ xs) e = by (under-any p q xs) (is_eq (int_cmp q (tab_key x))) refl
  where
    both : (a b c : Bool) → (b ≡ true → c ≡ true) → (a || b) ≡ true → (a || c) ≡ true
    both true b c f h = refl
    both false b c f h = f h

    by : (list_any p (under q xs) ≡ true → list_any p xs ≡ true) → (b : Bool) → is_eq (int_cmp q (tab_key x)) ≡ b
        → list_any p (x ∷ xs) ≡ true
    by rest true f = let e' : (p x || list_any p (under q xs)) ≡ true = rw f at e in
        both (p x) (list_any p (under q xs)) (list_any p xs) rest e'
    by rest false f = or-true (p x) (list_any p xs) (rest (rw f at e))

any-under : (p : Tab → Bool) (xs : List Tab) → list_any p xs ≡ true → (q : ℤ) × (list_any p (under q xs) ≡ true)
any-under p [] e = absurd cc
any-under p (x ∷ xs) e = by (any-under p xs) (p x) refl
  where
    by : (list_any p xs ≡ true → (q : ℤ) × (list_any p (under q xs) ≡ true)) → (b : Bool) → p x ≡ b
        → (q : ℤ) × (list_any p (under q (x ∷ xs)) ≡ true)
    by rest true f = (tab_key x, rw (equals_itself (tab_key x), f) refl)
    by rest false f =
        let e' : list_any p xs ≡ true = rw f at e in
        let r = rest e' in (
          r.0,
          elim (is_eq (int_cmp r.0 (tab_key x))) as (λ b. list_any p (cond b (x ∷ under r.0 xs) (under r.0 xs))
              ≡ true) [ true ↦ or-true (p x) (list_any p (under r.0 xs)) r.1 | false ↦ r.1 ],
        )

same-bool : (a b : Bool) → (a ≡ true → b ≡ true) → (b ≡ true → a ≡ true) → a ≡ b
same-bool true b f g = sym (f refl)
same-bool false true f g = g refl
same-bool false false f g = refl

pub any-same : (p : Tab → Bool) (xs ys : List Tab) → Same xs ys → list_any p xs ≡ list_any p ys
any-same p xs ys same =
    same-bool (list_any p xs) (list_any p ys)
    (λ e. let r = any-under p xs e in under-any p r.0 ys (ap (list_any p) (sym (same r.0)) ∙ r.1))
    (λ e. let r = any-under p ys e in under-any p r.0 xs (ap (list_any p) (same r.0) ∙ r.1))

any-map : {X Y : Type 0} (p : Y → Bool) (q : X → Bool) (h : X → Y) → ((x : X) → p (h x) ≡ q x) → (xs : List X)
    → list_any p (map h xs) ≡ list_any q xs
any-map p q h same [] = refl
any-map p q h same (x ∷ xs) = rw (same x, any-map p q h same xs) refl

pub used-is : (s : State) (b : Browser) → Matches s b → (g : GroupInfo)
    → is_used s.tabs g ≡ is_seen_in (all_stands b.windows) g
used-is s b m g =
    any-same (uses g) s.tabs (rows b.windows) m.tabs
    ∙ any-map (uses g) (λ st. is_seen st && is_group (group_key g) st.tab.info.group) row_of
    (λ st. ap (λ c. c && is_group (group_key g) st.tab.info.group) (page-numbered st.tab.pages))
    (all_stands b.windows)

-- rows in order with the same finds are one list
module _ {K R : Type 0} (cmp : K → K → Ordering) (key : R → K) (total : IsTotalOrder cmp)
    (exact : (x y : K) → cmp x y ≡ Equal → x ≡ y) where
  find-before : (k : K) (rs : List R) → AllByRecursion (λ y. cmp k y ≡ Less) (map key rs) → find_row cmp key k rs ≡ None
  find-before k [] all = refl
  find-before k (r ∷ rs) all = rw all.0 (find-before k rs all.1)

  below-all : (k y : K) (rs : List R) → cmp k y ≡ Less → AllByRecursion (λ z. cmp y z ≡ Less) (map key rs)
      → AllByRecursion (λ z. cmp k z ≡ Less) (map key rs)
  below-all k y [] e all = tt
  below-all k y (r ∷ rs) e all = (total.trans k y (key r) e all.0, below-all k y rs e all.1)

  found-first : (x : R) (xs : List R) → find_row cmp key (key x) (x ∷ xs) ≡ Some x
  found-first x xs = let e = tied_itself total (key x) in rw e refl

  pub same-finds : (xs ys : List R) → IsStrictlySortedBy cmp (map key xs) → IsStrictlySortedBy cmp (map key ys)
      → ((k : K) → find_row cmp key k xs ≡ find_row cmp key k ys) → xs ≡ ys
  same-finds [] [] sx sy same = refl
  same-finds [] (y ∷ ys) sx sy same = let no : None ≡ Some y = same (key y) ∙ found-first y ys in absurd cc
  same-finds (x ∷ xs) [] sx sy same = let no : Some x ≡ None = sym (found-first x xs) ∙ same (key x) in absurd cc
  same-finds (x ∷ xs) (y ∷ ys) sx sy same = by
      (λ tails. same-finds xs ys (sorted_tail cmp (key x) (map key xs) sx) (sorted_tail cmp (key y) (map key ys) sy)
      tails) (cmp (key x) (key y)) refl
    where
      hx : AllByRecursion (λ z. cmp (key x) z ≡ Less) (map key xs)
      hx = sorted_head cmp (key x) (map key xs) sx

      hy : AllByRecursion (λ z. cmp (key y) z ≡ Less) (map key ys)
      hy = sorted_head cmp (key y) (map key ys) sy

      by : (((k : K) → find_row cmp key k xs ≡ find_row cmp key k ys) → xs ≡ ys) → (o : Ordering)
          → cmp (key x) (key y) ≡ o → x ∷ xs ≡ y ∷ ys
      by rest Less e =
          let none : find_row cmp key (key x) (y ∷ ys) ≡ None =
          rw e (find-before (key x) ys (below-all (key x) (key y) ys e hy)) in
          let no : Some x ≡ None = sym (found-first x xs) ∙ same (key x) ∙ none in
          absurd cc
      by rest Greater e =
          let less : cmp (key y) (key x) ≡ Less = total.antisymm (key y) (key x) ∙ rw e refl in
          let none : find_row cmp key (key y) (x ∷ xs) ≡ None =
          rw less (find-before (key y) xs (below-all (key y) (key x) xs less hx)) in
          let no : None ≡ Some y = sym none ∙ same (key y) ∙ found-first y ys in
          absurd cc
      by rest Equal e =
          let one_key = exact (key x) (key y) e in
          let heads : Some x ≡ Some y = sym (found-first x xs) ∙ same (key x)
          ∙ ap (λ k. find_row cmp key k (y ∷ ys)) one_key ∙ found-first y ys in
          let first : x ≡ y = cc in
          let tails : (k : K) → find_row cmp key k xs ≡ find_row cmp key k ys =
          λ k. tail k one_key (is_eq (cmp k (key x))) refl in
          ap (λ z. z ∷ xs) first ∙ ap (λ zs. y ∷ zs) (rest tails)
        where
          equal : (o : Ordering) → is_eq o ≡ true → o ≡ Equal
          equal Less f = absurd cc
          equal Equal f = refl
          equal Greater f = absurd cc

          tail : (k : K) → key x ≡ key y → (b : Bool) → is_eq (cmp k (key x)) ≡ b
              → find_row cmp key k xs ≡ find_row cmp key k ys
          tail k one_key true f =
              let is = exact k (key x) (equal (cmp k (key x)) f) in
              subst (λ j. find_row cmp key j xs ≡ find_row cmp key j ys) (sym is)
              (find-before (key x) xs hx ∙ sym (ap (λ j. find_row cmp key j ys) one_key
              ∙ find-before (key y) ys hy))
          tail k one_key false f =
              let f' : is_eq (cmp k (key y)) ≡ false = subst (λ j. is_eq (cmp k j) ≡ false) one_key f in
              rw (f, f') at (same k)

-- what a filter by keys finds
module _ (u : GroupId → Bool) where
  equal : (o : Ordering) → is_eq o ≡ true → o ≡ Equal
  equal Less f = absurd cc
  equal Equal f = refl
  equal Greater f = absurd cc

  pub find-in : (k : GroupId) → u k ≡ true → (gs : List GroupInfo)
      → find_row group_cmp group_key k (filter (λ g. u (group_key g)) gs) ≡ find_row group_cmp group_key k gs
  find-in k t [] = refl
  find-in k t (g ∷ gs) = by (find-in k t gs) (u (group_key g)) refl (is_eq (group_cmp k (group_key g))) refl
    where
      by : find_row group_cmp group_key k (filter (λ g. u (group_key g)) gs) ≡ find_row group_cmp group_key k gs
          → (a : Bool) → u (group_key g) ≡ a → (b : Bool) → is_eq (group_cmp k (group_key g)) ≡ b
          → find_row group_cmp group_key k (filter (λ g. u (group_key g)) (g ∷ gs))
          ≡ find_row group_cmp group_key k (g ∷ gs)
      by rest true e b f = rw e (ap (λ o. if is_eq (group_cmp k (group_key g)) then Some g else o) rest)
      by rest false e true f =
          let is = same_group k (group_key g) (equal (group_cmp k (group_key g)) f) in
          let no : true ≡ false = sym t ∙ ap u is ∙ e in
          absurd cc
      by rest false e false f = rw (e, f) rest

  find-out : (k : GroupId) → u k ≡ false → (gs : List GroupInfo)
      → find_row group_cmp group_key k (filter (λ g. u (group_key g)) gs) ≡ None
  find-out k t [] = refl
  find-out k t (g ∷ gs) = by (find-out k t gs) (u (group_key g)) refl (is_eq (group_cmp k (group_key g))) refl
    where
      by : find_row group_cmp group_key k (filter (λ g. u (group_key g)) gs) ≡ None → (a : Bool) → u (group_key g) ≡ a
          → (b : Bool) → is_eq (group_cmp k (group_key g)) ≡ b
          → find_row group_cmp group_key k (filter (λ g. u (group_key g)) (g ∷ gs)) ≡ None
      by rest true e true f =
          let is = same_group k (group_key g) (equal (group_cmp k (group_key g)) f) in
          let no : false ≡ true = sym t ∙ ap u is ∙ e in
          absurd cc
      by rest true e false f = rw (e, f) rest
      by rest false e b f = rw e rest

  sorted-keys : (gs : List GroupInfo) → IsStrictlySortedBy group_cmp (map group_key gs)
      → IsStrictlySortedBy group_cmp (map group_key (filter (λ g. u (group_key g)) gs))
  sorted-keys gs sorted = subst (IsStrictlySortedBy group_cmp) (sym (through gs))
      (IsStrictlySortedBy-filter group_cmp u (map group_key gs) sorted)
    where
      through : (gs : List GroupInfo) → map group_key (filter (λ g. u (group_key g)) gs) ≡ filter u (map group_key gs)
      through [] = refl
      through (g ∷ gs) = let rest = through gs in
          elim (u (group_key g)) as (λ b. map group_key
          (cond b (g ∷ filter (λ g. u (group_key g)) gs) (filter (λ g. u (group_key g)) gs))
          ≡ cond b (group_key g ∷ filter u (map group_key gs)) (filter u (map group_key gs)))
          [ true ↦ ap (λ ks. group_key g ∷ ks) rest | false ↦ rest ]

  pub filters-same : (xs ys : List GroupInfo) → IsStrictlySortedBy group_cmp (map group_key xs)
      → IsStrictlySortedBy group_cmp (map group_key ys)
      → ((k : GroupId) → u k ≡ true → find_row group_cmp group_key k xs ≡ find_row group_cmp group_key k ys)
      → filter (λ g. u (group_key g)) xs ≡ filter (λ g. u (group_key g)) ys
  filters-same xs ys sx sy same =
      same-finds group_cmp group_key group_total same_group (filter (λ g. u (group_key g)) xs)
      (filter (λ g. u (group_key g)) ys) (sorted-keys xs sx) (sorted-keys ys sy) (λ k. by k (u k) refl)
    where
      group_total : IsTotalOrder group_cmp
      group_total = then_total (on_total (λ (g : GroupId). g.high) nat_cmp_total)
          (on_total (λ (g : GroupId). g.low) nat_cmp_total)

      by : (k : GroupId) (b : Bool) → u k ≡ b → find_row group_cmp group_key k (filter (λ g. u (group_key g)) xs)
          ≡ find_row group_cmp group_key k (filter (λ g. u (group_key g)) ys)
      by k true e = find-in k e xs ∙ same k e ∙ sym (find-in k e ys)
      by k false e = find-out k e xs ∙ sym (find-out k e ys)

-- a group of a seen tab has the same data in both
abbrev seen_key : List Stand → GroupId → Bool
seen_key stands k = list_any (λ s. is_seen s && is_group k s.tab.info.group) stands

own-group : (k : GroupId) (o : Option GroupId) → is_group k o ≡ true → o ≡ Some k
own-group k None e = absurd cc
own-group k (Some own) e =
    let both = apart (own.high == k.high) (own.low == k.low) e in
    let h = both.0 in
    let l = both.1 in
    let high : own.high ≡ k.high = grind (arith, nat_tests) in
    let low : own.low ≡ k.low = grind (arith, nat_tests) in
    λ i. Some (record { high = high i; low = low i })
  where
    apart : (a b : Bool) → (a && b) ≡ true → (a ≡ true) × (b ≡ true)
    apart true b e = (refl, e)
    apart false b e = absurd cc

module _ (known groups : List GroupInfo) (k : GroupId) where
  of-tab : (t : BrowserTab) → HasGroup known groups t → is_group k t.info.group ≡ true
      → find_row group_cmp group_key k known ≡ find_row group_cmp group_key k groups
  of-tab t has e = subst (λ o. IfSome o (λ id. find_row group_cmp group_key id known
      ≡ find_row group_cmp group_key id groups)) (own-group k t.info.group e) has

  and-second : (a b : Bool) → (a && b) ≡ true → b ≡ true
  and-second true b e = e
  and-second false b e = absurd cc

  in-tabs : (window : ℤ) (n : ℕ) (ts : List BrowserTab) (rest : List Stand) → AllByRecursion (HasGroup known groups) ts
      → (seen_key rest k ≡ true → find_row group_cmp group_key k known ≡ find_row group_cmp group_key k groups)
      → seen_key (stands_from window n ts ++ rest) k ≡ true
      → find_row group_cmp group_key k known ≡ find_row group_cmp group_key k groups
  in-tabs window n [] rest all later e = later e
  in-tabs window n (t ∷ ts) rest all later e =
      by (in-tabs window (suc n) ts rest all.1 later)
      (is_seen (record { window = window; place = n; tab = t }) && is_group k t.info.group) refl e
    where
      by : (seen_key (stands_from window (suc n) ts ++ rest) k ≡ true
          → find_row group_cmp group_key k known ≡ find_row group_cmp group_key k groups) → (b : Bool)
          → (is_seen (record { window = window; place = n; tab = t }) && is_group k t.info.group) ≡ b
          → (is_seen (record { window = window; place = n; tab = t }) && is_group k t.info.group) || seen_key
          (stands_from window (suc n) ts ++ rest) k ≡ true
          → find_row group_cmp group_key k known ≡ find_row group_cmp group_key k groups
      by more true f e = of-tab t all.0 (and-second (has_page t.pages) (is_group k t.info.group) f)
      by more false f e = more (rw f at e)

  in-windows : (ws : List BrowserWindow) → EachTab (HasGroup known groups) ws → seen_key (all_stands ws) k ≡ true
      → find_row group_cmp group_key k known ≡ find_row group_cmp group_key k groups
  in-windows [] all e = absurd cc
  in-windows (w ∷ ws) all e = in-tabs w.info.id zero w.tabs (all_stands ws) all.0 (in-windows ws all.1) e

pub groups-seen : (s : State) (b : Browser) → Matches s b → IsStrictlySortedBy group_cmp (map group_key s.groups)
    → IsStrictlySortedBy group_cmp (map group_key b.groups)
    → filter (is_used s.tabs) s.groups ≡ filter (is_seen_in (all_stands b.windows)) b.groups
groups-seen s b m ss sb =
    agree s.groups
    ∙ filters-same (seen_key (all_stands b.windows)) s.groups b.groups ss sb
    (λ k e. sym (in-windows b.groups s.groups k b.windows m.groups e))
  where
    agree : (gs : List GroupInfo) → filter (is_used s.tabs) gs ≡ filter (is_seen_in (all_stands b.windows)) gs
    agree [] = refl
    agree (g ∷ gs) = rw (used-is s b m g, agree gs) refl

-- the view of a state that matches is the browser's picture, in every field
pub view-is : (s : State) (b : Browser) → IsRunning s → Matches s b
    → IsStrictlySortedBy group_cmp (map group_key s.groups) → IsStrictlySortedBy group_cmp (map group_key b.groups)
    → view s ≡ picture_view b
view-is s b r m ss sb =
    let windows = windows-seen s b r m in
    let groups = groups-seen s b m ss sb in
    rw (windows, groups, m.active) refl

-- which is how the picture shows it
pub picture-is : (s : State) (b : Browser) → IsRunning s → Matches s b
    → IsStrictlySortedBy group_cmp (map group_key s.groups) → IsStrictlySortedBy group_cmp (map group_key b.groups)
    → view s ≡ (picture b).view
picture-is s b r m ss sb = view-is s b r m ss sb
