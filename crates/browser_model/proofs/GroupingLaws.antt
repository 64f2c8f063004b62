-- A tab comes into a group or leaves its group.
use Rattle.std.proofs.Common.{◌≡◌, Bool, true, false, if◌then◌else◌, ℕ, ℤ, List, [], ◌∷◌, map, Option, Some, None}
use Rattle.std.proofs.Common.{IfSome, refl, sym, ap, subst, ◌∙◌}
use Rattle.std.specs.declared.cmp.Ordering.{Ordering}
use Rattle.std.specs.declared.cmp.Ordering.TheVariants.{Less, Equal, Greater}
use Rattle.std.specs.Ordering.{is_eq}
use Rattle.std.specs.List.{AllByRecursion}
use Rattle.std.specs.List.Sorted.{IsStrictlySortedBy}
use Rattle.std.specs.Cmp.{IsTotalOrder, nat_cmp_total}
use Rattle.std.proofs.lemmas.Cmp.{on_total, then_total, tied_itself}
use Rattle.navigation_entry.specs.declared.group.GroupInfo.{GroupInfo}
use Rattle.session_commands.specs.declared.command.SessionCommand.TheVariants.{TabGroup, GroupData}
use Rattle.window_state.specs.declared.group_id.GroupId.{GroupId}
use Rattle.window_state.specs.declared.tab.Tab.{Tab}
use Rattle.window_state.specs.Keys.{group_key, group_cmp}
use Rattle.window_state.specs.KeyLaws.{same_group}
use Rattle.window_state.specs.RowLists.{find_row, put_row}
use Rattle.window_state.specs.States.{State, is_within, with_group, with_tab}
use Rattle.window_state.proofs.FindLaws.{is_equal}
use Rattle.replay_machine.specs.Step.{step, fold}
use Rattle.browser_model.specs.Running.{IsRunning}
use Rattle.browser_model.specs.Browsers.{Browser, BrowserWindow, BrowserTab, Stand, Matches, EachTab, IsAtPage}
use Rattle.browser_model.specs.Browsers.{HasGroup}
use Rattle.browser_model.specs.Tabs.{stand_of, put_tab}
use Rattle.browser_model.specs.OneTab.{in_group, grouped_tab, group_tab, ungroup}
use Rattle.browser_model.proofs.TabLaws.{TurnsTab, tab-one, one-tab, own-id, of-found}

pub ungroup-matches : (s : State) (b : Browser) (id : ℤ) (st : Stand) → IsRunning s → Matches s b
    → stand_of id b ≡ Some st
    → Matches (fold s (ungroup st.tab)) (record b { windows = put_tab id (in_group None st.tab) b.windows })
ungroup-matches s b id st r m found =
    let to : Tab → Tab = λ t. record t { info = record t.info { group = None } } in
    one-tab s b id st (in_group None st.tab) to (ungroup st.tab) r m found
    (subst (λ q. TurnsTab id to (TabGroup q 0 0 false ∷ [])) (own-id s b id st r m found)
    (tab-one id to (TabGroup id 0 0 false) (λ t. refl) (λ s. refl)))
    refl tt (of-found IsAtPage s b id st r m found m.at_page)

pub group_total : IsTotalOrder group_cmp
group_total = then_total (on_total (λ (g : GroupId). g.high) nat_cmp_total)
    (on_total (λ (g : GroupId). g.low) nat_cmp_total)

-- the group that was put in is found, and another one as before
module _ (group : GroupInfo) where
  own-found : (gs : List GroupInfo)
      → find_row group_cmp group_key (group_key group) (put_row group_cmp group_key group gs) ≡ Some group
  own-found [] = rw (tied_itself group_total (group_key group)) refl
  own-found (g ∷ gs) = by (own-found gs) (group_cmp (group_key group) (group_key g)) refl
    where
      by : find_row group_cmp group_key (group_key group) (put_row group_cmp group_key group gs) ≡ Some group
          → (o : Ordering) → group_cmp (group_key group) (group_key g) ≡ o
          → find_row group_cmp group_key (group_key group) (put_row group_cmp group_key group (g ∷ gs)) ≡ Some group
      by rest Less e = let same = tied_itself group_total (group_key group) in rw (e, same) refl
      by rest Equal e = let same = tied_itself group_total (group_key group) in rw (e, same) refl
      by rest Greater e = rw (e, e) rest

  other-found : (k : GroupId) → is_eq (group_cmp k (group_key group)) ≡ false → (gs : List GroupInfo)
      → find_row group_cmp group_key k (put_row group_cmp group_key group gs) ≡ find_row group_cmp group_key k gs
  other-found k apart [] = rw apart refl
  other-found k apart (g ∷ gs) = by (other-found k apart gs) (group_cmp (group_key group) (group_key g)) refl
    where
      by : find_row group_cmp group_key k (put_row group_cmp group_key group gs) ≡ find_row group_cmp group_key k gs
          → (o : Ordering) → group_cmp (group_key group) (group_key g) ≡ o
          → find_row group_cmp group_key k (put_row group_cmp group_key group (g ∷ gs))
          ≡ find_row group_cmp group_key k (g ∷ gs)
      by rest Less e = rw (e, apart) refl
      by rest Equal e =
          let other : is_eq (group_cmp k (group_key g)) ≡ false =
          subst (λ j. is_eq (group_cmp k j) ≡ false) (same_group (group_key group) (group_key g) e) apart in
          rw (e, apart, other) refl
      by rest Greater e = rw e (ap (λ o. if is_eq (group_cmp k (group_key g)) then Some g else o) rest)

  both-find : (k : GroupId) (known groups : List GroupInfo)
      → find_row group_cmp group_key k known ≡ find_row group_cmp group_key k groups
      → find_row group_cmp group_key k (put_row group_cmp group_key group known)
      ≡ find_row group_cmp group_key k (put_row group_cmp group_key group groups)
  both-find k known groups same = by (is_eq (group_cmp k (group_key group))) refl
    where
      by : (b : Bool) → is_eq (group_cmp k (group_key group)) ≡ b
          → find_row group_cmp group_key k (put_row group_cmp group_key group known)
          ≡ find_row group_cmp group_key k (put_row group_cmp group_key group groups)
      by true e = subst (λ j. find_row group_cmp group_key j (put_row group_cmp group_key group known)
          ≡ find_row group_cmp group_key j (put_row group_cmp group_key group groups))
          (sym (same_group k (group_key group) (is_equal (group_cmp k (group_key group)) e)))
          (own-found known ∙ sym (own-found groups))
      by false e = other-found k e known ∙ same ∙ sym (other-found k e groups)

  -- so the data of each tab's group is still the state's
  has-still : (known groups : List GroupInfo) (t : BrowserTab) → HasGroup known groups t
      → HasGroup (put_row group_cmp group_key group known) (put_row group_cmp group_key group groups) t
  has-still known groups t has = by t.info.group has
    where
      by : (o : Option GroupId) → IfSome o (λ k. find_row group_cmp group_key k known
          ≡ find_row group_cmp group_key k groups) → IfSome o (λ k.
          find_row group_cmp group_key k (put_row group_cmp group_key group known)
          ≡ find_row group_cmp group_key k (put_row group_cmp group_key group groups))
      by None has = tt
      by (Some k) has = both-find k known groups has

  each-still : (known groups : List GroupInfo) (ws : List BrowserWindow) → EachTab (HasGroup known groups) ws
      → EachTab (HasGroup (put_row group_cmp group_key group known) (put_row group_cmp group_key group groups)) ws
  each-still known groups [] all = tt
  each-still known groups (w ∷ ws) all = (tabs w.tabs all.0, each-still known groups ws all.1)
    where
      tabs : (ts : List BrowserTab) → AllByRecursion (HasGroup known groups) ts → AllByRecursion
          (HasGroup (put_row group_cmp group_key group known) (put_row group_cmp group_key group groups)) ts
      tabs [] all = tt
      tabs (t ∷ ts) all = (has-still known groups t all.0, tabs ts all.1)

  -- what is known of a group may come before or after a tab's change
  either-first : (id : ℤ) (high low : ℕ) (s : State)
      → step (step s (TabGroup id high low true)) (GroupData group)
      ≡ step (with_group group s) (TabGroup id high low true)
  either-first id high low s = by (is_within to)
    where
      to : State
      to = with_tab id (λ t. record t { info = record t.info { group = Some (record { high = high; low = low }) } }) s

      by : (b : Bool) → with_group group (if b then to else s)
          ≡ (if b then with_group group to else with_group group s)
      by true = refl
      by false = refl

pub group-matches : (s : State) (b : Browser) (id : ℤ) (st : Stand) (group : GroupInfo) → IsRunning s → Matches s b
    → stand_of id b ≡ Some st → Matches (fold s (group_tab group st.tab)) (grouped_tab group st b)
group-matches s b id st group r m found =
    let own = own-id s b id st r m found in
    let key = group_key group in
    let to : Tab → Tab = λ t. record t { info = record t.info { group = Some key } } in
    let new = in_group (Some key) st.tab in
    let s1 = with_group group s in
    let b1 : Browser = record b { groups = put_row group_cmp group_key group b.groups } in
    let r1 : IsRunning s1 = record { tabs = r.tabs; windows = r.windows; within = r.within } in
    let m1 : Matches s1 b1 = record {
      tabs = m.tabs;
      windows = m.windows;
      active = m.active;
      groups = each-still group b.groups s.groups b.windows m.groups;
      at_page = m.at_page;
    } in
    let same : find_row group_cmp group_key key b1.groups ≡ find_row group_cmp group_key key s1.groups =
    own-found group b.groups ∙ sym (own-found group s.groups) in
    let turned : Matches (fold s1 (TabGroup id group.high group.low true ∷ []))
    (record b1 { windows = put_tab id new b.windows }) =
    one-tab s1 b1 id st new to (TabGroup id group.high group.low true ∷ []) r1 m1 found
    (tab-one id to (TabGroup id group.high group.low true) (λ t. refl) (λ s. refl))
    refl same (of-found IsAtPage s b id st r m found m.at_page) in
    subst (λ q. Matches (fold s (TabGroup q group.high group.low true ∷ GroupData group ∷ []))
    (record b1 { windows = put_tab q new b.windows })) own
    (subst (λ z. Matches z (record b1 { windows = put_tab id new b.windows }))
    (sym (either-first group id group.high group.low s)) turned)

-- groups stay in order
pub sorted-put : (group : GroupInfo) (gs : List GroupInfo) → IsStrictlySortedBy group_cmp (map group_key gs)
    → IsStrictlySortedBy group_cmp (map group_key (put_row group_cmp group_key group gs))
unfolding IsStrictlySortedBy
sorted-put group [] sorted = (tt, tt)
sorted-put group (g ∷ gs) sorted =
    by (sorted-put group gs sorted.1) (group_cmp (group_key group) (group_key g)) refl
  where
    below : (k : GroupId) (xs : List GroupInfo) → group_cmp k (group_key group) ≡ Less
        → AllByRecursion (λ y. group_cmp k y ≡ Less) (map group_key xs)
        → AllByRecursion (λ y. group_cmp k y ≡ Less) (map group_key (put_row group_cmp group_key group xs))
    below k [] less all = (less, tt)
    below k (x ∷ xs) less all = by (below k xs less all.1) (group_cmp (group_key group) (group_key x)) refl
      where
        by : AllByRecursion (λ y. group_cmp k y ≡ Less) (map group_key (put_row group_cmp group_key group xs))
            → (o : Ordering) → group_cmp (group_key group) (group_key x) ≡ o
            → AllByRecursion (λ y. group_cmp k y ≡ Less) (map group_key (put_row group_cmp group_key group (x ∷ xs)))
        by rest Less e = rw e (less, all)
        by rest Equal e = rw e (less, all.1)
        by rest Greater e = rw e (all.0, rest)

    above : (xs : List GroupInfo) → group_cmp (group_key group) (group_key g) ≡ Less
        → AllByRecursion (λ y. group_cmp (group_key g) y ≡ Less) (map group_key xs)
        → AllByRecursion (λ y. group_cmp (group_key group) y ≡ Less) (map group_key xs)
    above [] less all = tt
    above (x ∷ xs) less all = (
      group_total.trans (group_key group) (group_key g) (group_key x) less all.0,
      above xs less all.1,
    )

    by : IsStrictlySortedBy group_cmp (map group_key (put_row group_cmp group_key group gs)) → (o : Ordering)
        → group_cmp (group_key group) (group_key g) ≡ o
        → IsStrictlySortedBy group_cmp (map group_key (put_row group_cmp group_key group (g ∷ gs)))
    by rest Less e = rw e ((e, above gs e sorted.0), sorted)
    by rest Equal e =
        let is = same_group (group_key group) (group_key g) e in
        rw e (subst (λ k. AllByRecursion (λ y. group_cmp k y ≡ Less) (map group_key gs)) (sym is) sorted.0, sorted.1)
    by rest Greater e =
        let less : group_cmp (group_key g) (group_key group) ≡ Less =
        group_total.antisymm (group_key g) (group_key group) ∙ rw e refl in
        rw e (below (group_key g) gs less sorted.0, rest)
