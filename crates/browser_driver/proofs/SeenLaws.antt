-- The tabs of an order that have pages, one more of them, and the position of one by its place.
use Rattle.std.proofs.Common.{◌≡◌, ℕ, suc, ◌+◌, ◌-◌, nat_lt, not, Bool, true, false, if◌then◌else◌, int_le, ℤ, pos}
use Rattle.std.proofs.Common.{List, [], ◌∷◌, ◌++◌, map, length, drop, Option, Some, None, is_some, append_assoc, ◌==◌}
use Rattle.std.proofs.Common.{refl, sym, ap, ◌∙◌, arith}
use Rattle.std.specs.List.{prefix_len}
use Rattle.std.specs.Option.{option_copied}
use Rattle.std.proofs.lemmas.Bool.Decides.{nat_tests}
use denote.Bor.{Bor}
use Rattle.std.proofs.lemmas.List.{map-append}
use Rattle.std.proofs.lemmas.List.Elements.{filter_map-append}
use Rattle.closed_entries.specs.declared.closed_tab.ClosedTab.{ClosedTab}
use Rattle.closed_entries.specs.declared.entry.Entry.TheVariants as entry
use Rattle.navigation_entry.specs.declared.group.GroupInfo.{GroupInfo}
use Rattle.tab_pages.specs.Positions.{first_from}
use Rattle.window_state.specs.declared.tab.Tab.{Tab}
use Rattle.window_state.specs.declared.window.Window.{Window}
use Rattle.browser_driver.specs.SeatPlans.{closed_row}
use Rattle.browser_driver.specs.WindowEntries.{seen_tab, seen_rows, seen_places, closed_rows, entry_of_rows}

-- one more tab is closed
pub closed-more : (groups : List GroupInfo) (moment : ℤ) (tabs : List Tab) (i : ℕ) (ids : List ℤ) (e : ℤ)
    (old new : List ClosedTab) → drop i ids ≡ e ∷ drop (i + 1) ids
    → new ≡ old ++ map (closed_row groups moment) (seen_rows tabs (e ∷ []))
    → new ++ map (closed_row groups moment) (seen_rows tabs (drop (i + 1) ids))
    ≡ old ++ map (closed_row groups moment) (seen_rows tabs (drop i ids))
closed-more groups moment tabs i ids e old new first more =
    let close = map (closed_row groups moment) in
    let rest = drop (i + 1) ids in
    ap (λ xs. xs ++ close (seen_rows tabs rest)) more
    ∙ append_assoc old (close (seen_rows tabs (e ∷ []))) (close (seen_rows tabs rest))
    ∙ ap (λ xs. old ++ xs) (sym (map-append (closed_row groups moment) (seen_rows tabs (e ∷ [])) (seen_rows tabs rest)))
    ∙ ap (λ xs. old ++ close xs) (sym (filter_map-append (seen_tab tabs) (e ∷ []) rest))
    ∙ ap (λ us. old ++ close (seen_rows tabs us)) (sym first)

-- the position of the first number that is at least this, where so many stand before the list
abbrev pub position_after : ℕ → ℤ → List ℤ → ℕ
position_after before least [] = before - 1
position_after before least (x ∷ xs) = if int_le least x then before else position_after (suc before) least xs

abbrev passed : ℤ → List ℤ → ℕ
passed least xs = prefix_len (λ x. not (int_le least x)) xs

after-found : (before : ℕ) (least : ℤ) (xs : List ℤ) → nat_lt (passed least xs) (length xs) ≡ true
    → position_after before least xs ≡ before + passed least xs
after-found before least [] found = absurd cc
after-found before least (x ∷ xs) found = by (after-found (suc before) least xs) (int_le least x) refl
  where
    by : (nat_lt (passed least xs) (length xs) ≡ true
        → position_after (suc before) least xs ≡ suc before + passed least xs) → (b : Bool) → int_le least x ≡ b
        → position_after before least (x ∷ xs) ≡ before + passed least (x ∷ xs)
    by rest true e = rw e (omega arith)
    by rest false e =
        let found' : nat_lt (1 + passed least xs) (suc (length xs)) ≡ true = rw e at found in
        let less : nat_lt (passed least xs) (length xs) ≡ true = grind (arith, nat_tests) in
        let more = rest less in
        rw e (omega (arith, more))

after-last : (before : ℕ) (least : ℤ) (xs : List ℤ) → nat_lt (passed least xs) (length xs) ≡ false
    → position_after before least xs ≡ before + length xs - 1
after-last before least [] found = omega arith
after-last before least (x ∷ xs) found = by (after-last (suc before) least xs) (int_le least x) refl
  where
    by : (nat_lt (passed least xs) (length xs) ≡ false
        → position_after (suc before) least xs ≡ suc before + length xs - 1) → (b : Bool) → int_le least x ≡ b
        → position_after before least (x ∷ xs) ≡ before + length (x ∷ xs) - 1
    by rest true e =
        let found' : nat_lt 0 (suc (length xs)) ≡ false = rw e at found in
        absurd (grind (arith, nat_tests))
    by rest false e =
        let found' : nat_lt (1 + passed least xs) (suc (length xs)) ≡ false = rw e at found in
        let last : nat_lt (passed least xs) (length xs) ≡ false = grind (arith, nat_tests) in
        let more = rest last in
        rw e (omega (arith, more))

pub position-all : (least : ℤ) (xs : List ℤ) → position_after 0 least xs ≡ first_from least xs
position-all least xs = by (nat_lt (passed least xs) (length xs)) refl
  where
    by : (b : Bool) → nat_lt (passed least xs) (length xs) ≡ b → position_after 0 least xs ≡ first_from least xs
    by true e = let is = after-found 0 least xs e in rw e (omega (arith, is))
    by false e = let is = after-last 0 least xs e in rw e (omega (arith, is))

pub copied-some : (o : Option (Bor Tab)) → is_some (option_copied o) ≡ is_some o
copied-some None = refl
copied-some (Some b) = refl

module _ (tabs : List Tab) (least : ℤ) (p i before : ℕ) (ids : List ℤ) (e : ℤ)
    (first : drop i ids ≡ e ∷ drop (i + 1) ids) where
  abbrev After : ℕ → ℕ → List ℤ → ℕ
  After n p us = position_after n least (seen_places tabs p us)

  pub passed-unseen : is_some (seen_tab tabs e) ≡ false
      → After before (p + 1) (drop (i + 1) ids) ≡ After before p (drop i ids)
  passed-unseen unseen = by (seen_tab tabs e) refl
    where
      by : (o : Option Tab) → seen_tab tabs e ≡ o
          → After before (p + 1) (drop (i + 1) ids) ≡ After before p (drop i ids)
      by None is = let next : p + 1 ≡ suc p = omega arith in rw (first, is, next) refl
      by (Some t) is = let unseen' = rw is at unseen in absurd cc

  pub passed-before : is_some (seen_tab tabs e) ≡ true → int_le least (pos p) ≡ false
      → After (before + 1) (p + 1) (drop (i + 1) ids) ≡ After before p (drop i ids)
  passed-before seen low = by (seen_tab tabs e) refl
    where
      by : (o : Option Tab) → seen_tab tabs e ≡ o
          → After (before + 1) (p + 1) (drop (i + 1) ids) ≡ After before p (drop i ids)
      by None is = let seen' = rw is at seen in absurd cc
      by (Some t) is =
          let next : p + 1 ≡ suc p = omega arith in
          let more : before + 1 ≡ suc before = omega arith in
          rw (first, is, low, next, more) refl

  pub here-first : is_some (seen_tab tabs e) ≡ true → int_le least (pos p) ≡ true → before ≡ After before p (drop i ids)
  here-first seen high = by (seen_tab tabs e) refl
    where
      by : (o : Option Tab) → seen_tab tabs e ≡ o → before ≡ After before p (drop i ids)
      by None is = let seen' = rw is at seen in absurd cc
      by (Some t) is = rw (first, is, high) refl

-- what stays of a window of which some tab has pages
pub window-left : (groups : List GroupInfo) (moment : ℤ) (w : Window) (places : List ℤ) (seen : List Tab)
    (tabs : List ClosedTab) → tabs ≡ map (closed_row groups moment) seen → (n : ℕ) → n ≡ length tabs → false ≡ (n == 0)
    → Some (entry.Window (record (closed_rows groups moment w places seen) { tabs = tabs }))
    ≡ entry_of_rows groups moment w places seen
window-left groups moment w places [] tabs is n count some =
    let none : n ≡ 0 = count ∙ ap length is in
    let some' = rw none at some in
    absurd cc
window-left groups moment w places (t ∷ ts) tabs is n count some =
    ap (λ (us : List ClosedTab). Some (entry.Window
    (record (closed_rows groups moment w places (t ∷ ts)) { tabs = us }))) is
