-- One shown tab tidied: the commands make of its row the row at its place with pages from 0 without a gap.
use Rattle.std.proofs.Common.{◌≡◌, ℕ, zero, suc, ◌+◌, ◌-◌, ◌<◌, ◌≤◌, nat_lt, Bool, true, false, cond, not, int_le, ℤ}
use Rattle.std.proofs.Common.{pos, List, [], ◌∷◌, ◌++◌, map, length, refl, sym, ap, ◌∙◌, arith}
use Rattle.std.specs.Ordering.{int_eq}
use Rattle.std.specs.List.{position_or_len}
use Rattle.std.proofs.lemmas.Int.{ints}
use Rattle.std.proofs.lemmas.Bool.Decides.{nat_tests}
use Rattle.std.proofs.lemmas.List.{length-map}
use Rattle.navigation_entry.specs.declared.navigation.Navigation.{Navigation}
use Rattle.session_commands.specs.declared.command.SessionCommand.{SessionCommand}
use Rattle.session_commands.specs.declared.command.SessionCommand.TheVariants.{SelectNavigation, Pruned, TabIndex}
use Rattle.tab_pages.specs.PageLists.{IsRising, prune, has_page}
use Rattle.tab_pages.specs.Positions.{first_from}
use Rattle.window_state.specs.declared.tab.Tab.{Tab}
use Rattle.window_state.specs.Changes.{current_pruned}
use Rattle.window_state.proofs.IdLaws.{same_key}
use Rattle.browser_model.specs.Browsers.{numbered}
use Rattle.browser_model.specs.Tidying.{gaps, index_from, current_index, unless, tidy_tab}
use Rattle.browser_model.specs.Tidied.{prune_gaps, current_gaps}
use Rattle.browser_model.proofs.TabLaws.{TurnsTab, when, tab-one, tab-then, tab-nothing}
use Rattle.browser_model.proofs.GapLaws.{IsAt, tidy_pages, number_current}

-- the page that the view shows, by its index and by its number
found-at : (c last : ℤ) (ps : List (ℤ × Navigation)) → position_or_len (λ i. int_le c i) (map (λ p. p.0) ps) < length ps
    → IsAt (pos 0) (index_from c ps last) (position_or_len (λ i. int_le c i) (map (λ p. p.0) ps)) ps
found-at c last [] h = absurd (omega arith)
found-at c last (p ∷ ps) h = by (λ l. found-at c p.0 ps l) (int_le c p.0) refl
  where
    by : (position_or_len (λ i. int_le c i) (map (λ p. p.0) ps) < length ps
        → IsAt (pos 0) (index_from c ps p.0) (position_or_len (λ i. int_le c i) (map (λ p. p.0) ps)) ps) → (b : Bool)
        → int_le c p.0 ≡ b
        → IsAt (pos 0) (index_from c (p ∷ ps) last) (position_or_len (λ i. int_le c i) (map (λ p. p.0) (p ∷ ps)))
        (p ∷ ps)
    by rest true e = rw e (omega (arith, ints))
    by rest false e =
        let h' = rw e at h in
        let next : 1 + position_or_len (λ i. int_le c i) (map (λ p. p.0) ps)
        ≡ suc (position_or_len (λ i. int_le c i) (map (λ p. p.0) ps)) = omega arith in
        rw (e, next) (rest (omega arith))

last-at : (c last : ℤ) (p : ℤ × Navigation) (ps : List (ℤ × Navigation))
    → length (p ∷ ps) ≤ position_or_len (λ i. int_le c i) (map (λ p. p.0) (p ∷ ps))
    → IsAt (pos 0) (index_from c (p ∷ ps) last) (length ps) (p ∷ ps)
last-at c last p [] h = by (int_le c p.0) refl
  where
    by : (b : Bool) → int_le c p.0 ≡ b → IsAt (pos 0) (index_from c (p ∷ []) last) zero (p ∷ [])
    by true e = rw e (omega (arith, ints))
    by false e = rw e (omega (arith, ints))
last-at c last p (q ∷ ps) h = by (λ l. last-at c p.0 q ps l) (int_le c p.0) refl
  where
    by : (length (q ∷ ps) ≤ position_or_len (λ i. int_le c i) (map (λ p. p.0) (q ∷ ps))
        → IsAt (pos 0) (index_from c (q ∷ ps) p.0) (length ps) (q ∷ ps)) → (b : Bool) → int_le c p.0 ≡ b
        → IsAt (pos 0) (index_from c (p ∷ q ∷ ps) last) (suc (length ps)) (p ∷ q ∷ ps)
    by rest true e = let h' = rw e at h in absurd (omega arith)
    by rest false e = let h' = rw e at h in rw e (rest (omega arith))

pub current-at : (c last : ℤ) (ps : List (ℤ × Navigation)) → has_page ps ≡ true
    → IsAt (pos 0) (index_from c ps last) (first_from c (map (λ p. p.0) ps)) ps
current-at c last [] some = absurd cc
current-at c last (p ∷ ps) some = by (nat_lt j (length is)) refl
  where
    is : List ℤ
    is = map (λ (q : ℤ × Navigation). q.0) (p ∷ ps)

    j : ℕ
    j = position_or_len (λ i. int_le c i) (map (λ (q : ℤ × Navigation). q.0) (p ∷ ps))

    by : (b : Bool) → nat_lt (position_or_len (λ i. int_le c i) (map (λ (q : ℤ × Navigation). q.0) (p ∷ ps)))
        (length (map (λ (q : ℤ × Navigation). q.0) (p ∷ ps))) ≡ b
        → IsAt (pos 0) (index_from c (p ∷ ps) last) (first_from c (map (λ q. q.0) (p ∷ ps))) (p ∷ ps)
    by true e =
        let long = length-map (p ∷ ps) (λ (q : ℤ × Navigation). q.0) in
        let less : position_or_len (λ i. int_le c i) (map (λ (q : ℤ × Navigation). q.0) (p ∷ ps)) < length (p ∷ ps) =
        grind (arith, nat_tests) in
        rw e (found-at c last (p ∷ ps) less)
    by false e =
        let long = length-map (p ∷ ps) (λ (q : ℤ × Navigation). q.0) in
        let more : length (p ∷ ps) ≤ position_or_len (λ i. int_le c i) (map (λ (q : ℤ × Navigation). q.0) (p ∷ ps)) =
        grind (arith, nat_tests) in
        let long' = length-map ps (λ (q : ℤ × Navigation). q.0) in
        let minus : suc (length (map (λ (q : ℤ × Navigation). q.0) ps)) - 1 ≡ length ps = omega (arith, long') in
        rw (e, minus) (last-at c last p ps more)

-- the commands of one tab
abbrev gap_row : List (ℕ × ℤ) → Tab → Tab
gap_row gs x = record x { pages = prune_gaps gs x.pages; current = current_gaps gs x.current }

gap-turns : (id : ℤ) (gs : List (ℕ × ℤ)) → TurnsTab id (gap_row gs) (map (λ gap. Pruned id (pos gap.0) gap.1) gs)
gap-turns id [] = tab-nothing id
gap-turns id (gap ∷ gs) =
    tab-then id (λ x. record x {
      pages = prune (pos gap.0) gap.1 x.pages;
      current = current_pruned (pos gap.0) gap.1 x.current;
    }) (gap_row gs) (Pruned id (pos gap.0) gap.1 ∷ [])
    (map (λ gap. Pruned id (pos gap.0) gap.1) gs)
    (tab-one id (λ x. record x {
      pages = prune (pos gap.0) gap.1 x.pages;
      current = current_pruned (pos gap.0) gap.1 x.current;
    }) (Pruned id (pos gap.0) gap.1) (λ t. refl) (λ s. refl))
    (gap-turns id gs)

abbrev pub tidy_row : ℕ → Tab → Tab → Tab
tidy_row n t x =
    when (not (int_eq t.index (pos n))) (λ y. record y { index = pos n })
    (gap_row (gaps zero (pos 0) t.pages) (when (not (int_eq (current_index t) t.current))
    (λ y. record y { current = current_index t }) x))

unless-turns : (id : ℤ) (b : Bool) (f : Tab → Tab) (command : SessionCommand) → TurnsTab id f (command ∷ [])
    → TurnsTab id (when (not b) f) (unless b command)
unless-turns id true f command turns = tab-nothing id
unless-turns id false f command turns = turns

pub tidy-turns : (n : ℕ) (t : Tab) → TurnsTab t.info.id (tidy_row n t) (tidy_tab n t)
tidy-turns n t =
    let id = t.info.id in
    let to_current : Tab → Tab = λ y. record y { current = current_index t } in
    let to_index : Tab → Tab = λ y. record y { index = pos n } in
    let gs = gaps zero (pos 0) t.pages in
    tab-then id (when (not (int_eq (current_index t) t.current)) to_current)
    (λ x. when (not (int_eq t.index (pos n))) to_index (gap_row gs x))
    (unless (int_eq (current_index t) t.current) (SelectNavigation id (current_index t)))
    (map (λ gap. Pruned id (pos gap.0) gap.1) gs ++ unless (int_eq t.index (pos n)) (TabIndex id (pos n)))
    (unless-turns id (int_eq (current_index t) t.current) to_current (SelectNavigation id (current_index t))
    (tab-one id to_current (SelectNavigation id (current_index t)) (λ x. refl) (λ s. refl)))
    (tab-then id (gap_row gs) (when (not (int_eq t.index (pos n))) to_index)
    (map (λ gap. Pruned id (pos gap.0) gap.1) gs) (unless (int_eq t.index (pos n)) (TabIndex id (pos n)))
    (gap-turns id gs) (unless-turns id (int_eq t.index (pos n)) to_index (TabIndex id (pos n))
    (tab-one id to_index (TabIndex id (pos n)) (λ x. refl) (λ s. refl))))

-- what they make of the tab
when-differs : (a b : ℤ) (f : ℤ → Tab) → cond (not (int_eq a b)) (f a) (f b) ≡ f a
when-differs a b f = by (int_eq a b) refl
  where
    by : (c : Bool) → int_eq a b ≡ c → cond (not (int_eq a b)) (f a) (f b) ≡ f a
    by true e = let same : a ≡ b = same_key a b e in rw e (ap f (sym same))
    by false e = rw e refl

when-differs' : (a b : ℤ) (f : ℤ → Tab) → cond (not (int_eq b a)) (f a) (f b) ≡ f a
when-differs' a b f = by (int_eq b a) refl
  where
    by : (c : Bool) → int_eq b a ≡ c → cond (not (int_eq b a)) (f a) (f b) ≡ f a
    by true e = let same : b ≡ a = same_key b a e in rw e (ap f same)
    by false e = rw e refl

pub tidy-row-is : (n : ℕ) (t : Tab) → IsRising (pos 0) t.pages → has_page t.pages ≡ true
    → tidy_row n t t ≡ record t {
      index = pos n;
      current = pos (first_from t.current (map (λ page. page.0) t.pages));
      pages = numbered zero (map (λ page. page.1) t.pages);
    }
tidy-row-is n t rising some =
    let gs = gaps zero (pos 0) t.pages in
    let c = current_index t in
    let j = first_from t.current (map (λ page. page.0) t.pages) in
    let selected : when (not (int_eq c t.current)) (λ y. record y { current = c }) t ≡ record t { current = c } =
    when-differs c t.current (λ z. record t { current = z }) in
    let pages = tidy_pages t.pages rising in
    let current : current_gaps gs c ≡ pos j =
    number_current zero (pos 0) (pos 0) c j t.pages (omega (arith, ints)) rising
    (current-at t.current t.current t.pages some) ∙ plus j in
    let pruned : gap_row gs (record t { current = c })
    ≡ record t { pages = numbered zero (map (λ page. page.1) t.pages); current = pos j } =
    λ i. record t { pages = pages i; current = current i } in
    ap (λ x. when (not (int_eq t.index (pos n))) (λ y. record y { index = pos n }) (gap_row gs x)) selected
    ∙ ap (when (not (int_eq t.index (pos n))) (λ y. record y { index = pos n })) pruned
    ∙ when-differs' (pos n) t.index (λ z. record t
    { index = z; pages = numbered zero (map (λ page. page.1) t.pages); current = pos j })
  where
    plus : (m : ℕ) → pos (zero + m) ≡ pos m
    plus m = omega (arith, ints)
