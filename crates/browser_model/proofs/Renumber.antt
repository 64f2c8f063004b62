-- Tabs are told their places, one after another: each then has its place, and others are left.
use Rattle.std.proofs.Common.{◌≡◌, ℕ, zero, suc, Bool, true, false, ℤ, pos, List, [], ◌∷◌, ◌++◌, map, refl, sym, ap}
use Rattle.std.proofs.Common.{◌∙◌}
use Rattle.std.specs.Ordering.{int_cmp, is_eq}
use Rattle.std.proofs.lemmas.List.{append-nil}
use Rattle.std.proofs.lemmas.List.Elements.{filter-append}
use Rattle.session_commands.specs.declared.command.SessionCommand.TheVariants.{TabIndex}
use Rattle.window_state.specs.declared.tab.Tab.{Tab}
use Rattle.window_state.specs.Keys.{tab_key}
use Rattle.window_state.specs.RowLists.{only}
use Rattle.window_state.specs.TabLists.{under, AtMostOne}
use Rattle.window_state.proofs.IdLaws.{equals_itself, same_key, flip}
use Rattle.window_state.proofs.OnlyLaws.{only-map}
use Rattle.browser_model.specs.Browsers.{BrowserTab, own_id, row_of, stands_from}
use Rattle.browser_model.specs.Tabs.{places}
use Rattle.browser_model.proofs.Turns.{Turns, on, on-key, turns-none, turns-one, turns-then}

abbrev pub rows_from : ℤ → ℕ → List BrowserTab → List Tab
rows_from window n tabs = map row_of (stands_from window n tabs)

abbrev pub at_place : ℕ → Tab → Tab
at_place n t = record t { index = pos n }

abbrev pub renumber : ℕ → List BrowserTab → Tab → Tab
renumber n [] t = t
renumber n (u ∷ us) t = renumber (suc n) us (on u.info.id (at_place n) t)

-- all of them stand
abbrev pub AllHave : (ℤ → Type 0) → List BrowserTab → Type 0
AllHave has [] = Unit {0}
AllHave has (u ∷ us) = has u.info.id × AllHave has us

pub turns-places : (has open_ : ℤ → Type 0) (n : ℕ) (us : List BrowserTab) → AllHave has us
    → Turns has open_ (renumber n us) (places n us)
turns-places has open_ n [] all = turns-none has open_
turns-places has open_ n (u ∷ us) all =
    turns-then has open_ (on u.info.id (at_place n)) (renumber (suc n) us) (TabIndex u.info.id (pos n) ∷ [])
    (places (suc n) us)
    (turns-one has open_ u.info.id (at_place n) (TabIndex u.info.id (pos n)) (λ t. refl) all.0 (λ s. refl))
    (turns-places has open_ (suc n) us all.1)

module _ (id : ℤ) where
  -- tabs under id no other keys are left
  pub renumber-none : (n : ℕ) (us : List BrowserTab) (x : Tab) → tab_key x ≡ id → only int_cmp own_id id us ≡ []
      → renumber n us x ≡ x
  renumber-none n [] x own none = refl
  renumber-none n (u ∷ us) x own none = by (renumber-none (suc n) us x own) (is_eq (int_cmp id u.info.id)) refl
    where
      by : (only int_cmp own_id id us ≡ [] → renumber (suc n) us x ≡ x) → (b : Bool) → is_eq (int_cmp id u.info.id) ≡ b
          → renumber n (u ∷ us) x ≡ x
      by rest true e = let none' : u ∷ only int_cmp own_id id us ≡ [] = rw e at none in absurd cc
      by rest false e =
          let other : is_eq (int_cmp u.info.id (tab_key x)) ≡ false = rw own (flip id u.info.id e) in
          rw other (rest (rw e at none))

  -- a tab under id its key gets its place
  pub renumber-one : (window : ℤ) (n : ℕ) (us : List BrowserTab) (x r : Tab) → tab_key x ≡ id
      → under id (rows_from window n us) ≡ r ∷ [] → renumber n us x ≡ record x { index = r.index }
  renumber-one window n [] x r own one = absurd cc
  renumber-one window n (u ∷ us) x r own one =
      by (renumber-one window (suc n) us x r own) (is_eq (int_cmp id u.info.id)) refl
    where
      none-of : (m : ℕ) (vs : List BrowserTab) → under id (rows_from window m vs) ≡ [] → only int_cmp own_id id vs ≡ []
      none-of m [] none = refl
      none-of m (v ∷ vs) none = by (none-of (suc m) vs) (is_eq (int_cmp id v.info.id)) refl
        where
          by : (under id (rows_from window (suc m) vs) ≡ [] → only int_cmp own_id id vs ≡ []) → (b : Bool)
              → is_eq (int_cmp id v.info.id) ≡ b → only int_cmp own_id id (v ∷ vs) ≡ []
          by rest true e = let none' : row_of (record { window = window; place = m; tab = v }) ∷ under id
              (rows_from window (suc m) vs) ≡ [] = rw e at none in absurd cc
          by rest false e = rw e (rest (rw e at none))

      by : (under id (rows_from window (suc n) us) ≡ r ∷ [] → renumber (suc n) us x ≡ record x { index = r.index })
          → (b : Bool) → is_eq (int_cmp id u.info.id) ≡ b → renumber n (u ∷ us) x ≡ record x { index = r.index }
      by rest true e =
          let one' : row_of (record { window = window; place = n; tab = u }) ∷ under id (rows_from window (suc n) us)
          ≡ r ∷ [] = rw e at one in
          let none : under id (rows_from window (suc n) us) ≡ [] = cc in
          let first : row_of (record { window = window; place = n; tab = u }) ≡ r = cc in
          let mine : is_eq (int_cmp u.info.id (tab_key x)) ≡ true =
          rw (own, same_key id u.info.id e) (equals_itself u.info.id) in
          rw mine (renumber-none (suc n) us (at_place n x) own (none-of (suc n) us none)
          ∙ ap (λ (t : Tab). record x { index = t.index }) first)
      by rest false e =
          let other : is_eq (int_cmp u.info.id (tab_key x)) ≡ false = rw own (flip id u.info.id e) in
          rw other (rest (rw e at one))

  pub mid-out : (a q b : List Tab) → AtMostOne (a ++ (q ++ b)) → a ++ (q ++ b) ≡ (a ++ b) ++ q
  mid-out [] [] b one = sym (append-nil b)
  mid-out [] (x ∷ q) b one = by b one
    where
      by : (b : List Tab) → q ++ b ≡ [] → x ∷ q ++ b ≡ b ++ x ∷ q
      by [] none = ap (λ xs. x ∷ xs) (append-nil q)
      by (y ∷ b) none = absurd (no q none)
        where
          no : (q : List Tab) → q ++ y ∷ b ≡ [] → ⊥
          no [] none = absurd cc
          no (z ∷ q) none = absurd cc
  mid-out (x ∷ a) q b one = ap (λ xs. x ∷ xs) (rest a q b one)
    where
      rest : (a q b : List Tab) → a ++ (q ++ b) ≡ [] → a ++ (q ++ b) ≡ (a ++ b) ++ q
      rest [] [] [] none = refl
      rest [] [] (y ∷ b) none = absurd cc
      rest [] (z ∷ q) b none = absurd cc
      rest (y ∷ a) q b none = absurd cc

  -- the key of what stands under id it
  pub first-key : (xs : List Tab) (r : Tab) (rest : List Tab) → under id xs ≡ r ∷ rest → tab_key r ≡ id
  first-key [] r rest is = absurd cc
  first-key (x ∷ xs) r rest is = by (first-key xs r rest) (is_eq (int_cmp id (tab_key x))) refl
    where
      by : (under id xs ≡ r ∷ rest → tab_key r ≡ id) → (b : Bool) → is_eq (int_cmp id (tab_key x)) ≡ b → tab_key r ≡ id
      by more true e =
          let is' : x ∷ under id xs ≡ r ∷ rest = rw e at is in
          let same : x ≡ r = cc in
          ap tab_key (sym same) ∙ sym (same_key id (tab_key x) e)
      by more false e = more (rw e at is)

  -- a change that leaves what stands under id the key
  pub left-under : (g : Tab → Tab) → ((t : Tab) → tab_key t ≡ id → g t ≡ t) → (xs : List Tab)
      → map g (under id xs) ≡ under id xs
  left-under g left [] = refl
  left-under g left (x ∷ xs) = by (left-under g left xs) (is_eq (int_cmp id (tab_key x))) refl
    where
      by : map g (under id xs) ≡ under id xs → (b : Bool) → is_eq (int_cmp id (tab_key x)) ≡ b
          → map g (under id (x ∷ xs)) ≡ under id (x ∷ xs)
      by rest true e = rw e (rw (left x (sym (same_key id (tab_key x) e))) (ap (λ ys. x ∷ ys) rest))
      by rest false e = rw e rest

  pub none-under : (window : ℤ) (n : ℕ) (us : List BrowserTab) → under id (rows_from window n us) ≡ []
      → only int_cmp own_id id us ≡ []
  none-under window n [] none = refl
  none-under window n (u ∷ us) none = by (none-under window (suc n) us) (is_eq (int_cmp id u.info.id)) refl
    where
      by : (under id (rows_from window (suc n) us) ≡ [] → only int_cmp own_id id us ≡ []) → (b : Bool)
          → is_eq (int_cmp id u.info.id) ≡ b → only int_cmp own_id id (u ∷ us) ≡ []
      by rest true e = let none' : row_of (record { window = window; place = n; tab = u }) ∷ under id
          (rows_from window (suc n) us) ≡ [] = rw e at none in absurd cc
      by rest false e = rw e (rest (rw e at none))

  pub under-none : (window : ℤ) (n : ℕ) (us : List BrowserTab) → only int_cmp own_id id us ≡ []
      → under id (rows_from window n us) ≡ []
  under-none window n [] none = refl
  under-none window n (u ∷ us) none = by (under-none window (suc n) us) (is_eq (int_cmp id u.info.id)) refl
    where
      by : (only int_cmp own_id id us ≡ [] → under id (rows_from window (suc n) us) ≡ []) → (b : Bool)
          → is_eq (int_cmp id u.info.id) ≡ b → under id (rows_from window n (u ∷ us)) ≡ []
      by rest true e = let none' : u ∷ only int_cmp own_id id us ≡ [] = rw e at none in absurd cc
      by rest false e = rw e (rest (rw e at none))

-- a tab without its place
abbrev pub unplaced : Tab → Tab
unplaced t = record t { index = pos zero }

pub renumber-key : (n : ℕ) (us : List BrowserTab) (t : Tab) → tab_key (renumber n us t) ≡ tab_key t
renumber-key n [] t = refl
renumber-key n (u ∷ us) t = renumber-key (suc n) us (on u.info.id (at_place n) t)
    ∙ on-key u.info.id (at_place n) (λ x. refl) t

nothing : (ys : List Tab) → [] ≡ map unplaced ys → ys ≡ []
nothing [] e = refl
nothing (y ∷ ys) e = absurd cc

-- tabs that stand among others get their places, and the others are left
pub renumbered : (id window : ℤ) (n : ℕ) (us : List BrowserTab) (a x b : List Tab)
    → map unplaced (under id x) ≡ map unplaced (under id (rows_from window n us)) → AtMostOne (under id (a ++ (x ++ b)))
    → under id (map (renumber n us) (a ++ (x ++ b))) ≡ under id (a ++ (rows_from window n us ++ b))
renumbered id window n us a x b alike one =
    only-map int_cmp tab_key (renumber n us) (renumber-key n us) id (a ++ (x ++ b))
    ∙ by (under id x) refl (under id (rows_from window n us)) refl alike
  where
    parts : (y : List Tab) → under id (a ++ (y ++ b)) ≡ under id a ++ (under id y ++ under id b)
    parts y = filter-append (λ t. is_eq (int_cmp id (tab_key t))) a (y ++ b)
        ∙ ap (λ z. under id a ++ z) (filter-append (λ t. is_eq (int_cmp id (tab_key t))) y b)

    lone : (p q : List Tab) (x1 : Tab) (xs : List Tab) → AtMostOne (p ++ ((x1 ∷ xs) ++ q))
        → (p ≡ []) × (xs ≡ []) × (q ≡ [])
    lone [] q x1 xs h = by xs q h
      where
        by : (xs q : List Tab) → xs ++ q ≡ [] → (◌≡◌ {A = List Tab} [] []) × (xs ≡ []) × (q ≡ [])
        by [] [] h = (refl, refl, refl)
        by [] (y ∷ q) h = absurd cc
        by (y ∷ xs) q h = absurd cc
    lone (y ∷ p) q x1 xs h = absurd (no p h)
      where
        no : (p : List Tab) → p ++ ((x1 ∷ xs) ++ q) ≡ [] → ⊥
        no [] h = absurd cc
        no (z ∷ p) h = absurd cc

    by : (X : List Tab) → under id x ≡ X → (Y : List Tab) → under id (rows_from window n us) ≡ Y
        → map unplaced (under id x) ≡ map unplaced (under id (rows_from window n us))
        → map (renumber n us) (under id (a ++ (x ++ b))) ≡ under id (a ++ (rows_from window n us ++ b))
    by [] xis Y yis same =
        let none : under id (rows_from window n us) ≡ [] =
        nothing (under id (rows_from window n us)) (ap (map unplaced) (sym xis) ∙ same) in
        left-under id (renumber n us) (λ t own. renumber-none id n us t own (none-under id window n us none))
        (a ++ (x ++ b))
        ∙ parts x ∙ ap (λ y. under id a ++ (y ++ under id b)) (xis ∙ sym none) ∙ sym (parts (rows_from window n us))
    by (x1 ∷ xs) xis [] yis same =
        let same' : map unplaced (x1 ∷ xs) ≡ map unplaced [] = ap (map unplaced) (sym xis) ∙ same
        ∙ ap (map unplaced) yis in
        absurd cc
    by (x1 ∷ xs) xis (y1 ∷ ys) yis same =
        let one' : AtMostOne (under id a ++ ((x1 ∷ xs) ++ under id b)) = rw (parts x, xis) at one in
        let l = lone (under id a) (under id b) x1 xs one' in
        let same' : map unplaced (x1 ∷ xs) ≡ map unplaced (y1 ∷ ys) = ap (map unplaced) (sym xis) ∙ same
        ∙ ap (map unplaced) yis in
        let no_more : [] ≡ map unplaced ys = ap (map unplaced) (sym l.1) ∙ cc in
        let ys_is : ys ≡ [] = nothing ys no_more in
        let bare : unplaced x1 ≡ unplaced y1 = cc in
        let told : renumber n us x1 ≡ record x1 { index = y1.index } =
        renumber-one id window n us x1 y1 (first-key id x x1 xs xis) (yis ∙ ap (λ zs. y1 ∷ zs) ys_is) in
        let made : renumber n us x1 ≡ y1 = told ∙ ap (λ (t : Tab). record t { index = y1.index }) bare in
        let here : under id a ++ ((x1 ∷ xs) ++ under id b) ≡ x1 ∷ [] = rw (l.0, l.1, l.2) refl in
        let there : under id a ++ ((y1 ∷ ys) ++ under id b) ≡ y1 ∷ [] = rw (l.0, ys_is, l.2) refl in
        ap (map (renumber n us)) (parts x ∙ ap (λ z. under id a ++ (z ++ under id b)) xis ∙ here)
        ∙ ap (λ z. z ∷ []) made
        ∙ sym (parts (rows_from window n us) ∙ ap (λ z. under id a ++ (z ++ under id b)) yis ∙ there)
