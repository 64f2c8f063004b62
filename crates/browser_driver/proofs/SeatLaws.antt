-- Which orders agree with windows after their tabs changed.
use Rattle.std.proofs.Common.{◌≡◌, suc, ◌<◌, Bool, true, false, ℤ, List, [], ◌∷◌, ◌++◌, map, filter, drop, length}
use Rattle.std.proofs.Common.{remove, if◌then◌else◌, refl, sym, ap, subst, ◌∙◌, arith}
use Rattle.std.specs.Ordering.{int_cmp, is_eq}
use Rattle.std.proofs.lemmas.List.{length-append, length-map, map-append}
use Rattle.window_state.specs.RowLists.{on_key}
use Rattle.window_state.proofs.IdLaws.{equals_itself, same_key, flip}
use Rattle.browser_model.specs.Browsers.{BrowserWindow, BrowserTab, Stand, own_id, open_key}
use Rattle.browser_model.specs.Tabs.{tabs_of, with_tabs, put_tab, taken_out, is_other}
use Rattle.browser_model.proofs.Splits.{Split, InOrder, own-tabs, others-stay, taken-split}
use Rattle.browser_driver.specs.Orders.{order_of, SetsOrder}
use Rattle.browser_driver.specs.Held.{AreSeated}
use Rattle.browser_driver.specs.SeatPlans.{set_order}

-- the tabs of a window where those of each window changed
pub tabs-mapped : (change : List BrowserTab → List BrowserTab) → change [] ≡ [] → (w : ℤ) (ws : List BrowserWindow)
    → tabs_of w (map (with_tabs change) ws) ≡ change (tabs_of w ws)
tabs-mapped change none w [] = sym none
tabs-mapped change none w (v ∷ ws) = by (tabs-mapped change none w ws) (is_eq (int_cmp w (open_key v))) refl
  where
    by : tabs_of w (map (with_tabs change) ws) ≡ change (tabs_of w ws) → (b : Bool)
        → is_eq (int_cmp w (open_key v)) ≡ b → tabs_of w (map (with_tabs change) (v ∷ ws)) ≡ change (tabs_of w (v ∷ ws))
    by rest true e = rw e refl
    by rest false e = rw e rest

-- a tab that becomes another with its id
pub ids-put : (id : ℤ) (new : BrowserTab) → own_id new ≡ id → (ts : List BrowserTab)
    → map own_id (map (on_key int_cmp own_id id (λ t. new)) ts) ≡ map own_id ts
ids-put id new own [] = refl
ids-put id new own (t ∷ ts) = by (ids-put id new own ts) (is_eq (int_cmp id (own_id t))) refl
  where
    by : map own_id (map (on_key int_cmp own_id id (λ t. new)) ts) ≡ map own_id ts → (b : Bool)
        → is_eq (int_cmp id (own_id t)) ≡ b
        → map own_id (map (on_key int_cmp own_id id (λ t. new)) (t ∷ ts)) ≡ map own_id (t ∷ ts)
    by rest true e =
        let is : own_id new ≡ own_id t = own ∙ same_key id (own_id t) e in
        rw (e, rest) (ap (λ j. j ∷ map own_id ts) is)
    by rest false e = rw (e, rest) refl

pub seated-put : (orders : List (ℤ × List ℤ)) (ws : List BrowserWindow) (id : ℤ) (new : BrowserTab) → own_id new ≡ id
    → AreSeated orders ws → AreSeated orders (put_tab id new ws)
seated-put orders ws id new own seated w =
    seated w ∙ sym (ap (map own_id) (tabs-mapped (map (on_key int_cmp own_id id (λ t. new))) refl w ws)
    ∙ ids-put id new own (tabs_of w ws))

-- a window beside one that changed
pub tabs-beside : (w : ℤ) (before : List BrowserWindow) (own new : BrowserWindow) (after : List BrowserWindow)
    → open_key new ≡ open_key own → is_eq (int_cmp w (open_key own)) ≡ false
    → tabs_of w (before ++ new ∷ after) ≡ tabs_of w (before ++ own ∷ after)
tabs-beside w [] own new after key apart =
    let apart' : is_eq (int_cmp w (open_key new)) ≡ false = rw key apart in
    rw (apart, apart') refl
tabs-beside w (v ∷ before) own new after key apart =
    by (tabs-beside w before own new after key apart) (is_eq (int_cmp w (open_key v))) refl
  where
    by : tabs_of w (before ++ new ∷ after) ≡ tabs_of w (before ++ own ∷ after) → (b : Bool)
        → is_eq (int_cmp w (open_key v)) ≡ b
        → tabs_of w (v ∷ before ++ new ∷ after) ≡ tabs_of w (v ∷ before ++ own ∷ after)
    by rest true e = rw e refl
    by rest false e = rw e rest

-- an element among others goes
pub remove-here : (pre post : List ℤ) (x : ℤ) → remove (pre ++ x ∷ post) (length pre) ≡ pre ++ post
remove-here [] post x = refl
remove-here (y ∷ pre) post x = ap (λ ids. y ∷ ids) (remove-here pre post x)

pub drop-here : (pre post : List ℤ) (x : ℤ) → drop (suc (length pre)) (pre ++ x ∷ post) ≡ post
drop-here [] post x = refl
drop-here (y ∷ pre) post x = drop-here pre post x

module _ (orders : List (ℤ × List ℤ)) (id : ℤ) (ws : List BrowserWindow) (st : Stand) (p : Split id ws st)
    (sorted : InOrder ws) (seated : AreSeated orders ws) where
  -- the order of the tab's window, around the tab
  pub order-is : order_of st.window orders ≡ map own_id p.tab.pre ++ id ∷ map own_id p.tab.post
  order-is =
      seated st.window ∙ ap (map own_id) (own-tabs id ws st p sorted)
      ∙ map-append own_id p.tab.pre (st.tab ∷ p.tab.post)
      ∙ ap (λ j. map own_id p.tab.pre ++ j ∷ map own_id p.tab.post) (sym p.tab.key)

  pub place-is : st.place ≡ length (map own_id p.tab.pre)
  place-is =
      let e = p.tab.place in
      let n : st.place ≡ length p.tab.pre = omega (arith, e) in
      n ∙ sym (length-map p.tab.pre own_id)

  pub place-within : st.place < length (order_of st.window orders)
  place-within =
      let whole = ap length order-is ∙ length-append (map own_id p.tab.pre) (id ∷ map own_id p.tab.post) in
      let here = place-is in
      omega (arith, whole, here)

  pub later-order : drop (suc st.place) (order_of st.window orders) ≡ map own_id p.tab.post
  later-order =
      ap (drop (suc st.place)) order-is
      ∙ ap (λ n. drop (suc n) (map own_id p.tab.pre ++ id ∷ map own_id p.tab.post)) place-is
      ∙ drop-here (map own_id p.tab.pre) (map own_id p.tab.post) id

  others-left : filter (is_other id) (p.tab.pre ++ st.tab ∷ p.tab.post) ≡ p.tab.pre ++ p.tab.post
  others-left =
      let gone : is_other id st.tab ≡ false = rw (sym p.tab.key, equals_itself id) refl in
      filter-around p.tab.pre gone
      ∙ ap (λ ts. ts ++ filter (is_other id) p.tab.post) (others-stay id p.tab.pre p.tab.none_pre)
      ∙ ap (λ ts. p.tab.pre ++ ts) (others-stay id p.tab.post p.tab.none_post)
    where
      filter-around : (pre : List BrowserTab) → is_other id st.tab ≡ false
          → filter (is_other id) (pre ++ st.tab ∷ p.tab.post)
          ≡ filter (is_other id) pre ++ filter (is_other id) p.tab.post
      filter-around [] gone = rw gone refl
      filter-around (t ∷ pre) gone = by (filter-around pre gone) (is_other id t) refl
        where
          by : filter (is_other id) (pre ++ st.tab ∷ p.tab.post)
              ≡ filter (is_other id) pre ++ filter (is_other id) p.tab.post
              → (b : Bool) → is_other id t ≡ b
              → filter (is_other id) (t ∷ pre ++ st.tab ∷ p.tab.post)
              ≡ filter (is_other id) (t ∷ pre) ++ filter (is_other id) p.tab.post
          by rest true e = rw e (ap (λ ts. t ∷ ts) rest)
          by rest false e = rw e rest

  -- the orders without the tab
  pub order-taken : (w : ℤ) → set_order st.window (remove (order_of st.window orders) st.place) orders w
      ≡ map own_id (tabs_of w (taken_out id ws))
  order-taken w = by (is_eq (int_cmp st.window w)) refl
    where
      by : (b : Bool) → is_eq (int_cmp st.window w) ≡ b
          → (if b then remove (order_of st.window orders) st.place else order_of w orders)
          ≡ map own_id (tabs_of w (taken_out id ws))
      by true e =
          ap (λ ids. remove ids st.place) order-is
          ∙ ap (remove (map own_id p.tab.pre ++ id ∷ map own_id p.tab.post)) place-is
          ∙ remove-here (map own_id p.tab.pre) (map own_id p.tab.post) id
          ∙ sym (map-append own_id p.tab.pre p.tab.post)
          ∙ sym (ap (map own_id) others-left)
          ∙ sym (ap (λ ts. map own_id (filter (is_other id) ts)) (own-tabs id ws st p sorted))
          ∙ sym (ap (map own_id) (tabs-mapped (filter (is_other id)) refl st.window ws))
          ∙ ap (λ v. map own_id (tabs_of v (taken_out id ws))) (same_key st.window w e)
      by false e =
          let apart : is_eq (int_cmp w (open_key p.own)) ≡ false =
          subst (λ v. is_eq (int_cmp w v) ≡ false) p.tab.window_is (flip st.window w e) in
          let split_is : tabs_of w ws ≡ tabs_of w (p.before ++ p.own ∷ p.after) = ap (tabs_of w) p.is in
          seated w ∙ ap (map own_id) (split_is
          ∙ sym (tabs-beside w p.before p.own (with_tabs (λ tabs. p.tab.pre ++ p.tab.post) p.own) p.after refl apart)
          ∙ sym (ap (tabs_of w) (taken-split id ws st p)))

  pub seated-taken : (new : List (ℤ × List ℤ))
      → SetsOrder st.window (remove (order_of st.window orders) st.place) orders new
      → AreSeated new (taken_out id ws)
  seated-taken new sets w = sets w ∙ order-taken w
