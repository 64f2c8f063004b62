-- Whether the active window is shown, by whether it stands and what is shown in it.
use Rattle.std.proofs.Common.{◌≡◌, Bool, true, false, ◌&&◌, is_some, ℤ, List, [], ◌∷◌, Option, Some, refl, sym}
use Rattle.std.proofs.Common.{ap, ◌∙◌, arith}
use Rattle.std.specs.Ordering.{int_cmp, int_eq, is_eq}
use Rattle.std.proofs.lemmas.Int.{ints}
use Rattle.tab_pages.specs.PageLists.{has_page}
use Rattle.window_state.specs.declared.tab.Tab.{Tab}
use Rattle.window_state.specs.declared.window.Window.{Window}
use Rattle.window_state.specs.Keys.{window_key}
use Rattle.window_state.specs.RowLists.{find_row}
use Rattle.window_state.specs.Views.{view_windows, with_shown}
use Rattle.window_state.proofs.IdLaws.{same_key}
use Rattle.session_tidying.specs.Active.{is_listed}

same_test : (x y : ℤ) → int_eq x y ≡ is_eq (int_cmp y x)
same_test x y = grind (arith, ints)

-- a window is shown where it stands and has shown tabs
listed : (f : ℤ → List Tab) (ws : List Window) (id : ℤ)
    → is_listed (Some id) (view_windows f ws) ≡ is_some (find_row int_cmp window_key id ws) && has_page (f id)
listed f [] id = refl
listed f (w ∷ ws) id =
    by (listed f ws id) (λ same. ap (λ x. has_page (f x)) (sym (same_key id w.info.id same))) (f w.info.id)
    (is_eq (int_cmp id w.info.id)) refl refl
  where
    by : is_listed (Some id) (view_windows f ws) ≡ is_some (find_row int_cmp window_key id ws) && has_page (f id)
        → (is_eq (int_cmp id w.info.id) ≡ true → has_page (f w.info.id) ≡ has_page (f id))
        → (tabs : List Tab) (b : Bool) → is_eq (int_cmp id w.info.id) ≡ b → has_page (f w.info.id) ≡ has_page tabs
        → is_listed (Some id) (with_shown w tabs (view_windows f ws))
        ≡ is_some (find_row int_cmp window_key id (w ∷ ws)) && has_page (f id)
    by rest own [] true e has =
        let hidden : has_page (f id) ≡ false = sym (own e) ∙ has in
        let stands = is_some (find_row int_cmp window_key id ws) in
        rw (e, hidden) (rest ∙ ap (λ b. stands && b) hidden ∙ none stands)
      where
        none : (b : Bool) → b && false ≡ false
        none true = refl
        none false = refl
    by rest own [] false e has = rw e rest
    by rest own (t ∷ ts) true e has =
        let seen : has_page (f id) ≡ true = sym (own e) ∙ has in
        let here : int_eq w.info.id id ≡ true = same_test w.info.id id ∙ e in
        rw (e, seen, here) refl
    by rest own (t ∷ ts) false e has =
        let other : int_eq w.info.id id ≡ false = same_test w.info.id id ∙ e in
        rw (e, other) rest

-- the same of the active window, where one is set
pub active-listed : (f : ℤ → List Tab) (ws : List Window) (active : Option ℤ) (id : ℤ) → active ≡ Some id
    → is_listed active (view_windows f ws) ≡ is_some (find_row int_cmp window_key id ws) && has_page (f id)
active-listed f ws active id is = ap (λ a. is_listed a (view_windows f ws)) is ∙ listed f ws id
