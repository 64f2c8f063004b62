-- A tab that is changed in its place, whether it stands or not.
use Rattle.std.proofs.Common.{◌≡◌, ℤ, true, Option, Some, None, is_some, map, refl, sym, ap, ◌∙◌}
use Rattle.std.specs.Cmp.{int_cmp_total}
use Rattle.std.specs.Ordering.{int_cmp}
use Rattle.std.proofs.lemmas.Map.Lookups.{exact_signed}
use Rattle.window_state.specs.declared.change.TabEdit.{TabEdit}
use Rattle.window_state.specs.declared.tab.Tab.{Tab}
use Rattle.window_state.specs.Changes.{edited_tab, new_tab}
use Rattle.window_state.specs.Keys.{tab_key}
use Rattle.window_state.specs.RowLists.{find_row, on_key}
use Rattle.window_state.specs.States.{State, IsState, on_tab}
use Rattle.window_state.proofs.EditLaws.{room-standing}
use Rattle.window_state.proofs.OnlyLaws.{step-map}
use Rattle.window_state.proofs.StateEditLaws.{absent-tab, standing-tab}
use Rattle.window_state.proofs.StateLaws.{room-tab}
use Rattle.browser_driver.specs.Plans.{with_edit}

pub edited-is : (id : ℤ) (edit : TabEdit) (s new : State) → IsState s
    → (is_some (find_row int_cmp tab_key id s.tabs) ≡ true → new ≡ on_tab id (edited_tab edit) s)
    → (find_row int_cmp tab_key id s.tabs ≡ None → new ≡ s) → new ≡ with_edit id edit s
edited-is id edit s new known stands absent = by (find_row int_cmp tab_key id s.tabs) refl
  where
    by : (o : Option Tab) → find_row int_cmp tab_key id s.tabs ≡ o → new ≡ with_edit id edit s
    by None e = absent e ∙ sym (absent-tab id edit s e)
    by (Some t) e =
        let found : is_some (find_row int_cmp tab_key id s.tabs) ≡ true = ap is_some e in
        stands found ∙ sym (standing-tab id edit s known.ordered.tabs found known.kept)

-- a tab that stands is changed in its place
pub changed-is : (id : ℤ) (change : Tab → Tab) (s : State) → IsState s
    → is_some (find_row int_cmp tab_key id s.tabs) ≡ true
    → on_tab id change s ≡ record s { tabs = map (on_key int_cmp tab_key id change) s.tabs }
changed-is id change s known found =
    let sorted = known.ordered.tabs in
    sym (room-tab id change s
    (room-standing int_cmp tab_key int_cmp_total exact_signed id (new_tab id) change s.tabs sorted found
    known.kept.tabs)
    known.kept.windows)
    ∙ ap (λ tabs. record s { tabs = tabs })
    (step-map int_cmp tab_key int_cmp_total exact_signed id (new_tab id) change s.tabs sorted found)
