-- What a state is when one of its tabs or windows is changed in its place.
use Rattle.std.proofs.Common.{◌≡◌, ℤ, true, None, is_some, map, FitsSigned, w32, List, ap, sym, ◌∙◌}
use Rattle.std.specs.Ordering.{int_cmp}
use Rattle.std.specs.List.Sorted.{IsStrictlySortedBy}
use Rattle.std.specs.Cmp.{int_cmp_total}
use Rattle.std.proofs.lemmas.Map.Lookups.{exact_signed}
use Rattle.window_state.specs.declared.change.TabEdit.{TabEdit}
use Rattle.window_state.specs.declared.change.WindowEdit.{WindowEdit}
use Rattle.window_state.specs.RowLists.{find_row, on_key}
use Rattle.window_state.specs.Keys.{tab_key, window_key}
use Rattle.window_state.specs.Changes.{new_tab, new_window, edit_change, edited_tab, window_edit_change, edited_window}
use Rattle.window_state.specs.Ranges.{IsTabChangeInRange, IsWindowChangeInRange}
use Rattle.window_state.specs.States.{State, IsKept, IsStateInRange, on_tab, on_window}
use Rattle.window_state.specs.Members.{IsHeld, IsHeldInRange}
use Rattle.window_state.proofs.EditLaws.{edited, map-none, room-standing}
use Rattle.window_state.proofs.OnlyLaws.{step-map}
use Rattle.window_state.proofs.ChangeLaws.{kept-changed_tab, kept-changed_window, tab_stays, window_key_stays}
use Rattle.window_state.proofs.ChangeLaws.{tab_edit-fits, window_edit-fits}
use Rattle.window_state.proofs.StateLaws.{kept-window, room-tab, room-window}
use Rattle.window_state.proofs.MemberLaws.{held-changed}
use Rattle.window_state.proofs.RangeLaws.{changed_tab-in_range, changed_window-in_range, tab-in_range, window-in_range}

module _ (id : ℤ) (edit : TabEdit) (s : State) where
  -- the state behind the edit
  abbrev pub tab_edited : State
  tab_edited = record s { tabs = map (on_key int_cmp tab_key id (edited_tab edit)) s.tabs }

  pub absent-tab : find_row int_cmp tab_key id s.tabs ≡ None → tab_edited ≡ s
  absent-tab absent =
      ap (λ tabs. record s { tabs = tabs }) (map-none int_cmp tab_key id (edited_tab edit) s.tabs absent)

  module _ (sorted : IsStrictlySortedBy int_cmp (map tab_key s.tabs)) where
    pub standing-tab : is_some (find_row int_cmp tab_key id s.tabs) ≡ true → IsKept s
        → tab_edited ≡ on_tab id (edited_tab edit) s
    standing-tab found kept =
        let change = edited_tab edit in
        ap (λ tabs. record s { tabs = tabs })
        (sym (step-map int_cmp tab_key int_cmp_total exact_signed id (new_tab id) change s.tabs sorted found))
        ∙ room-tab id change s
        (room-standing int_cmp tab_key int_cmp_total exact_signed id (new_tab id) change s.tabs sorted found kept.tabs)
        kept.windows

    pub held-tab : (pairs : List (ℤ × ℤ)) → FitsSigned w32 id → IsTabChangeInRange (edit_change edit)
        → IsHeldInRange pairs s → IsHeldInRange pairs tab_edited
    held-tab pairs fits ranged h =
        let change = edited_tab edit in
        let room = room-standing int_cmp tab_key int_cmp_total exact_signed id (new_tab id) change s.tabs sorted in
        let keep = edited int_cmp tab_key int_cmp_total exact_signed id (new_tab id) change s.tabs sorted in
        record {
          held = keep (λ tabs. IsHeld pairs (record s { tabs = tabs })) h.held
              (λ found. held-changed id change pairs s
              (λ t. kept-changed_tab (edit_change edit) t (tab_edit-fits edit)) (tab_stays (edit_change edit))
              (room found h.held.kept.tabs) sorted h.held);
          ranged = keep (λ tabs. IsStateInRange (record s { tabs = tabs })) h.ranged
              (λ found. tab-in_range id change s fits (λ t. changed_tab-in_range (edit_change edit) t ranged) h.ranged);
        }

module _ (id : ℤ) (edit : WindowEdit) (s : State) where
  abbrev pub window_edited : State
  window_edited = record s { windows = map (on_key int_cmp window_key id (edited_window edit)) s.windows }

  pub absent-window : find_row int_cmp window_key id s.windows ≡ None → window_edited ≡ s
  absent-window absent =
      ap (λ windows. record s { windows = windows })
      (map-none int_cmp window_key id (edited_window edit) s.windows absent)

  module _ (sorted : IsStrictlySortedBy int_cmp (map window_key s.windows)) where
    pub standing-window : is_some (find_row int_cmp window_key id s.windows) ≡ true → IsKept s
        → window_edited ≡ on_window id (edited_window edit) s
    standing-window found kept =
        let change = edited_window edit in
        ap (λ windows. record s { windows = windows })
        (sym (step-map int_cmp window_key int_cmp_total exact_signed id (new_window id) change s.windows sorted found))
        ∙ room-window id change s
        (room-standing int_cmp window_key int_cmp_total exact_signed id (new_window id) change s.windows sorted found
        kept.windows)
        kept.tabs

    pub held-window : (pairs : List (ℤ × ℤ)) → FitsSigned w32 id → IsWindowChangeInRange (window_edit_change edit)
        → IsHeldInRange pairs s → IsHeldInRange pairs window_edited
    held-window pairs fits ranged h =
        let change = edited_window edit in
        let room =
        room-standing int_cmp window_key int_cmp_total exact_signed id (new_window id) change s.windows sorted in
        let keep = edited int_cmp window_key int_cmp_total exact_signed id (new_window id) change s.windows sorted in
        record {
          held = record {
            kept = keep (λ windows. IsKept (record s { windows = windows })) h.held.kept
                (λ found. kept-window id change s
                (λ w. kept-changed_window (window_edit_change edit) w (window_edit-fits edit))
                (window_key_stays (window_edit_change edit)) (room found h.held.kept.windows) h.held.kept);
            members = h.held.members;
          };
          ranged = keep (λ windows. IsStateInRange (record s { windows = windows })) h.ranged
              (λ found. window-in_range id change s fits
              (λ w. changed_window-in_range (window_edit_change edit) w ranged) h.ranged);
        }
