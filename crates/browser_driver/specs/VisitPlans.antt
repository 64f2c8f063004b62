-- What a visit makes of a state: the page is put at the place behind the current one, then pages behind it go, it is
-- shown, and the first of more than 50 pages go.
use Rattle.std.specs.Prelude.{ℕ, suc, ◌-◌, ◌^◌, nat_lt, ℤ, pos, if◌then◌else◌, List, [], ◌∷◌, ◌++◌, length, Ok}
use Rattle.std.specs.Ordering.{int_eq}
use Rattle.navigation_entry.specs.declared.navigation.Navigation.{Navigation}
use Rattle.session_commands.specs.declared.command.SessionCommand.{SessionCommand}
use Rattle.session_commands.specs.declared.command.SessionCommand.TheVariants as command
use Rattle.window_state.specs.declared.change.TabEdit.TheVariants as edit
use Rattle.window_state.specs.declared.tab.Tab.{Tab}
use Rattle.window_state.specs.States.{State}
use Rattle.browser_model.specs.OneTab.{reached, where_so}
use Rattle.browser_driver.specs.Plans.{Plan, at_row, refuses_where, with_edit, with_page}
use Rattle.browser_driver.specs.declared.fault.VerbFault.TheVariants.{Full}

-- pages behind a place go, of so many
abbrev pub cut_behind : ℤ → (place count : ℕ) → State → State
cut_behind id place count s =
    if nat_lt (suc place) count then with_edit id (edit.PruneBack (pos (suc place))) s else s

-- so many pages at the front go that 50 are left
abbrev pub dropped : ℕ → ℕ
dropped r = suc r - 50

abbrev pub settled : ℤ → (r count : ℕ) → (moment : ℤ) → State → State
settled id r count moment s =
    with_edit id (edit.LastActive moment) (with_edit id (edit.PruneFront (pos (dropped r)))
    (with_edit id (edit.Current (pos r)) (cut_behind id r count s)))

abbrev pub with_visit : ℤ → (r count : ℕ) → Navigation → (moment : ℤ) → State → State
with_visit id r count page moment s = settled id r count moment (with_page id (pos r) page s)

abbrev pub visit_commands : ℤ → (r count : ℕ) → Navigation → (moment : ℤ) → List SessionCommand
visit_commands id r count page moment =
    where_so (nat_lt r count) (command.PrunedBack id (pos r))
    ++ ((command.UpdateNavigation id (pos r) page ∷ command.SelectNavigation id (pos r) ∷ [])
    ++ (where_so (nat_lt 0 (dropped r)) (command.PrunedFront id (pos (dropped r)))
    ++ (command.LastActive id moment ∷ [])))

abbrev pub visits_row : ℤ → Navigation → ℤ → State → Tab → Plan
visits_row id page moment s t =
    let r = reached t.current in
    Ok (record {
      state = with_visit id r (length t.pages) page moment s;
      session = visit_commands id r (length t.pages) page moment;
    })

abbrev pub visits : ℤ → Navigation → ℤ → State → Plan
visits id page moment s = at_row id s (λ t.
    refuses_where (int_eq t.current (pos (2 ^ 31 - 1))) (Full id) (visits_row id page moment s t))
