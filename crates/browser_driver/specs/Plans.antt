-- What a verb makes of a state, before a browser is seen in it: why it is refused, or the state after it and the
-- commands that say so.
use Rattle.std.specs.Prelude.{◌≡◌, ℕ, nat_le, ℤ, pos, negsuc, ◌-ℤ◌, int_lt, Bool, true, false, if◌then◌else◌, List}
use Rattle.std.specs.Prelude.{[], ◌∷◌, map, length, slice_get, option_map}
use Rattle.std.specs.Prelude.{Option, Some, None, Result, Ok, Err}
use Rattle.std.specs.Ordering.{int_cmp}
use Rattle.navigation_entry.specs.declared.group.GroupInfo.{GroupInfo}
use Rattle.session_commands.specs.declared.command.SessionCommand.{SessionCommand}
use Rattle.session_commands.specs.declared.command.SessionCommand.TheVariants as command
use Rattle.navigation_entry.specs.declared.navigation.Navigation.{Navigation}
use Rattle.window_state.specs.declared.change.TabChange.TheVariants as change
use Rattle.window_state.specs.declared.change.TabEdit.{TabEdit}
use Rattle.window_state.specs.declared.change.TabEdit.TheVariants as edit
use Rattle.window_state.specs.declared.tab.Tab.{Tab}
use Rattle.window_state.specs.Changes.{changed_tab, edited_tab}
use Rattle.window_state.specs.Keys.{tab_key, group_key}
use Rattle.window_state.specs.RowLists.{find_row, on_key}
use Rattle.window_state.specs.States.{State, with_group}
use Rattle.browser_model.specs.Navigations.{titled_page}
use Rattle.browser_model.specs.OneTab.{reached}
use Rattle.browser_driver.specs.Issues.{of_session}
use Rattle.browser_driver.specs.declared.fault.ActError.{ActError}
use Rattle.browser_driver.specs.declared.fault.ActError.TheVariants.{Refused, Memory}
use Rattle.browser_driver.specs.declared.fault.VerbFault.{VerbFault}
use Rattle.browser_driver.specs.declared.fault.VerbFault.TheVariants.{NoTab, NoBack, NoForward, NoPage}
use Rattle.browser_driver.specs.declared.issued.Issued.{Issued}

pub record Step : Type 0 where
  pub state : State
  pub session : List SessionCommand

abbrev pub Plan : Type 0
Plan = Result Step VerbFault

-- what a call does that follows the plan; after want of memory the state is as it was
abbrev pub Follows : Plan → (old new : State) → Result Issued ActError → Type 0
Follows plan old new (Ok issued) =
    (plan ≡ Ok (record { state = new; session = issued.session })) × (issued ≡ of_session issued.session)
Follows plan old new (Err (Refused why)) = (plan ≡ Err why) × (new ≡ old)
Follows plan old new (Err Memory) = new ≡ old

abbrev pub with_row : {R A : Type 0} → Option R → VerbFault → (R → Result A VerbFault) → Result A VerbFault
with_row None why plan = Err why
with_row (Some row) why plan = plan row

abbrev pub at_row : {A : Type 0} → ℤ → State → (Tab → Result A VerbFault) → Result A VerbFault
at_row id s plan = with_row (find_row int_cmp tab_key id s.tabs) (NoTab id) plan

-- the row of a tab is changed
abbrev pub with_edit : ℤ → TabEdit → State → State
with_edit id change s = record s { tabs = map (on_key int_cmp tab_key id (edited_tab change)) s.tabs }

abbrev pub edits : ℤ → TabEdit → List SessionCommand → State → Plan
edits id change session s = Ok (record { state = with_edit id change s; session = session })

abbrev pub pins : Bool → ℤ → State → Plan
pins flag id s = at_row id s (λ t. edits id (edit.Pinned flag) (command.Pinned id flag ∷ []) s)

abbrev pub ungroups : ℤ → State → Plan
ungroups id s = at_row id s (λ t. edits id (edit.Group None) (command.TabGroup id 0 0 false ∷ []) s)

-- it is refused where this holds, else it goes on
abbrev pub refuses_where : {A : Type 0} → Bool → VerbFault → Result A VerbFault → Result A VerbFault
refuses_where refused why plan = if refused then Err why else plan

-- the tab shows the page at an index
abbrev pub shows : ℤ → ℤ → State → Plan
shows id index s = edits id (edit.Current index) (command.SelectNavigation id index ∷ []) s

abbrev pub goes_back : ℤ → State → Plan
goes_back id s = at_row id s (λ t.
    refuses_where (int_lt t.current (pos 1)) (NoBack id) (shows id (t.current -ℤ pos 1) s))

abbrev pub goes_forward : ℤ → State → Plan
goes_forward id s = at_row id s (λ t.
    refuses_where (nat_le (length t.pages) (reached t.current)) (NoForward id) (shows id (pos (reached t.current)) s))

-- the tab is in a group, of which this is known
abbrev pub in_group : ℤ → GroupInfo → State → State
in_group id group s = with_edit id (edit.Group (Some (group_key group))) (with_group group s)

abbrev pub groups : ℤ → GroupInfo → State → Plan
groups id group s = at_row id s (λ t. Ok (record {
  state = in_group id group s;
  session = command.TabGroup id group.high group.low true ∷ command.GroupData group ∷ [];
}))

-- the page at an index of a tab becomes another, or comes where none stands there
abbrev pub with_page : ℤ → ℤ → Navigation → State → State
with_page id index page s =
    record s { tabs = map (on_key int_cmp tab_key id (changed_tab (change.Page index page))) s.tabs }

-- the page that a tab shows whose pages stand from 0 without a gap
abbrev pub page_shown : ℤ → List (ℤ × Navigation) → Option Navigation
page_shown (pos n) pages = option_map (λ page. page.1) (slice_get pages n)
page_shown (negsuc n) pages = None

abbrev pub puts : ℤ → ℤ → Navigation → State → Plan
puts id index page s =
    Ok (record { state = with_page id index page s; session = command.UpdateNavigation id index page ∷ [] })

abbrev pub titles : ℤ → List ℕ → State → Plan
titles id title s = at_row id s (λ t. with_row (page_shown t.current t.pages) (NoPage id) (λ page.
    puts id t.current (titled_page title page) s))
