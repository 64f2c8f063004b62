-- What a verb makes of a browser: why it is refused, or the browser after it and the commands of both families. One
-- line a verb; refusals are tested in the order in which they stand.
use Rattle.std.specs.Prelude.{ℕ, ◌-◌, ◌^◌, nat_le, ℤ, pos, ◌+ℤ◌, int_lt, int_le, Bool, true, false, not, ◌&&◌, ◌||◌, if◌then◌else◌, List, [], ◌∷◌, length, Option, Some, None, is_some, Result, Ok, Err}
use Rattle.std.specs.Ordering.{int_cmp, int_eq}
use Rattle.session_commands.specs.declared.command.SessionCommand.{SessionCommand}
use Rattle.session_commands.specs.declared.command.SessionCommand.TheVariants as command
use Rattle.tab_restore_commands.specs.declared.command.TabsCommand.{TabsCommand}
use Rattle.window_state.specs.RowLists.{find_row}
use Rattle.window_state.specs.Limits.{limit}
use Rattle.script_lines.specs.declared.verb.Verb.{Verb}
use Rattle.script_lines.specs.declared.verb.Verb.TheVariants.{At, Window, Tab, Visit, Back, Forward, Pin, Unpin, Ungroup, CloseTab, Move, Select, SetBounds, Group, Title, Active, CloseWindow, Sync, Compact}
use Rattle.browser_model.specs.Browsers.{Browser, BrowserTab, BrowserWindow, Stand, all_stands, open_key, stand_key}
use Rattle.browser_model.specs.Entries.{entry_of_tab, entry_of_window, left_commands, with_left}
use Rattle.browser_model.specs.Navigations.{given_group, titled_page, visit_state, visited_page}
use Rattle.browser_model.specs.Pictures.{nat_of}
use Rattle.browser_model.specs.Tabs.{put_tab, stand_of}
use Rattle.browser_model.specs.OneTab as tab
use Rattle.browser_model.specs.OneTab.{current_page}
use Rattle.browser_model.specs.OneWindow as window
use Rattle.browser_model.specs.Opening as opening
use Rattle.browser_model.specs.Closing as closing
use Rattle.browser_model.specs.Moving as moving
use Rattle.browser_driver.specs.declared.fault.VerbFault.{VerbFault}
use Rattle.browser_driver.specs.declared.fault.VerbFault.TheVariants.{NoWindow, NoTab, Taken, NoBack, NoForward, NoPage, Place, Full}

-- the browser after a verb, what it issues to each family, and whether it asks for a sync or a compaction of both
pub record Outcome : Type 0 where
  pub browser : Browser
  pub session : List SessionCommand
  pub tabs : List TabsCommand
  pub sync : Bool
  pub compact : Bool

abbrev pub Answer : Type 0
Answer = Result Outcome VerbFault

-- it is refused where this holds, else it goes on
abbrev pub refused_where : Bool → VerbFault → Answer → Answer
refused_where refused why answer = if refused then Err why else answer

-- the browser after a verb that asks for neither, and these commands
abbrev pub outcome : Browser → List SessionCommand → List TabsCommand → Outcome
outcome b session tabs = record { browser = b; session = session; tabs = tabs; sync = false; compact = false }

-- nothing changes, and this is asked for
abbrev pub asked : (sync compact : Bool) → Browser → Outcome
asked sync compact b = record { browser = b; session = []; tabs = []; sync = sync; compact = compact }

-- the browser changes, and these commands say how
abbrev pub issues_both : Browser → List SessionCommand → List TabsCommand → Answer
issues_both b session tabs = Ok (outcome b session tabs)

-- those of the session alone
abbrev pub issues : Browser → List SessionCommand → Answer
issues b session = issues_both b session []

abbrev pub asks : (sync compact : Bool) → Browser → Answer
asks sync compact b = Ok (asked sync compact b)

abbrev pub with_found : {A : Type 0} → Option A → VerbFault → (A → Answer) → Answer
with_found None why answer = Err why
with_found (Some found) why answer = answer found

abbrev pub at_tab : ℤ → Browser → (Stand → Answer) → Answer
at_tab id b answer = with_found (stand_of id b) (NoTab id) answer

abbrev pub window_of : ℤ → Browser → Option BrowserWindow
window_of id b = find_row int_cmp open_key id b.windows

abbrev pub at_window : ℤ → Browser → (BrowserWindow → Answer) → Answer
at_window id b answer = with_found (window_of id b) (NoWindow id) answer

-- the tab becomes another
abbrev pub changes_tab : Stand → BrowserTab → List SessionCommand → Browser → Answer
changes_tab s new commands b = issues (record b { windows = put_tab (stand_key s) new b.windows }) commands

abbrev pub is_open : ℤ → Browser → Bool
is_open id b = is_some (window_of id b)

abbrev pub is_live : ℤ → Browser → Bool
is_live id b = is_some (stand_of id b)

-- as many windows, and as many tabs, as there may be
abbrev pub has_most_windows : Browser → Bool
has_most_windows b = nat_le limit (length b.windows)

abbrev pub has_most_tabs : Browser → Bool
has_most_tabs b = nat_le limit (length (all_stands b.windows))

-- a tab can't be put into this window
abbrev pub lacks_room : ℤ → Browser → Bool
lacks_room window b = has_most_tabs b || (not (is_open window b) && has_most_windows b)

-- a place is above a number, and isn't below it
abbrev pub is_above : ℤ → ℕ → Bool
is_above place n = int_lt (pos n) place

abbrev pub isnt_below : ℤ → ℕ → Bool
isnt_below place n = int_le (pos n) place

abbrev pub pins : Bool → ℤ → Browser → Answer
pins flag id b = at_tab id b (λ s. changes_tab s (tab.pinned flag s.tab) (tab.pin flag s.tab) b)

abbrev pub visits : ℤ → List ℕ → ℕ → List ℕ → Browser → Stand → Answer
visits id url state title b s =
    let page = visited_page url title (visit_state state) b.moment in
    refused_where (int_eq s.tab.current (pos (2 ^ 31 - 1))) (Full id)
    (changes_tab s (tab.visited page b.moment s.tab) (tab.visit page b.moment s.tab) b)

abbrev pub moves : ℤ → ℤ → Browser → Stand → Answer
moves window place b s =
    refused_where (is_above place (length (moving.others_of s window b.windows))) (Place place)
    (issues (moving.moved_tab s window (nat_of place) b) (moving.move s window (nat_of place) b))

abbrev pub titles : ℤ → List ℕ → Browser → Stand → Answer
titles id title b s = with_found (current_page s.tab) (NoPage id) (λ page.
    changes_tab s (tab.titled (titled_page title page) s.tab) (tab.title (titled_page title page) s.tab) b)

abbrev pub groups_tab : ℕ → ℕ → ℕ → List ℕ → Browser → Stand → Answer
groups_tab high low colour title b s =
    let group = given_group high low title colour in
    issues (tab.grouped_tab group s b) (tab.group_tab group s.tab)

-- the tab goes, and where it had pages it is the newest of the closed ones
abbrev pub closes_tab : Browser → Stand → Answer
closes_tab b s =
    let left = entry_of_tab b.groups b.moment s.tab in
    issues_both (record (closing.closed_tab (stand_key s) b) { closed = with_left left b.closed })
    (closing.close_tab s b) (left_commands left)

abbrev pub closes_window : Browser → BrowserWindow → Answer
closes_window b w =
    let left = entry_of_window b.groups b.moment w in
    issues_both (record (closing.closed_window w.info.id b) { closed = with_left left b.closed })
    (closing.close_window w.info.id b) (left_commands left)

abbrev pub act : Verb → Browser → Answer
act (At moment) b = issues (record b { moment = moment }) []
act (Window w) b =
    refused_where (is_open w b) (Taken w) (refused_where (has_most_windows b) (Full w)
    (issues (opening.opened_window w b) (opening.open_window w)))
act (Tab w t) b =
    refused_where (is_live t b) (Taken t) (refused_where (lacks_room w b) (Full t)
    (issues (opening.opened_tab w t b) (opening.open_tab w t b)))
act (Visit t url state title) b = at_tab t b (visits t url state title b)
act (Back t) b = at_tab t b (λ s. refused_where (int_lt s.tab.current (pos 1)) (NoBack t)
    (changes_tab s (tab.went_back s.tab) (tab.back s.tab) b))
act (Forward t) b = at_tab t b (λ s.
    refused_where (isnt_below (s.tab.current +ℤ pos 1) (length s.tab.pages)) (NoForward t)
    (changes_tab s (tab.went_forward s.tab) (tab.forward s.tab) b))
act (Pin t) b = pins true t b
act (Unpin t) b = pins false t b
act (Ungroup t) b = at_tab t b (λ s. changes_tab s (tab.in_group None s.tab) (tab.ungroup s.tab) b)
act (CloseTab t) b = at_tab t b (closes_tab b)
act (Move t w p) b = at_tab t b (λ s. at_window w b (λ found. moves w p b s))
act (Select w p) b = at_window w b (λ found. refused_where (isnt_below p (length found.tabs)) (Place p)
    (issues (window.on_window w (window.selected p) b) (command.SelectTab w p ∷ [])))
act (SetBounds w bounds) b = at_window w b (λ found.
    issues (window.on_window w (window.bounded bounds) b) (command.WindowBounds w bounds ∷ []))
act (Group t high low colour title) b = at_tab t b (groups_tab high low colour title b)
act (Title t title) b = at_tab t b (titles t title b)
act (Active w) b = at_window w b (λ found. issues (record b { active = Some w }) (command.ActiveWindow w ∷ []))
act (CloseWindow w) b = at_window w b (closes_window b)
act Sync b = asks true false b
act Compact b = asks false true b
