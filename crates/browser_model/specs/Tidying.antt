-- The commands after which only shown tabs and windows stand, each tab's index is its place, its pages stand from 0
-- without a gap, and the current one is at a page.
use Rattle.std.specs.Prelude.{ℕ, zero, suc, ℤ, pos, ◌+ℤ◌, ◌-ℤ◌, int_lt, int_le, Bool, not, if◌then◌else◌, List, [], ◌∷◌}
use Rattle.std.specs.Prelude.{◌++◌, map, filter, Option, Some, None}
use Rattle.std.specs.Ordering.{int_eq}
use Rattle.navigation_entry.specs.declared.navigation.Navigation.{Navigation}
use Rattle.session_commands.specs.declared.command.SessionCommand.{SessionCommand}
use Rattle.session_commands.specs.declared.command.SessionCommand.TheVariants.{SelectNavigation, SelectTab, Pruned}
use Rattle.session_commands.specs.declared.command.SessionCommand.TheVariants.{TabIndex, TabClosed, WindowClosed}
use Rattle.session_commands.specs.declared.command.SessionCommand.TheVariants.{ActiveWindow}
use Rattle.tab_pages.specs.PageLists.{has_page}
use Rattle.tab_pages.specs.Positions.{first_from}
use Rattle.window_state.specs.declared.tab.Tab.{Tab}
use Rattle.window_state.specs.declared.window.Window.{Window}
use Rattle.window_state.specs.States.{State, is_in}
use Rattle.window_state.specs.Views.{is_shown, shown_tabs, view_windows, active_shown}

-- so many pages stand before, and the next index without a gap is this: each gap's place and length
abbrev pub gaps : ℕ → ℤ → List (ℤ × Navigation) → List (ℕ × ℤ)
gaps k next [] = []
gaps k next (page ∷ pages) =
    (if int_lt next page.0 then (k, page.0 -ℤ next) ∷ [] else []) ++ gaps (suc k) (page.0 +ℤ pos 1) pages

-- the index of the first page from an index on, else of the last page
abbrev pub index_from : ℤ → List (ℤ × Navigation) → ℤ → ℤ
index_from c [] last = last
index_from c (page ∷ pages) last = if int_le c page.0 then page.0 else index_from c pages page.0

abbrev pub current_index : Tab → ℤ
current_index t = index_from t.current t.pages t.current

abbrev pub unless : Bool → SessionCommand → List SessionCommand
unless b command = if b then [] else command ∷ []

-- the commands of a shown tab at its place
abbrev pub tidy_tab : ℕ → Tab → List SessionCommand
tidy_tab n t =
    let id = t.info.id in
    unless (int_eq (current_index t) t.current) (SelectNavigation id (current_index t))
    ++ (map (λ gap. Pruned id (pos gap.0) gap.1) (gaps zero (pos 0) t.pages)
    ++ unless (int_eq t.index (pos n)) (TabIndex id (pos n)))

-- of the tabs of a window, from a place on
abbrev pub tidy_tabs : ℕ → List Tab → List SessionCommand
tidy_tabs n [] = []
tidy_tabs n (t ∷ ts) = tidy_tab n t ++ tidy_tabs (suc n) ts

-- the place of the tab that a window shows, among its shown tabs
abbrev pub seen_place : Window → List Tab → ℕ
seen_place w tabs = first_from w.selected (map (λ t. t.index) tabs)

-- of a window with its shown tabs
abbrev pub tidy_window : Window → List Tab → List SessionCommand
tidy_window w [] = []
tidy_window w (t ∷ ts) =
    let place = seen_place w (t ∷ ts) in
    tidy_tabs zero (t ∷ ts) ++ unless (int_eq w.selected (pos place)) (SelectTab w.info.id (pos place))

abbrev pub tidy_windows : (ℤ → List Tab) → List Window → List SessionCommand
tidy_windows tabs_of [] = []
tidy_windows tabs_of (w ∷ ws) = tidy_window w (tabs_of w.info.id) ++ tidy_windows tabs_of ws

abbrev pub close_tabs : List Tab → List SessionCommand
close_tabs ts = map (λ t. TabClosed t.info.id (pos 0)) ts

abbrev pub close_windows : List Window → List SessionCommand
close_windows ws = map (λ w. WindowClosed w.info.id (pos 0)) ws

-- a window becomes the active one, where it isn't
abbrev pub activate : Option ℤ → Option ℤ → List SessionCommand
activate None now = []
activate (Some id) now = if is_in id now then [] else ActiveWindow id ∷ []

abbrev pub is_tab_shown : Tab → Bool
is_tab_shown t = is_shown t.window t

abbrev pub is_open : State → Window → Bool
is_open s w = has_page (shown_tabs w.info.id s.tabs)

-- the active window of the state's view
abbrev pub seen_active : State → Option ℤ
seen_active s = active_shown s.active (view_windows (λ id. shown_tabs id s.tabs) s.windows)

abbrev pub tidying : State → List SessionCommand
tidying s =
    close_tabs (filter (λ t. not (is_tab_shown t)) s.tabs)
    ++ (close_windows (filter (λ w. not (is_open s w)) s.windows)
    ++ (tidy_windows (λ id. shown_tabs id s.tabs) s.windows
    ++ activate (seen_active s) s.active))
