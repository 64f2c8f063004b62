-- The state after a command, one line a kind (this profile, after Chromium's
-- components/sessions/core/session_service_commands.cc). A tab or a window that a command names is made first; where
-- it would be one too many, nothing changes. Tails aren't kept.
use Rattle.std.specs.Prelude.{ℕ, Bool, List, [], ◌∷◌, Option, Some, None, if◌then◌else◌}
use Rattle.session_commands.specs.declared.command.SessionCommand.{SessionCommand}
use Rattle.session_commands.specs.declared.command.SessionCommand.TheVariants.{UpdateNavigation, GroupData, Extension, WindowApp, SessionStorage, Workspace, TabGuid, UserAgent, UserTitle, TabExtra, WindowExtra, TabWindow, TabIndex, PrunedBack, SelectNavigation, SelectTab, WindowKind, PrunedFront, Pinned, WindowBounds, TabClosed, WindowClosed, ActiveWindow, LastActive, Pruned, TabGroup, AllWorkspaces, Raw}
use Rattle.window_state.specs.declared.group_id.GroupId.{GroupId}
use Rattle.tab_pages.specs.PageLists.{prune_back, put_page}
use Rattle.window_state.specs.Changes.{front_pruned, range_pruned, set_pair}
use Rattle.window_state.specs.States.{State, on_tab, on_window, placed, with_group, with_active, tab_closed, window_closed}

abbrev pub group_where : ℕ → ℕ → Bool → Option GroupId
group_where high low grouped = if grouped then Some (record { high = high; low = low }) else None

abbrev pub step : State → SessionCommand → State
step s (TabWindow window tab) = placed window tab s
step s (TabIndex tab index) = on_tab tab (λ t. record t { index = index }) s
step s (UpdateNavigation tab index navigation) = on_tab tab (λ t. record t { pages = put_page index navigation t.pages }) s
step s (SelectNavigation tab index) = on_tab tab (λ t. record t { current = index }) s
step s (PrunedBack tab index) = on_tab tab (λ t. record t { pages = prune_back index t.pages }) s
step s (PrunedFront tab count) = on_tab tab (front_pruned count) s
step s (Pruned tab index count) = on_tab tab (range_pruned index count) s
step s (SelectTab window index) = on_window window (λ w. record w { selected = index }) s
step s (WindowKind window kind) = on_window window (λ w. record w { info = record w.info { kind = kind } }) s
step s (WindowBounds window bounds) = on_window window (λ w. record w { info = record w.info { bounds = Some bounds } }) s
step s (WindowApp window name tail) = on_window window (λ w. record w { info = record w.info { app = Some name } }) s
step s (Workspace window workspace tail) = on_window window (λ w. record w { info = record w.info { workspace = Some workspace } }) s
step s (UserTitle window title tail) = on_window window (λ w. record w { info = record w.info { title = Some title } }) s
step s (AllWorkspaces window all) = on_window window (λ w. record w { info = record w.info { all_workspaces = all } }) s
step s (WindowExtra window key value tail) = on_window window (λ w. record w { info = record w.info { extra = set_pair key value w.info.extra } }) s
step s (Pinned tab pinned) = on_tab tab (λ t. record t { info = record t.info { pinned = pinned } }) s
step s (Extension tab extension tail) = on_tab tab (λ t. record t { info = record t.info { extension = Some extension } }) s
step s (SessionStorage tab storage tail) = on_tab tab (λ t. record t { info = record t.info { storage = Some storage } }) s
step s (TabGuid tab guid tail) = on_tab tab (λ t. record t { info = record t.info { guid = Some guid } }) s
step s (UserAgent tab rest) = on_tab tab (λ t. record t { info = record t.info { agent = Some rest } }) s
step s (LastActive tab time) = on_tab tab (λ t. record t { info = record t.info { last_active = time } }) s
step s (TabGroup tab high low grouped) = on_tab tab (λ t. record t { info = record t.info { group = group_where high low grouped } }) s
step s (TabExtra tab key value tail) = on_tab tab (λ t. record t { info = record t.info { extra = set_pair key value t.info.extra } }) s
step s (GroupData group) = with_group group s
step s (ActiveWindow window) = with_active window s
step s (TabClosed tab time) = tab_closed tab s
step s (WindowClosed window time) = window_closed window s
step s (Raw raw) = s

-- the state after commands in order
abbrev pub fold : State → List SessionCommand → State
fold s [] = s
fold s (command ∷ commands) = fold (step s command) commands
