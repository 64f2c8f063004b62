-- The commands that restate a state: each window by rising id, each tab by rising id, the groups in their order, and
-- the active window. What a new window or a new tab has already isn't said again, and no command has a tail.
use Rattle.std.specs.Prelude.{ℕ, ◌+◌, pos, negsuc, true, List, [], ◌∷◌, ◌++◌, map, length, sum_by, flat_map}
use Rattle.session_commands.specs.declared.command.SessionCommand.{SessionCommand}
use Rattle.session_commands.specs.declared.command.SessionCommand.TheVariants.{UpdateNavigation, GroupData, Extension, WindowApp, SessionStorage, Workspace, TabGuid, UserAgent, UserTitle, TabExtra, WindowExtra, TabWindow, TabIndex, SelectNavigation, SelectTab, WindowKind, Pinned, WindowBounds, ActiveWindow, LastActive, TabGroup, AllWorkspaces}
use Rattle.window_state.specs.declared.tab.Tab.{Tab}
use Rattle.window_state.specs.declared.window.Window.{Window}
use Rattle.window_state.specs.States.{State}
use Rattle.compaction_runs.specs.FieldCommands.{given, flagged, unusual}

abbrev pub window_commands : Window → List SessionCommand
window_commands w =
    let id = w.info.id in
    SelectTab id w.selected ∷ []
    ++ unusual (pos 0) (λ kind. WindowKind id kind) w.info.kind
    ++ given (λ bounds. WindowBounds id bounds) w.info.bounds
    ++ given (λ text. WindowApp id text []) w.info.app
    ++ given (λ text. Workspace id text []) w.info.workspace
    ++ flagged (AllWorkspaces id true) w.info.all_workspaces
    ++ given (λ text. UserTitle id text []) w.info.title
    ++ map (λ pair. WindowExtra id pair.0 pair.1 []) w.info.extra

abbrev pub tab_commands : Tab → List SessionCommand
tab_commands t =
    let id = t.info.id in
    TabIndex id t.index ∷ []
    ++ given (λ window. TabWindow window id) t.window
    ++ map (λ page. UpdateNavigation id page.0 page.1) t.pages
    ++ unusual (negsuc 0) (λ index. SelectNavigation id index) t.current
    ++ flagged (Pinned id true) t.info.pinned
    ++ given (λ text. Extension id text []) t.info.extension
    ++ given (λ text. SessionStorage id text []) t.info.storage
    ++ given (λ text. TabGuid id text []) t.info.guid
    ++ given (λ rest. UserAgent id rest) t.info.agent
    ++ unusual (pos 0) (λ time. LastActive id time) t.info.last_active
    ++ given (λ group. TabGroup id group.high group.low true) t.info.group
    ++ map (λ pair. TabExtra id pair.0 pair.1 []) t.info.extra

abbrev pub compaction : State → List SessionCommand
compaction s =
    flat_map window_commands s.windows
    ++ flat_map tab_commands s.tabs
    ++ map (λ group. GroupData group) s.groups
    ++ given (λ window. ActiveWindow window) s.active

-- the most commands that restate a window, a tab and a state
abbrev pub window_weight : Window → ℕ
window_weight w = 7 + length w.info.extra

abbrev pub tab_weight : Tab → ℕ
tab_weight t = 10 + length t.pages + length t.info.extra

abbrev pub weight : State → ℕ
weight s = sum_by window_weight s.windows + sum_by tab_weight s.tabs + length s.groups + 1
