-- A compaction has at most as many commands as its weight says.
use Rattle.std.proofs.Common.{◌≤◌, pos, negsuc, true, [], ◌++◌, map, flat_map, length, arith}
use Rattle.std.proofs.lemmas.List.{length-append, length-map}
use Rattle.std.proofs.lemmas.List.Concat.{length-flat_map}
use Rattle.std.proofs.lemmas.List.Sums.{sum_by-le-sum_by}
use Rattle.session_commands.specs.declared.command.SessionCommand.TheVariants.{GroupData, Extension, WindowApp, SessionStorage, Workspace, TabGuid, UserAgent, UserTitle, TabWindow, SelectNavigation, WindowKind, Pinned, WindowBounds, ActiveWindow, LastActive, TabGroup, AllWorkspaces}
use Rattle.window_state.specs.declared.tab.Tab.{Tab}
use Rattle.window_state.specs.declared.window.Window.{Window}
use Rattle.window_state.specs.States.{State}
use Rattle.compaction_runs.specs.FieldCommands.{given}
use Rattle.compaction_runs.proofs.Counts.{few-given, few-flagged, few-unusual}
use Rattle.compactor.specs.session.Compaction.{window_commands, tab_commands, compaction, window_weight, tab_weight, weight}

few_window : (w : Window) → length (window_commands w) ≤ window_weight w
few_window w =
    let i = w.info in
    let kind = few-unusual (pos 0) (λ kind. WindowKind i.id kind) i.kind in
    let bounds = few-given (λ bounds. WindowBounds i.id bounds) i.bounds in
    let app = few-given (λ text. WindowApp i.id text []) i.app in
    let workspace = few-given (λ text. Workspace i.id text []) i.workspace in
    let all = few-flagged (AllWorkspaces i.id true) i.all_workspaces in
    let title = few-given (λ text. UserTitle i.id text []) i.title in
    simp (length-append, length-map) (omega arith)

few_tab : (t : Tab) → length (tab_commands t) ≤ tab_weight t
few_tab t =
    let i = t.info in
    let window = few-given (λ window. TabWindow window i.id) t.window in
    let current = few-unusual (negsuc 0) (λ index. SelectNavigation i.id index) t.current in
    let pinned = few-flagged (Pinned i.id true) i.pinned in
    let extension = few-given (λ text. Extension i.id text []) i.extension in
    let storage = few-given (λ text. SessionStorage i.id text []) i.storage in
    let guid = few-given (λ text. TabGuid i.id text []) i.guid in
    let agent = few-given (λ rest. UserAgent i.id rest) i.agent in
    let time = few-unusual (pos 0) (λ time. LastActive i.id time) i.last_active in
    let group = few-given (λ group. TabGroup i.id group.high group.low true) i.group in
    simp (length-append, length-map) (omega arith)

pub few : (s : State) → length (compaction s) ≤ weight s
few s =
    let windows = flat_map window_commands s.windows in
    let tabs = flat_map tab_commands s.tabs in
    let groups = map (λ group. GroupData group) s.groups in
    let active = given (λ window. ActiveWindow window) s.active in
    let each_window = sum_by-le-sum_by (λ (w : Window). length (window_commands w)) window_weight s.windows few_window in
    let each_tab = sum_by-le-sum_by (λ (t : Tab). length (tab_commands t)) tab_weight s.tabs few_tab in
    let last = few-given (λ window. ActiveWindow window) s.active in
    omega (
      arith,
      length-append (windows ++ tabs ++ groups) active,
      length-append (windows ++ tabs) groups,
      length-append windows tabs,
      length-flat_map window_commands s.windows,
      length-flat_map tab_commands s.tabs,
      length-map s.groups (λ group. GroupData group),
    )
