-- Every command of a compaction has a row and can be written, so none is the marker, and its numbers are in range.
use Rattle.std.proofs.Common.{◌≡◌, pos, negsuc, true, List, [], FitsSigned, w32, refl, ap, subst, arith}
use Rattle.session_commands.specs.declared.command.SessionCommand.{SessionCommand}
use Rattle.session_commands.specs.declared.command.SessionCommand.TheVariants.{UpdateNavigation, GroupData, Extension, WindowApp, SessionStorage, Workspace, TabGuid, UserAgent, UserTitle, TabExtra, WindowExtra, TabWindow, TabIndex, SelectNavigation, SelectTab, WindowKind, Pinned, WindowBounds, ActiveWindow, LastActive, TabGroup, AllWorkspaces, Raw}
use Rattle.session_commands.specs.Table.{Payload, IsSound, IsInRange, IsKnown}
use Rattle.session_commands.proofs.MarkerLaws.{marker_command, marker_payload}
use Rattle.session_commands.proofs.TableLaws.{one_command, navigation_is_sound, group_is_sound}
use Rattle.window_state.specs.declared.tab.Tab.{Tab}
use Rattle.window_state.specs.declared.window.Window.{Window}
use Rattle.tab_pages.specs.Ranges.{AreBoundsInRange, IsPageInRange, IsGroupInRange}
use Rattle.window_state.specs.Ranges.{IsGroupIdInRange, IsTabInRange, IsWindowInRange}
use Rattle.tab_pages.specs.Fits.{FitsText, FitsRest}
use Rattle.window_state.specs.Fits.{FitsPair, IsKeptTab, IsKeptWindow}
use Rattle.window_state.specs.States.{State, IsState}
use Rattle.machine_law.specs.Kind.{marker_id}
use Rattle.replay_machine.specs.Step.{step}
use Rattle.compaction_runs.specs.Runs.{Are}
use Rattle.compaction_runs.proofs.CommandLaws.{joint, are-one, are-given, are-flagged, are-unusual, are-map, are-flat, both}
use Rattle.compactor.specs.session.Compaction.{window_commands, tab_commands, compaction}

-- a command that has a row and can be written, with its numbers in range
pub record IsPlain (command : SessionCommand) : Type 0 where
  pub sound : IsSound command
  pub known : IsKnown command
  pub ranged : IsInRange command

-- the marker's id and payload are those of one raw command
is_marker : (command : SessionCommand) → Payload marker_id command [] → command ≡ Raw marker_command
is_marker command holds = one_command (Raw marker_command) command marker_id [] marker_payload holds

-- so a command with a row isn't the marker
pub unmarked : (command : SessionCommand) → IsPlain command → Payload marker_id command [] → ⊥
unmarked command plain holds =
    let bad : IsKnown (Raw marker_command) = subst IsKnown (is_marker command holds) plain.known in
    absurd cc

-- and the marker changes no state
pub marker-leaves : (state : State) (command : SessionCommand) → Payload marker_id command [] → step state command ≡ state
marker-leaves state command holds = ap (step state) (is_marker command holds)

abbrev pub ArePlain : List SessionCommand → Type 0
ArePlain commands = Are IsPlain commands

plain_window : (w : Window) → IsKeptWindow w × IsWindowInRange w → ArePlain (window_commands w)
plain_window w keeps =
    let i = w.info in
    let fits = keeps.0 in
    let r = keeps.1 in
    joint (joint (joint (joint (joint (joint (joint
    (are-one IsPlain (SelectTab i.id w.selected) (record { sound = tt; known = refl; ranged = (r.id, (r.selected, tt)) }))
    (are-unusual IsPlain (pos 0) (λ kind. WindowKind i.id kind) i.kind (record { sound = tt; known = refl; ranged = (r.id, (r.kind, tt)) })))
    (are-given IsPlain AreBoundsInRange (λ bounds. WindowBounds i.id bounds) i.bounds (λ bounds b. record { sound = tt; known = refl; ranged = (r.id, (b.x, (b.y, (b.width, (b.height, (b.show, tt)))))) }) r.bounds))
    (are-given IsPlain FitsText (λ text. WindowApp i.id text []) i.app (λ text fits. record { sound = (refl, omega (arith, fits)); known = refl; ranged = (r.id, (tt, tt)) }) fits.app))
    (are-given IsPlain FitsText (λ text. Workspace i.id text []) i.workspace (λ text fits. record { sound = (refl, omega (arith, fits)); known = refl; ranged = (r.id, (tt, tt)) }) fits.workspace))
    (are-flagged IsPlain (AllWorkspaces i.id true) i.all_workspaces (record { sound = tt; known = refl; ranged = (r.id, (tt, (tt, tt))) })))
    (are-given IsPlain FitsText (λ text. UserTitle i.id text []) i.title (λ text fits. record { sound = (refl, omega (arith, fits)); known = refl; ranged = (r.id, (tt, tt)) }) fits.title))
    (are-map IsPlain FitsPair (λ pair. WindowExtra i.id pair.0 pair.1 []) i.extra (λ pair fits. record { sound = (refl, omega (arith, fits)); known = refl; ranged = (r.id, (tt, (tt, tt))) }) fits.extra)

plain_tab : (t : Tab) → IsKeptTab t × IsTabInRange t → ArePlain (tab_commands t)
plain_tab t keeps =
    let i = t.info in
    let fits = keeps.0 in
    let r = keeps.1 in
    let id = r.info.id in
    joint (joint (joint (joint (joint (joint (joint (joint (joint (joint (joint
    (are-one IsPlain (TabIndex i.id t.index) (record { sound = tt; known = refl; ranged = (id, (r.index, tt)) }))
    (are-given IsPlain (FitsSigned w32) (λ window. TabWindow window i.id) t.window (λ window fits. record { sound = tt; known = refl; ranged = (fits, (id, tt)) }) r.window))
    (are-map IsPlain IsPageInRange (λ page. UpdateNavigation i.id page.0 page.1) t.pages (λ page p. record { sound = navigation_is_sound i.id page.0 page.1; known = refl; ranged = (id, (p.0, (tt, (p.1.title, (tt, (p.1.transition, tt)))))) }) r.pages))
    (are-unusual IsPlain (negsuc 0) (λ index. SelectNavigation i.id index) t.current (record { sound = tt; known = refl; ranged = (id, (r.current, tt)) })))
    (are-flagged IsPlain (Pinned i.id true) i.pinned (record { sound = tt; known = refl; ranged = (id, (tt, (tt, tt))) })))
    (are-given IsPlain FitsText (λ text. Extension i.id text []) i.extension (λ text fits. record { sound = (refl, omega (arith, fits)); known = refl; ranged = (id, (tt, tt)) }) fits.extension))
    (are-given IsPlain FitsText (λ text. SessionStorage i.id text []) i.storage (λ text fits. record { sound = (refl, omega (arith, fits)); known = refl; ranged = (id, (tt, tt)) }) fits.storage))
    (are-given IsPlain FitsText (λ text. TabGuid i.id text []) i.guid (λ text fits. record { sound = (refl, omega (arith, fits)); known = refl; ranged = (id, (tt, tt)) }) fits.guid))
    (are-given IsPlain FitsRest (λ rest. UserAgent i.id rest) i.agent (λ rest fits. record { sound = (fits.0, omega (arith, fits.1)); known = refl; ranged = (id, tt) }) fits.agent))
    (are-unusual IsPlain (pos 0) (λ time. LastActive i.id time) i.last_active (record { sound = tt; known = refl; ranged = (id, (tt, (r.info.last_active, tt))) })))
    (are-given IsPlain IsGroupIdInRange (λ group. TabGroup i.id group.high group.low true) i.group (λ group g. record { sound = tt; known = refl; ranged = (id, (tt, (g.0, (g.1, (tt, (tt, tt)))))) }) r.info.group))
    (are-map IsPlain FitsPair (λ pair. TabExtra i.id pair.0 pair.1 []) i.extra (λ pair fits. record { sound = (refl, omega (arith, fits)); known = refl; ranged = (id, (tt, (tt, tt))) }) fits.extra)

pub plain : (s : State) → IsState s → ArePlain (compaction s)
plain s is =
    let kept = is.kept in
    let r = is.ranged in
    joint (joint (joint
    (are-flat IsPlain (λ w. IsKeptWindow w × IsWindowInRange w) window_commands s.windows plain_window (both IsKeptWindow IsWindowInRange s.windows kept.each_window r.windows))
    (are-flat IsPlain (λ t. IsKeptTab t × IsTabInRange t) tab_commands s.tabs plain_tab (both IsKeptTab IsTabInRange s.tabs kept.each_tab r.tabs)))
    (are-map IsPlain IsGroupInRange (λ group. GroupData group) s.groups (λ group g. record { sound = group_is_sound group; known = refl; ranged = (g.high, (g.low, (g.title, (g.colour, tt)))) }) r.groups))
    (are-given IsPlain (FitsSigned w32) (λ window. ActiveWindow window) s.active (λ window fits. record { sound = tt; known = refl; ranged = (fits, tt) }) r.active)
