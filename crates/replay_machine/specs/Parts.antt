-- Which commands change one tab or one window in its place, and how: the table of steps without the commands that make
-- or close several at once.
use Rattle.std.specs.Prelude.{ℤ, Option, Some, None}
use Rattle.session_commands.specs.declared.command.SessionCommand.{SessionCommand}
use Rattle.session_commands.specs.declared.command.SessionCommand.TheVariants.{UpdateNavigation, Extension, WindowApp, SessionStorage, Workspace, TabGuid, UserAgent, UserTitle, TabExtra, WindowExtra, TabIndex, PrunedBack, SelectNavigation, SelectTab, WindowKind, PrunedFront, Pinned, WindowBounds, LastActive, Pruned, TabGroup, AllWorkspaces}
use Rattle.window_state.specs.declared.change.TabChange.{TabChange}
use Rattle.window_state.specs.declared.change.TabChange.TheVariants as tab
use Rattle.window_state.specs.declared.change.WindowChange.{WindowChange}
use Rattle.window_state.specs.declared.change.WindowChange.TheVariants as window
use Rattle.window_state.specs.Changes.{changed_tab, changed_window}
use Rattle.window_state.specs.States.{State, on_tab, on_window}
use Rattle.replay_machine.specs.Step.{group_where}

-- a tab's place and pages
abbrev pub page_change : SessionCommand → Option (ℤ × TabChange)
page_change (TabIndex id index) = Some (id, tab.Index index)
page_change (UpdateNavigation id index navigation) = Some (id, tab.Page index navigation)
page_change (SelectNavigation id index) = Some (id, tab.Current index)
page_change (PrunedBack id index) = Some (id, tab.PruneBack index)
page_change (PrunedFront id count) = Some (id, tab.PruneFront count)
page_change (Pruned id index count) = Some (id, tab.Prune index count)
page_change _ = None

-- what is known of a tab
abbrev pub info_change : SessionCommand → Option (ℤ × TabChange)
info_change (Pinned id pinned) = Some (id, tab.Pinned pinned)
info_change (Extension id extension tail) = Some (id, tab.Extension extension)
info_change (SessionStorage id storage tail) = Some (id, tab.Storage storage)
info_change (TabGuid id guid tail) = Some (id, tab.Guid guid)
info_change (UserAgent id rest) = Some (id, tab.Agent rest)
info_change (LastActive id time) = Some (id, tab.LastActive time)
info_change (TabGroup id high low grouped) = Some (id, tab.Group (group_where high low grouped))
info_change (TabExtra id key value tail) = Some (id, tab.ExtraValue key value)
info_change _ = None

abbrev pub first_of_two : Option (ℤ × TabChange) → Option (ℤ × TabChange) → Option (ℤ × TabChange)
first_of_two (Some change) other = Some change
first_of_two None other = other

abbrev pub tab_change : SessionCommand → Option (ℤ × TabChange)
tab_change command = first_of_two (page_change command) (info_change command)

abbrev pub window_change : SessionCommand → Option (ℤ × WindowChange)
window_change (SelectTab id index) = Some (id, window.Selected index)
window_change (WindowKind id kind) = Some (id, window.Kind kind)
window_change (WindowBounds id bounds) = Some (id, window.Bounded bounds)
window_change (WindowApp id name tail) = Some (id, window.App name)
window_change (Workspace id workspace tail) = Some (id, window.Workspace workspace)
window_change (UserTitle id title tail) = Some (id, window.Title title)
window_change (AllWorkspaces id all) = Some (id, window.AllWorkspaces all)
window_change (WindowExtra id key value tail) = Some (id, window.ExtraValue key value)
window_change _ = None

abbrev pub on_window_where : Option (ℤ × WindowChange) → State → State
on_window_where None s = s
on_window_where (Some change) s = on_window change.0 (changed_window change.1) s

-- a tab or a window is changed, where a command does so
abbrev pub changed : Option (ℤ × TabChange) → Option (ℤ × WindowChange) → State → State
changed (Some change) other s = on_tab change.0 (changed_tab change.1) s
changed None other s = on_window_where other s
