-- What a tab and a window are when they are made, and what each change makes of them.
use Rattle.std.specs.Prelude.{ℕ, ℤ, pos, negsuc, ◌-ℤ◌, int_lt, false, ◌&&◌, if◌then◌else◌, List, [], nat_eq, Some, None}
use Rattle.std.specs.Int.{int_max}
use Rattle.std.specs.Cmp.Lexicographic.{pointwise}
use Rattle.indexmap.specs.IndexMap as pairs
use Rattle.tab_pages.specs.PageLists.{is_natural, is_positive, is_pruned, prune, prune_back, prune_front, put_page}
use Rattle.window_state.specs.declared.tab.Tab.{Tab}
use Rattle.window_state.specs.declared.window.Window.{Window}
use Rattle.window_state.specs.declared.change.TabChange.{TabChange}
use Rattle.window_state.specs.declared.change.TabChange.TheVariants as tab
use Rattle.window_state.specs.declared.change.TabStep.{TabStep}
use Rattle.window_state.specs.declared.change.TabStep.TheVariants as step
use Rattle.window_state.specs.declared.change.TabEdit.{TabEdit}
use Rattle.window_state.specs.declared.change.TabEdit.TheVariants as tab_edit
use Rattle.window_state.specs.declared.change.WindowChange.{WindowChange}
use Rattle.window_state.specs.declared.change.WindowChange.TheVariants as window
use Rattle.window_state.specs.declared.change.WindowEdit.{WindowEdit}
use Rattle.window_state.specs.declared.change.WindowEdit.TheVariants as window_edit

-- a tab that was just made: in no window, without pages
abbrev pub new_tab : ℤ → Tab
new_tab id = record {
  info = record {
    id = id;
    pinned = false;
    extension = None;
    storage = None;
    guid = None;
    agent = None;
    group = None;
    last_active = pos 0;
    extra = [];
  };
  window = None;
  index = negsuc 0;
  current = negsuc 0;
  pages = [];
}

abbrev pub new_window : ℤ → Window
new_window id = record {
  info = record {
    id = id;
    kind = pos 0;
    bounds = None;
    app = None;
    workspace = None;
    all_workspaces = false;
    title = None;
    extra = [];
  };
  selected = negsuc 0;
}

-- the current index when pages at the front go
abbrev pub current_front : ℤ → ℤ → ℤ
current_front count current = if is_positive count then int_max (negsuc 0) (current -ℤ count) else current

-- the current index when pages in a range go: before the range where it was in it
abbrev pub current_pruned : ℤ → ℤ → ℤ → ℤ
current_pruned first count current =
    if is_natural first && is_positive count
    then (if is_pruned first count current then first -ℤ pos 1 else (if int_lt first current then current -ℤ count else current))
    else current

-- a tab when pages at its front go, and when pages in a range go
abbrev pub front_pruned : ℤ → Tab → Tab
front_pruned count t = record t { pages = prune_front count t.pages; current = current_front count t.current }

abbrev pub range_pruned : ℤ → ℤ → Tab → Tab
range_pruned first count t = record t { pages = prune first count t.pages; current = current_pruned first count t.current }

-- the value of a key is set; a new key goes last
abbrev pub set_pair : List ℕ → List ℕ → List (List ℕ × List ℕ) → List (List ℕ × List ℕ)
set_pair key value extra = pairs.insert_entry (pointwise nat_eq) extra key value

abbrev pub changed_tab : TabChange → Tab → Tab
changed_tab (tab.Index index) t = record t { index = index }
changed_tab (tab.Page index navigation) t = record t { pages = put_page index navigation t.pages }
changed_tab (tab.Current index) t = record t { current = index }
changed_tab (tab.PruneBack index) t = record t { pages = prune_back index t.pages }
changed_tab (tab.PruneFront count) t = front_pruned count t
changed_tab (tab.Prune index count) t = range_pruned index count t
changed_tab (tab.Pinned pinned) t = record t { info = record t.info { pinned = pinned } }
changed_tab (tab.Extension text) t = record t { info = record t.info { extension = Some text } }
changed_tab (tab.Storage text) t = record t { info = record t.info { storage = Some text } }
changed_tab (tab.Guid text) t = record t { info = record t.info { guid = Some text } }
changed_tab (tab.Agent rest) t = record t { info = record t.info { agent = Some rest } }
changed_tab (tab.Group group) t = record t { info = record t.info { group = group } }
changed_tab (tab.LastActive time) t = record t { info = record t.info { last_active = time } }
changed_tab (tab.ExtraValue key value) t = record t { info = record t.info { extra = set_pair key value t.info.extra } }

abbrev pub stepped_tab : TabStep → Tab → Tab
stepped_tab (step.Placed window) t = record t { window = Some window }
stepped_tab (step.Changed change) t = changed_tab change t

-- an edit as the change that it is
abbrev pub edit_change : TabEdit → TabChange
edit_change (tab_edit.Index index) = tab.Index index
edit_change (tab_edit.Current index) = tab.Current index
edit_change (tab_edit.PruneBack index) = tab.PruneBack index
edit_change (tab_edit.PruneFront count) = tab.PruneFront count
edit_change (tab_edit.Pinned pinned) = tab.Pinned pinned
edit_change (tab_edit.Group group) = tab.Group group
edit_change (tab_edit.LastActive time) = tab.LastActive time

abbrev pub edited_tab : TabEdit → Tab → Tab
edited_tab edit = changed_tab (edit_change edit)

abbrev pub changed_window : WindowChange → Window → Window
changed_window (window.Selected index) w = record w { selected = index }
changed_window (window.Kind kind) w = record w { info = record w.info { kind = kind } }
changed_window (window.Bounded bounds) w = record w { info = record w.info { bounds = Some bounds } }
changed_window (window.App text) w = record w { info = record w.info { app = Some text } }
changed_window (window.Workspace text) w = record w { info = record w.info { workspace = Some text } }
changed_window (window.AllWorkspaces all) w = record w { info = record w.info { all_workspaces = all } }
changed_window (window.Title text) w = record w { info = record w.info { title = Some text } }
changed_window (window.ExtraValue key value) w = record w { info = record w.info { extra = set_pair key value w.info.extra } }

abbrev pub window_edit_change : WindowEdit → WindowChange
window_edit_change (window_edit.Selected index) = window.Selected index
window_edit_change (window_edit.Bounded bounds) = window.Bounded bounds

abbrev pub edited_window : WindowEdit → Window → Window
edited_window edit = changed_window (window_edit_change edit)
