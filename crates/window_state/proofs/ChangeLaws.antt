-- What a tab and a window keep when they are changed.
use Rattle.std.proofs.Common.{◌≡◌, ℤ, pos, int_lt, List, Option, refl}
use Rattle.navigation_entry.specs.declared.navigation.Navigation.{Navigation}
use Rattle.window_state.specs.declared.tab.Tab.{Tab}
use Rattle.window_state.specs.declared.window.Window.{Window}
use Rattle.window_state.specs.declared.change.TabChange.{TabChange}
use Rattle.window_state.specs.declared.change.TabChange.TheVariants as tab
use Rattle.window_state.specs.declared.change.TabEdit.{TabEdit}
use Rattle.window_state.specs.declared.change.TabEdit.TheVariants as tab_edit
use Rattle.window_state.specs.declared.change.WindowChange.{WindowChange}
use Rattle.window_state.specs.declared.change.WindowChange.TheVariants as window
use Rattle.window_state.specs.declared.change.WindowEdit.{WindowEdit}
use Rattle.window_state.specs.declared.change.WindowEdit.TheVariants as window_edit
use Rattle.tab_pages.specs.PageLists.{IsRising, prune, prune_back, prune_front, put_page}
use Rattle.window_state.specs.Keys.{tab_key, window_key}
use Rattle.window_state.specs.Changes.{new_tab, new_window, changed_tab, changed_window, current_front, current_pruned}
use Rattle.window_state.specs.Changes.{edit_change, window_edit_change}
use Rattle.window_state.specs.Fits.{IsKeptTab, IsKeptWindow, TabChangeFits, WindowChangeFits}
use Rattle.window_state.proofs.ExtraLaws.{fits-set, distinct-set, distinct-none}
use Rattle.tab_pages.proofs.PageLaws.{rising-filter, rising-prune, rising-prune_front, rising-put_page}

-- what is known of a tab stays, wherever it stands and whatever pages it has
pub moved-tab : (t : Tab) (window : Option ℤ) (index current : ℤ) (pages : List (ℤ × Navigation)) → IsRising (pos 0) pages → IsKeptTab t
    → IsKeptTab (record { info = t.info; window = window; index = index; current = current; pages = pages })
moved-tab t window index current pages rising k = record { extension = k.extension; storage = k.storage; guid = k.guid; agent = k.agent; extra = k.extra; distinct = k.distinct; rising = rising }

pub kept-changed_tab : (change : TabChange) (t : Tab) → TabChangeFits change → IsKeptTab t → IsKeptTab (changed_tab change t)
kept-changed_tab (tab.Index index) t c k = moved-tab t t.window index t.current t.pages k.rising k
kept-changed_tab (tab.Page index n) t c k = moved-tab t t.window t.index t.current (put_page index n t.pages) (rising-put_page index n t.pages k.rising) k
kept-changed_tab (tab.Current index) t c k = moved-tab t t.window t.index index t.pages k.rising k
kept-changed_tab (tab.PruneBack index) t c k = moved-tab t t.window t.index t.current (prune_back index t.pages) (rising-filter (λ page. int_lt page.0 index) (pos 0) t.pages k.rising) k
kept-changed_tab (tab.PruneFront count) t c k = moved-tab t t.window t.index (current_front count t.current) (prune_front count t.pages) (rising-prune_front count t.pages k.rising) k
kept-changed_tab (tab.Prune index count) t c k = moved-tab t t.window t.index (current_pruned index count t.current) (prune index count t.pages) (rising-prune index count t.pages k.rising) k
kept-changed_tab (tab.Pinned pinned) t c k = record { extension = k.extension; storage = k.storage; guid = k.guid; agent = k.agent; extra = k.extra; distinct = k.distinct; rising = k.rising }
kept-changed_tab (tab.Extension text) t c k = record { extension = c; storage = k.storage; guid = k.guid; agent = k.agent; extra = k.extra; distinct = k.distinct; rising = k.rising }
kept-changed_tab (tab.Storage text) t c k = record { extension = k.extension; storage = c; guid = k.guid; agent = k.agent; extra = k.extra; distinct = k.distinct; rising = k.rising }
kept-changed_tab (tab.Guid text) t c k = record { extension = k.extension; storage = k.storage; guid = c; agent = k.agent; extra = k.extra; distinct = k.distinct; rising = k.rising }
kept-changed_tab (tab.Agent rest) t c k = record { extension = k.extension; storage = k.storage; guid = k.guid; agent = c; extra = k.extra; distinct = k.distinct; rising = k.rising }
kept-changed_tab (tab.Group group) t c k = record { extension = k.extension; storage = k.storage; guid = k.guid; agent = k.agent; extra = k.extra; distinct = k.distinct; rising = k.rising }
kept-changed_tab (tab.LastActive time) t c k = record { extension = k.extension; storage = k.storage; guid = k.guid; agent = k.agent; extra = k.extra; distinct = k.distinct; rising = k.rising }
kept-changed_tab (tab.ExtraValue key value) t c k = record { extension = k.extension; storage = k.storage; guid = k.guid; agent = k.agent; extra = fits-set key value t.info.extra c k.extra; distinct = distinct-set key value t.info.extra k.distinct; rising = k.rising }

-- a change leaves the key, and a tab's window
pub tab_stays : (change : TabChange) (t : Tab) → (tab_key (changed_tab change t) ≡ tab_key t) × ((changed_tab change t).window ≡ t.window)
tab_stays (tab.Index index) t = (refl, refl)
tab_stays (tab.Page index navigation) t = (refl, refl)
tab_stays (tab.Current index) t = (refl, refl)
tab_stays (tab.PruneBack index) t = (refl, refl)
tab_stays (tab.PruneFront count) t = (refl, refl)
tab_stays (tab.Prune index count) t = (refl, refl)
tab_stays (tab.Pinned pinned) t = (refl, refl)
tab_stays (tab.Extension text) t = (refl, refl)
tab_stays (tab.Storage text) t = (refl, refl)
tab_stays (tab.Guid text) t = (refl, refl)
tab_stays (tab.Agent rest) t = (refl, refl)
tab_stays (tab.Group group) t = (refl, refl)
tab_stays (tab.LastActive time) t = (refl, refl)
tab_stays (tab.ExtraValue key value) t = (refl, refl)

pub kept-changed_window : (change : WindowChange) (w : Window) → WindowChangeFits change → IsKeptWindow w → IsKeptWindow (changed_window change w)
kept-changed_window (window.Selected index) w c k = record { app = k.app; workspace = k.workspace; title = k.title; extra = k.extra; distinct = k.distinct }
kept-changed_window (window.Kind kind) w c k = record { app = k.app; workspace = k.workspace; title = k.title; extra = k.extra; distinct = k.distinct }
kept-changed_window (window.Bounded bounds) w c k = record { app = k.app; workspace = k.workspace; title = k.title; extra = k.extra; distinct = k.distinct }
kept-changed_window (window.App text) w c k = record { app = c; workspace = k.workspace; title = k.title; extra = k.extra; distinct = k.distinct }
kept-changed_window (window.Workspace text) w c k = record { app = k.app; workspace = c; title = k.title; extra = k.extra; distinct = k.distinct }
kept-changed_window (window.AllWorkspaces all) w c k = record { app = k.app; workspace = k.workspace; title = k.title; extra = k.extra; distinct = k.distinct }
kept-changed_window (window.Title text) w c k = record { app = k.app; workspace = k.workspace; title = c; extra = k.extra; distinct = k.distinct }
kept-changed_window (window.ExtraValue key value) w c k = record { app = k.app; workspace = k.workspace; title = k.title; extra = fits-set key value w.info.extra c k.extra; distinct = distinct-set key value w.info.extra k.distinct }

pub window_key_stays : (change : WindowChange) (w : Window) → window_key (changed_window change w) ≡ window_key w
window_key_stays (window.Selected index) w = refl
window_key_stays (window.Kind kind) w = refl
window_key_stays (window.Bounded bounds) w = refl
window_key_stays (window.App text) w = refl
window_key_stays (window.Workspace text) w = refl
window_key_stays (window.AllWorkspaces all) w = refl
window_key_stays (window.Title text) w = refl
window_key_stays (window.ExtraValue key value) w = refl

pub kept-new_tab : (id : ℤ) → IsKeptTab (new_tab id)
kept-new_tab id = record { extension = tt; storage = tt; guid = tt; agent = tt; extra = tt; distinct = distinct-none; rising = tt }

pub kept-new_window : (id : ℤ) → IsKeptWindow (new_window id)
kept-new_window id = record { app = tt; workspace = tt; title = tt; extra = tt; distinct = distinct-none }

-- no edit has a text
pub tab_edit-fits : (edit : TabEdit) → TabChangeFits (edit_change edit)
tab_edit-fits (tab_edit.Index index) = tt
tab_edit-fits (tab_edit.Current index) = tt
tab_edit-fits (tab_edit.PruneBack index) = tt
tab_edit-fits (tab_edit.PruneFront count) = tt
tab_edit-fits (tab_edit.Pinned pinned) = tt
tab_edit-fits (tab_edit.Group group) = tt
tab_edit-fits (tab_edit.LastActive time) = tt

pub window_edit-fits : (edit : WindowEdit) → WindowChangeFits (window_edit_change edit)
window_edit-fits (window_edit.Selected index) = tt
window_edit-fits (window_edit.Bounded bounds) = tt
