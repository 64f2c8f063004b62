-- The commands of a tab make it behind the tabs that stand, in a window that stands.
use Rattle.std.proofs.Common.{◌≡◌, ℕ, ◌<◌, ◌≤◌, ℤ, pos, negsuc, Bool, true, false, List, [], ◌∷◌, ◌++◌, map, length, Option, Some, None, IfSome, refl, ap, subst, ◌∙◌}
use Rattle.std.specs.declared.cmp.Ordering.TheVariants.{Equal}
use Rattle.std.specs.Ordering.{int_cmp}
use Rattle.std.specs.List.Sorted.{IsStrictlySortedBy}
use Rattle.std.specs.Cmp.{int_cmp_total}
use Rattle.std.proofs.lemmas.Bool.{le-leb}
use Rattle.navigation_entry.specs.declared.navigation.Navigation.{Navigation}
use Rattle.session_commands.specs.declared.command.SessionCommand.TheVariants.{UpdateNavigation, Extension, SessionStorage, TabGuid, UserAgent, TabExtra, TabWindow, TabIndex, SelectNavigation, Pinned, LastActive, TabGroup}
use Rattle.window_state.specs.declared.group_id.GroupId.{GroupId}
use Rattle.window_state.specs.declared.tab.Tab.{Tab}
use Rattle.window_state.specs.declared.window.Window.{Window}
use Rattle.window_state.specs.Limits.{limit}
use Rattle.window_state.specs.Keys.{tab_key, window_key}
use Rattle.window_state.specs.Fits.{IsKeptTab}
use Rattle.tab_pages.specs.PageLists.{put_page}
use Rattle.window_state.specs.Changes.{new_tab, new_window, set_pair}
use Rattle.window_state.specs.States.{State, HasWindow, stands, on_tab, placed}
use Rattle.window_state.proofs.StateLaws.{itself}
use Rattle.compaction_runs.specs.Runs.{Leads}
use Rattle.compaction_runs.proofs.RunLaws.{followed, leads-one, leads-given, leads-flagged, leads-unusual, leads-map}
use Rattle.compaction_runs.proofs.Appended.{put-page-behind}
use Rattle.compactor.specs.session.Compaction.{tab_commands}
use Rattle.compactor.specs.session.SessionKind.{session_kind}
use Rattle.compactor.specs.session.Laws.AppendedRows.{IsBehind, step-behind, step-last, step-standing, set-pair-behind}
use Rattle.compactor.specs.session.Laws.WindowRuns.{within-push}

abbrev pub with_tabs : List Window → List Tab → State
with_tabs windows tabs = record { tabs = tabs; windows = windows; groups = []; active = None }

module _ (windows : List Window) (few : length windows ≤ limit) (done : List Tab) (id : ℤ) (behind : IsBehind int_cmp tab_key id done) (room : length done < limit) where
  made : (change : Tab → Tab) → on_tab id change (with_tabs windows done) ≡ with_tabs windows (done ++ change (new_tab id) ∷ [])
  made change = rw (step-behind int_cmp tab_key id (new_tab id) change done behind, within-push done (change (new_tab id)) room, le-leb (length windows) limit few) refl

  changed : (change : Tab → Tab) (t : Tab) → tab_key t ≡ id → on_tab id change (with_tabs windows (done ++ t ∷ [])) ≡ with_tabs windows (done ++ change t ∷ [])
  changed change t own =
      let same : int_cmp id (tab_key t) ≡ Equal = rw own (itself id) in
      rw (step-last int_cmp tab_key id (new_tab id) change done t behind same, within-push done (change t) room, le-leb (length windows) limit few) refl

  in_window : IsStrictlySortedBy int_cmp (map window_key windows) → (window : ℤ) → stands window windows ≡ true → (t : Tab) → tab_key t ≡ id
      → placed window id (with_tabs windows (done ++ t ∷ [])) ≡ with_tabs windows (done ++ record t { window = Some window } ∷ [])
  in_window sorted window standing t own =
      rw (step-standing int_cmp window_key int_cmp_total window (new_window window) windows sorted standing) (changed (λ x. record x { window = Some window }) t own)

abbrev tab_of : ℤ → ℤ → Option ℤ → List (ℤ × Navigation) → ℤ → Bool → Option (List ℕ) → Option (List ℕ) → Option (List ℕ) → Option (List ℕ) → ℤ → Option GroupId → List (List ℕ × List ℕ) → Tab
tab_of id index window pages current pinned extension storage guid agent last_active group extra = record {
  info = record { id = id; pinned = pinned; extension = extension; storage = storage; guid = guid; agent = agent; group = group; last_active = last_active; extra = extra };
  window = window;
  index = index;
  current = current;
  pages = pages;
}

pub leads-tab : (windows : List Window) → length windows ≤ limit → IsStrictlySortedBy int_cmp (map window_key windows) → (done : List Tab) (t : Tab) → IsBehind int_cmp tab_key t.info.id done → length done < limit
    → HasWindow windows t → IsKeptTab t → Leads session_kind (with_tabs windows done) (tab_commands t) (with_tabs windows (done ++ t ∷ []))
leads-tab windows few sorted done t behind room has kept =
    let id = t.info.id in
    let i = t.info in
    let state : Tab → State = λ x. with_tabs windows (done ++ x ∷ []) in
    let so_far = tab_of id t.index in
    let change = changed windows few done id behind room in
    followed (followed (followed (followed (followed (followed (followed (followed (followed (followed (followed
    (leads-one session_kind (with_tabs windows done) (state (so_far None [] (negsuc 0) false None None None None (pos 0) None [])) (TabIndex id t.index)
    (made windows few done id behind room (λ x. record x { index = t.index })))
    (leads-given session_kind (λ window. TabWindow window id) (λ window. state (so_far window [] (negsuc 0) false None None None None (pos 0) None [])) t.window
    (λ window is. in_window windows few done id behind room sorted window (subst (λ w. IfSome w (λ own. stands own windows ≡ true)) is has) (so_far None [] (negsuc 0) false None None None None (pos 0) None []) refl)))
    (leads-map session_kind (λ pages. state (so_far t.window pages (negsuc 0) false None None None None (pos 0) None [])) t.pages (λ page. UpdateNavigation id page.0 page.1)
    (λ before rest page whole. change (λ x. record x { pages = put_page page.0 page.1 x.pages }) (so_far t.window before (negsuc 0) false None None None None (pos 0) None []) refl
    ∙ ap (λ pages. state (so_far t.window pages (negsuc 0) false None None None None (pos 0) None [])) (put-page-behind t.pages before rest page kept.rising whole))))
    (leads-unusual session_kind (negsuc 0) (λ index. SelectNavigation id index) (λ current. state (so_far t.window t.pages current false None None None None (pos 0) None [])) t.current
    (change (λ x. record x { current = t.current }) (so_far t.window t.pages (negsuc 0) false None None None None (pos 0) None []) refl)))
    (leads-flagged session_kind (Pinned id true) (λ pinned. state (so_far t.window t.pages t.current pinned None None None None (pos 0) None [])) i.pinned
    (change (λ x. record x { info = record x.info { pinned = true } }) (so_far t.window t.pages t.current false None None None None (pos 0) None []) refl)))
    (leads-given session_kind (λ text. Extension id text []) (λ extension. state (so_far t.window t.pages t.current i.pinned extension None None None (pos 0) None [])) i.extension
    (λ text _. change (λ x. record x { info = record x.info { extension = Some text } }) (so_far t.window t.pages t.current i.pinned None None None None (pos 0) None []) refl)))
    (leads-given session_kind (λ text. SessionStorage id text []) (λ storage. state (so_far t.window t.pages t.current i.pinned i.extension storage None None (pos 0) None [])) i.storage
    (λ text _. change (λ x. record x { info = record x.info { storage = Some text } }) (so_far t.window t.pages t.current i.pinned i.extension None None None (pos 0) None []) refl)))
    (leads-given session_kind (λ text. TabGuid id text []) (λ guid. state (so_far t.window t.pages t.current i.pinned i.extension i.storage guid None (pos 0) None [])) i.guid
    (λ text _. change (λ x. record x { info = record x.info { guid = Some text } }) (so_far t.window t.pages t.current i.pinned i.extension i.storage None None (pos 0) None []) refl)))
    (leads-given session_kind (λ rest. UserAgent id rest) (λ agent. state (so_far t.window t.pages t.current i.pinned i.extension i.storage i.guid agent (pos 0) None [])) i.agent
    (λ rest _. change (λ x. record x { info = record x.info { agent = Some rest } }) (so_far t.window t.pages t.current i.pinned i.extension i.storage i.guid None (pos 0) None []) refl)))
    (leads-unusual session_kind (pos 0) (λ time. LastActive id time) (λ time. state (so_far t.window t.pages t.current i.pinned i.extension i.storage i.guid i.agent time None [])) i.last_active
    (change (λ x. record x { info = record x.info { last_active = i.last_active } }) (so_far t.window t.pages t.current i.pinned i.extension i.storage i.guid i.agent (pos 0) None []) refl)))
    (leads-given session_kind (λ group. TabGroup id group.high group.low true) (λ group. state (so_far t.window t.pages t.current i.pinned i.extension i.storage i.guid i.agent i.last_active group [])) i.group
    (λ group _. change (λ x. record x { info = record x.info { group = Some group } }) (so_far t.window t.pages t.current i.pinned i.extension i.storage i.guid i.agent i.last_active None []) refl)))
    (leads-map session_kind (λ extra. state (so_far t.window t.pages t.current i.pinned i.extension i.storage i.guid i.agent i.last_active i.group extra)) i.extra (λ pair. TabExtra id pair.0 pair.1 [])
    (λ before rest pair whole. change (λ x. record x { info = record x.info { extra = set_pair pair.0 pair.1 x.info.extra } }) (so_far t.window t.pages t.current i.pinned i.extension i.storage i.guid i.agent i.last_active i.group before) refl
    ∙ ap (λ extra. state (so_far t.window t.pages t.current i.pinned i.extension i.storage i.guid i.agent i.last_active i.group extra)) (set-pair-behind i.extra before rest pair kept.distinct whole)))
