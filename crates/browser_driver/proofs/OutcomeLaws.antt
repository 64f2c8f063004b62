-- A verb leaves the groups in order, and what it issues of closed entries leads to those of the browser after it.
use Rattle.std.proofs.Common.{◌≡◌, ℕ, ◌≤◌, ◌^◌, ◌-◌, ◌+ℤ◌, int_lt, Bool, true, false, ℤ, pos, List, []}
use Rattle.std.proofs.Common.{◌∷◌, map, length, Option, Some, None, IfSome, Ok, refl, sym, ap, subst, ◌∙◌}
use Rattle.std.specs.Ordering.{int_eq}
use Rattle.std.specs.List.Sorted.{IsStrictlySortedBy}
use Rattle.navigation_entry.specs.declared.group.GroupInfo.{GroupInfo}
use Rattle.session_commands.specs.declared.command.SessionCommand.{SessionCommand}
use Rattle.session_commands.specs.declared.command.SessionCommand.TheVariants as command
use Rattle.script_lines.specs.declared.verb.Verb.{Verb}
use Rattle.script_lines.specs.declared.verb.Verb.TheVariants.{At, Window, Tab, Visit, Back, Forward, Pin, Unpin}
use Rattle.script_lines.specs.declared.verb.Verb.TheVariants.{Ungroup, CloseTab, Move, Select, SetBounds, Group, Title}
use Rattle.script_lines.specs.declared.verb.Verb.TheVariants.{Active, CloseWindow, Sync, Compact}
use Rattle.closed_entries.specs.declared.entry.Entry.{Entry}
use Rattle.closed_entries.specs.declared.limits.TheConstants.{ENTRIES}
use Rattle.closed_entries.specs.States as closed
use Rattle.closed_entries.specs.States.{IsEntry}
use Rattle.window_state.specs.Keys.{group_key, group_cmp}
use Rattle.browser_model.specs.Browsers.{Browser, BrowserTab, BrowserWindow, Stand, stand_key}
use Rattle.browser_model.specs.Closing as closing
use Rattle.browser_model.specs.Entries.{entry_of_tab, entry_of_window, left_commands, with_left}
use Rattle.browser_model.specs.Moving as moving
use Rattle.browser_model.specs.Navigations.{given_group, titled_page, visit_state, visited_page}
use Rattle.browser_model.specs.Opening as opening
use Rattle.browser_model.specs.OneTab as tab
use Rattle.browser_model.specs.OneTab.{current_page}
use Rattle.browser_model.specs.OneWindow as window
use Rattle.browser_model.specs.Pictures.{nat_of}
use Rattle.browser_model.specs.Tabs.{put_tab, stand_of}
use Rattle.browser_model.proofs.GroupingLaws.{sorted-put}
use Rattle.browser_driver.specs.declared.fault.VerbFault.TheVariants.{NoWindow, NoTab, Taken, NoBack, NoForward, NoPage}
use Rattle.browser_driver.specs.declared.fault.VerbFault.TheVariants.{Place, Full}
use Rattle.browser_driver.specs.Acts.{Outcome, outcome, asked, asks, refused_where, issues, window_of, at_window}
use Rattle.browser_driver.specs.Acts.{changes_tab, is_open, is_live, has_most_windows, lacks_room, is_above, isnt_below, visits, moves}
use Rattle.browser_driver.specs.Acts.{titles, groups_tab, closes_tab, closes_window, act}
use Rattle.browser_driver.proofs.ActLaws.{IsDone, on-found, on-passed, on-made}
use Rattle.machine_law.specs.Kind.{fold}
use Rattle.tabs_compactor.specs.TabsKind.{tabs_kind}
use Rattle.tabs_compactor.specs.Laws.EntryRuns.{entry-closed}

abbrev pub AreInOrder : List GroupInfo → Type 0
AreInOrder groups = IsStrictlySortedBy group_cmp (map group_key groups)

-- the entry that a verb leaves
abbrev pub left_of_tab : Browser → Option Stand → Option Entry
left_of_tab b None = None
left_of_tab b (Some st) = entry_of_tab b.groups b.moment st.tab

abbrev pub left_of_window : Browser → Option BrowserWindow → Option Entry
left_of_window b None = None
left_of_window b (Some w) = entry_of_window b.groups b.moment w

abbrev pub left_of : Verb → Browser → Option Entry
left_of (CloseTab t) b = left_of_tab b (stand_of t b)
left_of (CloseWindow w) b = left_of_window b (window_of w b)
left_of verb b = None

-- of groups and closed entries, of which this one is left
pub record Leaves (b : Browser) (left : Option Entry) (o : Outcome) : Type 0 where
  pub groups : AreInOrder b.groups → AreInOrder o.browser.groups
  pub tabs : o.tabs ≡ left_commands left
  pub closed : o.browser.closed ≡ with_left left b.closed

module _ (b : Browser) (o : Outcome) where
  -- nothing is left, and groups stay
  issued : (new : Browser) (commands : List SessionCommand) → new.groups ≡ b.groups → new.closed ≡ b.closed
      → IsDone (issues new commands) o → Leaves b None o
  issued new commands same kept done =
      on-made (Leaves b None) (outcome new commands []) o done
      (record { groups = λ sorted. subst AreInOrder (sym same) sorted; tabs = refl; closed = kept })

  asked-leaves : (sync compact : Bool) → IsDone (asks sync compact b) o → Leaves b None o
  asked-leaves sync compact done =
      on-made (Leaves b None) (asked sync compact b) o done
      (record { groups = λ sorted. sorted; tabs = refl; closed = refl })

  changed : (st : Stand) (new : BrowserTab) (commands : List SessionCommand) → IsDone (changes_tab st new commands b) o
      → Leaves b None o
  changed st new commands done =
      issued (record b { windows = put_tab (stand_key st) new b.windows }) commands refl refl done

  visit-leaves : (t : ℤ) (url : List ℕ) (state : ℕ) (title : List ℕ) (st : Stand)
      → IsDone (visits t url state title b st) o → Leaves b None o
  visit-leaves t url state title st done =
      let page = visited_page url title (visit_state state) b.moment in
      on-passed (int_eq st.tab.current (pos (2 ^ 31 - 1))) (Full t)
      (changes_tab st (tab.visited page b.moment st.tab) (tab.visit page b.moment st.tab) b) o done (λ few done.
      changed st (tab.visited page b.moment st.tab) (tab.visit page b.moment st.tab) done)

  title-leaves : (t : ℤ) (title : List ℕ) (st : Stand) → IsDone (titles t title b st) o → Leaves b None o
  title-leaves t title st done =
      on-found (current_page st.tab) (NoPage t) (λ page. changes_tab st (tab.titled (titled_page title page) st.tab)
      (tab.title (titled_page title page) st.tab) b) o done (λ page some done.
      changed st (tab.titled (titled_page title page) st.tab) (tab.title (titled_page title page) st.tab) done)

  group-leaves : (high low colour : ℕ) (title : List ℕ) (st : Stand)
      → IsDone (groups_tab high low colour title b st) o → Leaves b None o
  group-leaves high low colour title st done =
      let group = given_group high low title colour in
      on-made (Leaves b None) (outcome (tab.grouped_tab group st b) (tab.group_tab group st.tab) []) o done
      (record { groups = sorted-put group b.groups; tabs = refl; closed = refl })

  close-leaves : (st : Stand) → IsDone (closes_tab b st) o
      → Leaves b (entry_of_tab b.groups b.moment st.tab) o
  close-leaves st done =
      let left = entry_of_tab b.groups b.moment st.tab in
      on-made (Leaves b left) (outcome (record (closing.closed_tab (stand_key st) b) { closed = with_left left b.closed })
      (closing.close_tab st b) (left_commands left)) o done (record { groups = λ sorted. sorted; tabs = refl; closed = refl })

  close_window-leaves : (w : BrowserWindow) → IsDone (closes_window b w) o
      → Leaves b (entry_of_window b.groups b.moment w) o
  close_window-leaves w done =
      let left = entry_of_window b.groups b.moment w in
      on-made (Leaves b left) (outcome (record (closing.closed_window w.info.id b) { closed = with_left left b.closed })
      (closing.close_window w.info.id b) (left_commands left)) o done (record { groups = λ sorted. sorted; tabs = refl; closed = refl })

  move-leaves : (w place : ℤ) (st : Stand) → IsDone (moves w place b st) o → Leaves b None o
  move-leaves w place st done =
      on-passed (is_above place (length (moving.others_of st w b.windows))) (Place place)
      (issues (moving.moved_tab st w (nat_of place) b) (moving.move st w (nat_of place) b)) o done (λ low done.
      issued (moving.moved_tab st w (nat_of place) b) (moving.move st w (nat_of place) b) refl refl done)

pub act-leaves : (verb : Verb) (b : Browser) (o : Outcome) → IsDone (act verb b) o → Leaves b (left_of verb b) o
act-leaves (At moment) b o done = issued b o (record b { moment = moment }) [] refl refl done
act-leaves (Window w) b o done =
    let new = opening.opened_window w b in
    on-passed (is_open w b) (Taken w) (refused_where (has_most_windows b) (Full w)
    (issues new (opening.open_window w))) o done (λ absent done.
    on-passed (has_most_windows b) (Full w) (issues new (opening.open_window w)) o done (λ few done.
    issued b o new (opening.open_window w) refl refl done))
act-leaves (Tab w t) b o done =
    let new = opening.opened_tab w t b in
    on-passed (is_live t b) (Taken t) (refused_where (lacks_room w b) (Full t)
    (issues new (opening.open_tab w t b))) o done (λ absent done.
    on-passed (lacks_room w b) (Full t) (issues new (opening.open_tab w t b)) o done (λ room done.
    issued b o new (opening.open_tab w t b) refl refl done))
act-leaves (Visit t url state title) b o done =
    on-found (stand_of t b) (NoTab t) (visits t url state title b) o done
    (λ st found done. visit-leaves b o t url state title st done)
act-leaves (Back t) b o done =
    on-found (stand_of t b) (NoTab t) (λ st. refused_where (int_lt st.tab.current (pos 1)) (NoBack t)
    (changes_tab st (tab.went_back st.tab) (tab.back st.tab) b)) o done (λ st found done.
    on-passed (int_lt st.tab.current (pos 1)) (NoBack t)
    (changes_tab st (tab.went_back st.tab) (tab.back st.tab) b) o done (λ there done.
    changed b o st (tab.went_back st.tab) (tab.back st.tab) done))
act-leaves (Forward t) b o done =
    on-found (stand_of t b) (NoTab t)
    (λ st. refused_where (isnt_below (st.tab.current +ℤ pos 1) (length st.tab.pages)) (NoForward t)
    (changes_tab st (tab.went_forward st.tab) (tab.forward st.tab) b)) o done (λ st found done.
    on-passed (isnt_below (st.tab.current +ℤ pos 1) (length st.tab.pages)) (NoForward t)
    (changes_tab st (tab.went_forward st.tab) (tab.forward st.tab) b) o done (λ there done.
    changed b o st (tab.went_forward st.tab) (tab.forward st.tab) done))
act-leaves (Pin t) b o done =
    on-found (stand_of t b) (NoTab t) (λ st. changes_tab st (tab.pinned true st.tab) (tab.pin true st.tab) b) o done
    (λ st found done. changed b o st (tab.pinned true st.tab) (tab.pin true st.tab) done)
act-leaves (Unpin t) b o done =
    on-found (stand_of t b) (NoTab t) (λ st. changes_tab st (tab.pinned false st.tab) (tab.pin false st.tab) b) o done
    (λ st found done. changed b o st (tab.pinned false st.tab) (tab.pin false st.tab) done)
act-leaves (Ungroup t) b o done =
    on-found (stand_of t b) (NoTab t) (λ st. changes_tab st (tab.in_group None st.tab) (tab.ungroup st.tab) b) o done
    (λ st found done. changed b o st (tab.in_group None st.tab) (tab.ungroup st.tab) done)
act-leaves (CloseTab t) b o done =
    on-found (stand_of t b) (NoTab t) (closes_tab b) o done (λ st found done.
    subst (λ x. Leaves b (left_of_tab b x) o) (sym found) (close-leaves b o st done))
act-leaves (Move t w place) b o done =
    on-found (stand_of t b) (NoTab t) (λ st. at_window w b (λ own. moves w place b st)) o done (λ st found done.
    on-found (window_of w b) (NoWindow w) (λ own. moves w place b st) o done
    (λ own live done. move-leaves b o w place st done))
act-leaves (Select w place) b o done =
    let new = window.on_window w (window.selected place) b in
    on-found (window_of w b) (NoWindow w) (λ own. refused_where (isnt_below place (length own.tabs)) (Place place)
    (issues new (command.SelectTab w place ∷ []))) o done (λ own found done.
    on-passed (isnt_below place (length own.tabs)) (Place place) (issues new (command.SelectTab w place ∷ [])) o done
    (λ low done. issued b o new (command.SelectTab w place ∷ []) refl refl done))
act-leaves (SetBounds w bounds) b o done =
    let new = window.on_window w (window.bounded bounds) b in
    on-found (window_of w b) (NoWindow w) (λ own. issues new (command.WindowBounds w bounds ∷ [])) o done
    (λ own found done. issued b o new (command.WindowBounds w bounds ∷ []) refl refl done)
act-leaves (Group t high low colour title) b o done =
    on-found (stand_of t b) (NoTab t) (groups_tab high low colour title b) o done
    (λ st found done. group-leaves b o high low colour title st done)
act-leaves (Title t title) b o done =
    on-found (stand_of t b) (NoTab t) (titles t title b) o done (λ st found done. title-leaves b o t title st done)
act-leaves (Active w) b o done =
    let new = record b { active = Some w } in
    on-found (window_of w b) (NoWindow w) (λ own. issues new (command.ActiveWindow w ∷ [])) o done
    (λ own found done. issued b o new (command.ActiveWindow w ∷ []) refl refl done)
act-leaves (CloseWindow w) b o done =
    on-found (window_of w b) (NoWindow w) (closes_window b) o done (λ own found done.
    subst (λ x. Leaves b (left_of_window b x) o) (sym found) (close_window-leaves b o own done))
act-leaves Sync b o done = asked-leaves b o true false done
act-leaves Compact b o done = asked-leaves b o false true done

-- groups stay in order
pub act-groups : (verb : Verb) (b : Browser) (o : Outcome) → AreInOrder b.groups → act verb b ≡ Ok o
    → AreInOrder o.browser.groups
act-groups verb b o sorted done = (act-leaves verb b o done).groups sorted

-- the entry that is left goes behind those that were closed before
left-closed : (left : Option Entry) (c : closed.State) → c.awaited ≡ 0 → length c.entries ≤ ENTRIES
    → IfSome left IsEntry
    → ((fold tabs_kind c (left_commands left)).entries ≡ with_left left c.entries)
    × ((fold tabs_kind c (left_commands left)).awaited ≡ 0)
left-closed None c waits few is = (refl, waits)
left-closed (Some entry) c waits few is =
    let same = entry-closed c entry waits few is in
    (ap (λ (x : closed.State). x.entries) same, ap (λ (x : closed.State). x.awaited) same)

pub act-closed : (verb : Verb) (b : Browser) (o : Outcome) (c : closed.State) → c.awaited ≡ 0
    → c.entries ≡ b.closed → length c.entries ≤ ENTRIES → IfSome (left_of verb b) IsEntry → act verb b ≡ Ok o
    → ((fold tabs_kind c o.tabs).entries ≡ o.browser.closed) × ((fold tabs_kind c o.tabs).awaited ≡ 0)
act-closed verb b o c waits same few is done =
    let leaves = act-leaves verb b o done in
    let left = left-closed (left_of verb b) c waits few is in
    let said = ap (fold tabs_kind c) leaves.tabs in (
      ap (λ (x : closed.State). x.entries) said ∙ left.0 ∙ ap (with_left (left_of verb b)) same ∙ sym leaves.closed,
      ap (λ (x : closed.State). x.awaited) said ∙ left.1,
    )
