-- What a verb issues leads from a state that matches the browser to one that matches the browser after the verb.
use Rattle.std.proofs.Common.{◌≡◌, ℕ, ◌≤◌, ◌^◌, ◌-◌, ◌+ℤ◌, int_lt, Bool, true, false, ℤ, pos, negsuc}
use Rattle.std.proofs.Common.{List, [], ◌∷◌, length, Option, Some, None, Ok, refl, subst, arith}
use Rattle.std.proofs.lemmas.Int.{ints}
use Rattle.std.specs.Ordering.{int_eq}
use Rattle.navigation_entry.specs.declared.bounds.Bounds.{Bounds}
use Rattle.session_commands.specs.declared.command.SessionCommand.{SessionCommand}
use Rattle.session_commands.specs.declared.command.SessionCommand.TheVariants as command
use Rattle.script_lines.specs.declared.verb.Verb.{Verb}
use Rattle.script_lines.specs.declared.verb.Verb.TheVariants.{At, Window, Tab, Visit, Back, Forward, Pin, Unpin}
use Rattle.script_lines.specs.declared.verb.Verb.TheVariants.{Ungroup, CloseTab, Move, Select, SetBounds, Group, Title}
use Rattle.script_lines.specs.declared.verb.Verb.TheVariants.{Active, CloseWindow, Sync, Compact}
use Rattle.closed_entries.specs.declared.entry.Entry.{Entry}
use Rattle.window_state.specs.States.{State}
use Rattle.replay_machine.specs.Step.{fold}
use Rattle.browser_model.specs.Browsers.{Browser, BrowserTab, BrowserWindow, Stand, stand_key, Matches}
use Rattle.browser_model.specs.Closing as closing
use Rattle.browser_model.specs.Entries.{entry_of_tab, entry_of_window, left_commands, with_left}
use Rattle.browser_model.specs.Moving as moving
use Rattle.browser_model.specs.Navigations.{given_group, titled_page, visit_state, visited_page}
use Rattle.browser_model.specs.Opening as opening
use Rattle.browser_model.specs.OneTab as tab
use Rattle.browser_model.specs.OneTab.{current_page}
use Rattle.browser_model.specs.OneWindow as window
use Rattle.browser_model.specs.Pictures.{nat_of}
use Rattle.browser_model.specs.Running.{IsRunning}
use Rattle.browser_model.specs.Tabs.{put_tab, stand_of}
use Rattle.browser_model.proofs.AnyMoveLaws.{move-matches}
use Rattle.browser_model.proofs.BackLaws.{back-matches}
use Rattle.browser_model.proofs.CloseLaws.{close-matches}
use Rattle.browser_model.proofs.CloseWindowLaws.{close_window-matches}
use Rattle.browser_model.proofs.ForwardLaws.{forward-matches}
use Rattle.browser_model.proofs.GroupingLaws.{ungroup-matches, group-matches}
use Rattle.browser_model.proofs.OpenLaws.{open-matches}
use Rattle.browser_model.proofs.OpenWindowLaws.{normal, open_window-matches}
use Rattle.browser_model.proofs.RoomLaws.{room-window, room-tab}
use Rattle.browser_model.proofs.RunningLaws.{running-fold}
use Rattle.browser_model.proofs.Splits.{find-split}
use Rattle.browser_model.proofs.TabLaws.{pin-matches, visit-matches, own-id}
use Rattle.browser_model.proofs.TitleLaws.{title-matches}
use Rattle.browser_model.proofs.WindowLaws.{select-matches, bounds-matches, active-matches}
use Rattle.browser_driver.specs.declared.fault.VerbFault.{VerbFault}
use Rattle.browser_driver.specs.declared.fault.VerbFault.TheVariants.{NoWindow, NoTab, Taken, NoBack, NoForward, NoPage}
use Rattle.browser_driver.specs.declared.fault.VerbFault.TheVariants.{Place, Full}
use Rattle.browser_driver.specs.Acts.{Outcome, Answer, outcome, asked, asks, refused_where, issues, with_found, at_tab}
use Rattle.browser_driver.specs.Acts.{window_of, at_window, changes_tab, is_open, is_live, has_most_windows, lacks_room, is_above, isnt_below}
use Rattle.browser_driver.specs.Acts.{visits, moves, titles, groups_tab, closes_tab, closes_window, act}

-- an answer is this outcome
abbrev pub IsDone : Answer → Outcome → Type 0
IsDone answer o = answer ≡ Ok o

-- where a verb is done, what it asks for was found, it wasn't refused, and the outcome is what was made
pub on-found : {A P : Type 0} (found : Option A) (why : VerbFault) (answer : A → Answer) (o : Outcome)
    → IsDone (with_found found why answer) o → ((x : A) → found ≡ Some x → IsDone (answer x) o → P) → P
on-found None why answer o done then = absurd cc
on-found (Some x) why answer o done then = then x refl done

pub on-passed : {P : Type 0} (refused : Bool) (why : VerbFault) (answer : Answer) (o : Outcome)
    → IsDone (refused_where refused why answer) o → (refused ≡ false → IsDone answer o → P) → P
on-passed true why answer o done then = absurd cc
on-passed false why answer o done then = then refl done

pub on-made : (P : Outcome → Type 0) (made o : Outcome) → IsDone (Ok made) o → P made → P o
on-made P made o done holds = let same : made ≡ o = cc in subst P same holds

-- the state matches still where the closed entries or the moment change
still : (s : State) (b : Browser) (closed : List Entry) (moment : ℤ) → Matches s b
    → Matches s (record b { closed = closed; moment = moment })
still s b closed moment m = record {
  tabs = m.tabs;
  windows = m.windows;
  active = m.active;
  groups = m.groups;
  at_page = m.at_page;
}

at-most : (place : ℤ) (n : ℕ) → is_above place n ≡ false → nat_of place ≤ n
at-most (pos k) n low = grind (arith, ints)
at-most (negsuc k) n low = omega arith

module _ (s : State) (b : Browser) (o : Outcome) (r : IsRunning s) (m : Matches s b) where
  abbrev Leads : Outcome → Type 0
  Leads x = Matches (fold s x.session) x.browser

  issued : (new : Browser) (commands : List SessionCommand) → IsDone (issues new commands) o
      → Matches (fold s commands) new → Leads o
  issued new commands done leads =
      on-made Leads (outcome new commands []) o done leads

  asked-leads : (sync compact : Bool) → IsDone (asks sync compact b) o → Leads o
  asked-leads sync compact done = on-made Leads (asked sync compact b) o done m

  -- a tab becomes another
  changed : (id : ℤ) (st : Stand) (new : BrowserTab) (commands : List SessionCommand) → stand_of id b ≡ Some st
      → IsDone (changes_tab st new commands b) o
      → Matches (fold s commands) (record b { windows = put_tab id new b.windows }) → Leads o
  changed id st new commands found done leads =
      issued (record b { windows = put_tab (stand_key st) new b.windows }) commands done
      (subst (λ q. Matches (fold s commands) (record b { windows = put_tab q new b.windows }))
      (own-id s b id st r m found) leads)

  window-leads : (w : ℤ) → IsDone (act (Window w) b) o → Leads o
  window-leads w done =
      on-passed (is_open w b) (Taken w) (refused_where (has_most_windows b) (Full w)
      (issues (opening.opened_window w b) (opening.open_window w))) o done (λ absent done.
      on-passed (has_most_windows b) (Full w) (issues (opening.opened_window w b) (opening.open_window w)) o done
      (λ few done. issued (opening.opened_window w b) (opening.open_window w) done
      (open_window-matches s b w m absent (room-window s b w normal r m few))))

  tab-leads : (w t : ℤ) → IsDone (act (Tab w t) b) o → Leads o
  tab-leads w t done =
      on-passed (is_live t b) (Taken t) (refused_where (lacks_room w b) (Full t)
      (issues (opening.opened_tab w t b) (opening.open_tab w t b))) o done (λ absent done.
      on-passed (lacks_room w b) (Full t) (issues (opening.opened_tab w t b) (opening.open_tab w t b)) o done
      (λ room done. issued (opening.opened_tab w t b) (opening.open_tab w t b) done
      (open-matches s b w t r m absent (room-tab s b w t r m room))))

  visit-leads : (t : ℤ) (url : List ℕ) (state : ℕ) (title : List ℕ) (st : Stand) → stand_of t b ≡ Some st
      → IsDone (visits t url state title b st) o → Leads o
  visit-leads t url state title st found done =
      let page = visited_page url title (visit_state state) b.moment in
      on-passed (int_eq st.tab.current (pos (2 ^ 31 - 1))) (Full t)
      (changes_tab st (tab.visited page b.moment st.tab) (tab.visit page b.moment st.tab) b) o done (λ few done.
      changed t st (tab.visited page b.moment st.tab) (tab.visit page b.moment st.tab) found done
      (visit-matches s b t st page r m found))

  back-leads : (t : ℤ) (st : Stand) → stand_of t b ≡ Some st
      → IsDone (refused_where (int_lt st.tab.current (pos 1)) (NoBack t)
      (changes_tab st (tab.went_back st.tab) (tab.back st.tab) b)) o → Leads o
  back-leads t st found done =
      on-passed (int_lt st.tab.current (pos 1)) (NoBack t)
      (changes_tab st (tab.went_back st.tab) (tab.back st.tab) b) o done (λ there done.
      changed t st (tab.went_back st.tab) (tab.back st.tab) found done (back-matches s b t st r m found there))

  forward-leads : (t : ℤ) (st : Stand) → stand_of t b ≡ Some st
      → IsDone (refused_where (isnt_below (st.tab.current +ℤ pos 1) (length st.tab.pages)) (NoForward t)
      (changes_tab st (tab.went_forward st.tab) (tab.forward st.tab) b)) o → Leads o
  forward-leads t st found done =
      on-passed (isnt_below (st.tab.current +ℤ pos 1) (length st.tab.pages)) (NoForward t)
      (changes_tab st (tab.went_forward st.tab) (tab.forward st.tab) b) o done (λ there done.
      changed t st (tab.went_forward st.tab) (tab.forward st.tab) found done
      (forward-matches s b t st r m found there))

  pin-leads : (t : ℤ) (flag : Bool)
      → IsDone (at_tab t b (λ st. changes_tab st (tab.pinned flag st.tab) (tab.pin flag st.tab) b)) o → Leads o
  pin-leads t flag done =
      on-found (stand_of t b) (NoTab t) (λ st. changes_tab st (tab.pinned flag st.tab) (tab.pin flag st.tab) b) o done
      (λ st found done. changed t st (tab.pinned flag st.tab) (tab.pin flag st.tab) found done
      (pin-matches s b t st flag r m found))

  title-leads : (t : ℤ) (title : List ℕ) (st : Stand) → stand_of t b ≡ Some st → IsDone (titles t title b st) o
      → Leads o
  title-leads t title st found done =
      on-found (current_page st.tab) (NoPage t) (λ page. changes_tab st (tab.titled (titled_page title page) st.tab)
      (tab.title (titled_page title page) st.tab) b) o done (λ page some done.
      changed t st (tab.titled (titled_page title page) st.tab) (tab.title (titled_page title page) st.tab) found done
      (title-matches s b t st page (titled_page title page) r m found some))

  group-leads : (t : ℤ) (high low colour : ℕ) (title : List ℕ) (st : Stand) → stand_of t b ≡ Some st
      → IsDone (groups_tab high low colour title b st) o → Leads o
  group-leads t high low colour title st found done =
      let group = given_group high low title colour in
      issued (tab.grouped_tab group st b) (tab.group_tab group st.tab) done (group-matches s b t st group r m found)

  close-leads : (t : ℤ) (st : Stand) → stand_of t b ≡ Some st → IsDone (closes_tab b st) o → Leads o
  close-leads t st found done =
      let left = entry_of_tab b.groups b.moment st.tab in
      let new = closing.closed_tab (stand_key st) b in
      on-made Leads (outcome (record new { closed = with_left left b.closed })
      (closing.close_tab st b) (left_commands left)) o done
      (still (fold s (closing.close_tab st b)) new (with_left left b.closed) b.moment
      (subst (λ q. Matches (fold s (closing.close_tab st b)) (closing.closed_tab q b)) (own-id s b t st r m found)
      (close-matches s b t st r m found)))

  close_window-leads : (id : ℤ) (w : BrowserWindow) → window_of id b ≡ Some w → IsDone (closes_window b w) o → Leads o
  close_window-leads id w found done =
      let left = entry_of_window b.groups b.moment w in
      let new = closing.closed_window w.info.id b in
      on-made Leads (outcome (record new { closed = with_left left b.closed })
      (closing.close_window w.info.id b) (left_commands left)) o done
      (still (fold s (closing.close_window w.info.id b)) new (with_left left b.closed) b.moment
      (subst (λ q. Matches (fold s (closing.close_window q b)) (closing.closed_window q b))
      (find-split id b.windows w found).3 (close_window-matches s b id w r m found)))

  move-leads : (id w place : ℤ) (st : Stand) → stand_of id b ≡ Some st → (own : BrowserWindow)
      → window_of w b ≡ Some own → IsDone (moves w place b st) o → Leads o
  move-leads id w place st found own live done =
      on-passed (is_above place (length (moving.others_of st w b.windows))) (Place place)
      (issues (moving.moved_tab st w (nat_of place) b) (moving.move st w (nat_of place) b)) o done (λ low done.
      issued (moving.moved_tab st w (nat_of place) b) (moving.move st w (nat_of place) b) done
      (move-matches s b id w st own (nat_of place) r m found live
      (at-most place (length (moving.others_of st w b.windows)) low)))

  select-leads : (w place : ℤ) (own : BrowserWindow) → window_of w b ≡ Some own
      → IsDone (refused_where (isnt_below place (length own.tabs)) (Place place)
      (issues (window.on_window w (window.selected place) b) (command.SelectTab w place ∷ []))) o → Leads o
  select-leads w place own found done =
      on-passed (isnt_below place (length own.tabs)) (Place place)
      (issues (window.on_window w (window.selected place) b) (command.SelectTab w place ∷ [])) o done (λ low done.
      issued (window.on_window w (window.selected place) b) (command.SelectTab w place ∷ []) done
      (select-matches s b w place own r m found))

  bounds-leads : (w : ℤ) (bounds : Bounds) (own : BrowserWindow) → window_of w b ≡ Some own
      → IsDone (issues (window.on_window w (window.bounded bounds) b) (command.WindowBounds w bounds ∷ [])) o → Leads o
  bounds-leads w bounds own found done =
      issued (window.on_window w (window.bounded bounds) b) (command.WindowBounds w bounds ∷ []) done
      (bounds-matches s b w bounds own r m found)

pub act-matches : (verb : Verb) (s : State) (b : Browser) (o : Outcome) → IsRunning s → Matches s b
    → act verb b ≡ Ok o → Matches (fold s o.session) o.browser
act-matches (At moment) s b o r m done =
    issued s b o r m (record b { moment = moment }) [] done (still s b b.closed moment m)
act-matches (Window w) s b o r m done = window-leads s b o r m w done
act-matches (Tab w t) s b o r m done = tab-leads s b o r m w t done
act-matches (Visit t url state title) s b o r m done =
    on-found (stand_of t b) (NoTab t) (visits t url state title b) o done (visit-leads s b o r m t url state title)
act-matches (Back t) s b o r m done =
    on-found (stand_of t b) (NoTab t) (λ st. refused_where (int_lt st.tab.current (pos 1)) (NoBack t)
    (changes_tab st (tab.went_back st.tab) (tab.back st.tab) b)) o done (back-leads s b o r m t)
act-matches (Forward t) s b o r m done =
    on-found (stand_of t b) (NoTab t)
    (λ st. refused_where (isnt_below (st.tab.current +ℤ pos 1) (length st.tab.pages)) (NoForward t)
    (changes_tab st (tab.went_forward st.tab) (tab.forward st.tab) b)) o done (forward-leads s b o r m t)
act-matches (Pin t) s b o r m done = pin-leads s b o r m t true done
act-matches (Unpin t) s b o r m done = pin-leads s b o r m t false done
act-matches (Ungroup t) s b o r m done =
    on-found (stand_of t b) (NoTab t) (λ st. changes_tab st (tab.in_group None st.tab) (tab.ungroup st.tab) b) o done
    (λ st found done. changed s b o r m t st (tab.in_group None st.tab) (tab.ungroup st.tab) found done
    (ungroup-matches s b t st r m found))
act-matches (CloseTab t) s b o r m done =
    on-found (stand_of t b) (NoTab t) (closes_tab b) o done (close-leads s b o r m t)
act-matches (Move t w place) s b o r m done =
    on-found (stand_of t b) (NoTab t) (λ st. at_window w b (λ own. moves w place b st)) o done (λ st found done.
    on-found (window_of w b) (NoWindow w) (λ own. moves w place b st) o done
    (λ own live done. move-leads s b o r m t w place st found own live done))
act-matches (Select w place) s b o r m done =
    on-found (window_of w b) (NoWindow w) (λ own. refused_where (isnt_below place (length own.tabs)) (Place place)
    (issues (window.on_window w (window.selected place) b) (command.SelectTab w place ∷ []))) o done
    (select-leads s b o r m w place)
act-matches (SetBounds w bounds) s b o r m done =
    on-found (window_of w b) (NoWindow w)
    (λ own. issues (window.on_window w (window.bounded bounds) b) (command.WindowBounds w bounds ∷ [])) o done
    (bounds-leads s b o r m w bounds)
act-matches (Group t high low colour title) s b o r m done =
    on-found (stand_of t b) (NoTab t) (groups_tab high low colour title b) o done
    (group-leads s b o r m t high low colour title)
act-matches (Title t title) s b o r m done =
    on-found (stand_of t b) (NoTab t) (titles t title b) o done (title-leads s b o r m t title)
act-matches (Active w) s b o r m done =
    on-found (window_of w b) (NoWindow w) (λ own. issues (record b { active = Some w }) (command.ActiveWindow w ∷ [])) o
    done (λ own found done. issued s b o r m (record b { active = Some w }) (command.ActiveWindow w ∷ []) done
    (active-matches s b w m))
act-matches (CloseWindow w) s b o r m done =
    on-found (window_of w b) (NoWindow w) (closes_window b) o done (close_window-leads s b o r m w)
act-matches Sync s b o r m done = asked-leads s b o r m true false done
act-matches Compact s b o r m done = asked-leads s b o r m false true done

-- and stays in order and within the limits
pub act-running : (s : State) (o : Outcome) → IsRunning s → IsRunning (fold s o.session)
act-running s o r = running-fold s o.session r
