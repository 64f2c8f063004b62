-- Every command of the session that a verb issues can be written.
use Rattle.std.proofs.Common.{ℕ, suc, ◌-◌, ◌^◌, nat_lt, int_lt, Bool, true, false, if◌then◌else◌, ℤ, pos, ◌+ℤ◌}
use Rattle.std.proofs.Common.{List, [], ◌∷◌, ◌++◌, take, drop, length, None, Some}
use Rattle.std.specs.List.{AllByRecursion}
use Rattle.std.specs.Ordering.{int_cmp, int_eq, is_eq}
use Rattle.navigation_entry.specs.declared.navigation.Navigation.{Navigation}
use Rattle.session_commands.specs.declared.command.SessionCommand.{SessionCommand}
use Rattle.session_commands.specs.declared.command.SessionCommand.TheVariants as command
use Rattle.session_commands.specs.Table.{IsSound}
use Rattle.session_commands.proofs.TableLaws.{navigation_is_sound, group_is_sound}
use Rattle.script_lines.specs.declared.verb.Verb.{Verb}
use Rattle.script_lines.specs.declared.verb.Verb.TheVariants.{At, Window, Tab, Visit, Back, Forward, Pin, Unpin}
use Rattle.script_lines.specs.declared.verb.Verb.TheVariants.{Ungroup, CloseTab, Move, Select, SetBounds, Group, Title}
use Rattle.script_lines.specs.declared.verb.Verb.TheVariants.{Active, CloseWindow, Sync, Compact}
use Rattle.browser_model.specs.Browsers.{Browser, BrowserTab, BrowserWindow, Stand, stand_key}
use Rattle.browser_model.specs.Closing as closing
use Rattle.browser_model.specs.Entries.{entry_of_tab, entry_of_window, left_commands, with_left}
use Rattle.browser_model.specs.Moving as moving
use Rattle.browser_model.specs.Navigations.{given_group, titled_page, visit_state, visited_page}
use Rattle.browser_model.specs.OneTab as tab
use Rattle.browser_model.specs.OneTab.{current_page, reached, where_so}
use Rattle.browser_model.specs.OneWindow as window
use Rattle.browser_model.specs.Opening as opening
use Rattle.browser_model.specs.Pictures.{nat_of}
use Rattle.browser_model.specs.Tabs.{later_tabs, places, put_at, put_tab, stand_of}
use Rattle.browser_driver.specs.declared.fault.VerbFault.TheVariants.{NoWindow, NoTab, Taken, NoBack, NoForward, NoPage}
use Rattle.browser_driver.specs.declared.fault.VerbFault.TheVariants.{Place, Full}
use Rattle.browser_driver.specs.Acts.{Outcome, act, asked, asks, at_tab, at_window, changes_tab, closes_tab}
use Rattle.browser_driver.specs.Acts.{closes_window, groups_tab, has_most_windows, is_above, is_live, is_open, isnt_below, issues}
use Rattle.browser_driver.specs.Acts.{lacks_room, moves, outcome, refused_where, titles, visits, window_of}
use Rattle.browser_driver.proofs.ActLaws.{IsDone, on-found, on-passed, on-made}

abbrev pub AreSound : List SessionCommand → Type 0
AreSound commands = AllByRecursion IsSound commands

both : (xs ys : List SessionCommand) → AreSound xs → AreSound ys → AreSound (xs ++ ys)
both [] ys first second = second
both (x ∷ xs) ys first second = (first.0, both xs ys first.1 second)

told-places : (n : ℕ) (ts : List BrowserTab) → AreSound (places n ts)
told-places n [] = tt
told-places n (t ∷ ts) = (tt, told-places (suc n) ts)

so : (b : Bool) (c : SessionCommand) → IsSound c → AreSound (where_so b c)
so true c is = (is, tt)
so false c is = tt

sound-visit : (page : Navigation) (moment : ℤ) (t : BrowserTab) → AreSound (tab.visit page moment t)
sound-visit page moment t =
    let id = t.info.id in
    let r = reached t.current in
    let k = suc r - 50 in
    both (where_so (nat_lt r (length t.pages)) (command.PrunedBack id (pos r))) _
    (so (nat_lt r (length t.pages)) (command.PrunedBack id (pos r)) tt) (
      navigation_is_sound id (pos r) page,
      (
        tt,
        both (where_so (nat_lt 0 k) (command.PrunedFront id (pos k))) _
            (so (nat_lt 0 k) (command.PrunedFront id (pos k)) tt) (tt, tt),
      ),
    )

sound-within : (s : Stand) (place : ℕ) (b : Browser) → AreSound (moving.move_within s place b)
sound-within s place b =
    let tabs = put_at place s.tab (moving.others_of s s.window b.windows) in
    elim (nat_lt s.place place) as (λ low. AreSound (if low
    then places s.place (take (suc (place - s.place)) (drop s.place tabs))
    else places place (take (suc (s.place - place)) (drop place tabs)))) [
      | true ↦ told-places s.place (take (suc (place - s.place)) (drop s.place tabs))
      | false ↦ told-places place (take (suc (s.place - place)) (drop place tabs))
    ]

sound-elsewhere : (s : Stand) (window : ℤ) (place : ℕ) (b : Browser) → AreSound (moving.move_elsewhere s window place b)
sound-elsewhere s window place b = (
  tt,
  both (places s.place (later_tabs s b.windows)) _ (told-places s.place (later_tabs s b.windows))
      (told-places place (s.tab ∷ drop place (moving.others_of s window b.windows))),
)

sound-move : (s : Stand) (window : ℤ) (place : ℕ) (b : Browser) → AreSound (moving.move s window place b)
sound-move s window place b =
    elim (is_eq (int_cmp window s.window)) as (λ same. AreSound (if same then moving.move_within s place b
    else moving.move_elsewhere s window place b)) [
      | true ↦ sound-within s place b
      | false ↦ sound-elsewhere s window place b
    ]

module _ (b : Browser) (o : Outcome) where
  abbrev Sound : Outcome → Type 0
  Sound x = AreSound x.session

  issued : (new : Browser) (commands : List SessionCommand) → AreSound commands → IsDone (issues new commands) o
      → Sound o
  issued new commands all done = on-made Sound (outcome new commands []) o done all

  asked-sound : (sync compact : Bool) → IsDone (asks sync compact b) o → Sound o
  asked-sound sync compact done = on-made Sound (asked sync compact b) o done tt

  changed : (st : Stand) (new : BrowserTab) (commands : List SessionCommand) → AreSound commands
      → IsDone (changes_tab st new commands b) o → Sound o
  changed st new commands all done =
      issued (record b { windows = put_tab (stand_key st) new b.windows }) commands all done

  sound-visits : (t : ℤ) (url : List ℕ) (state : ℕ) (title : List ℕ) (st : Stand)
      → IsDone (visits t url state title b st) o → Sound o
  sound-visits t url state title st done =
      let page = visited_page url title (visit_state state) b.moment in
      on-passed (int_eq st.tab.current (pos (2 ^ 31 - 1))) (Full t)
      (changes_tab st (tab.visited page b.moment st.tab) (tab.visit page b.moment st.tab) b) o done (λ few done.
      changed st (tab.visited page b.moment st.tab) (tab.visit page b.moment st.tab)
      (sound-visit page b.moment st.tab) done)

  sound-titles : (t : ℤ) (title : List ℕ) (st : Stand) → IsDone (titles t title b st) o → Sound o
  sound-titles t title st done =
      on-found (current_page st.tab) (NoPage t) (λ page. changes_tab st (tab.titled (titled_page title page) st.tab)
      (tab.title (titled_page title page) st.tab) b) o done (λ page some done.
      changed st (tab.titled (titled_page title page) st.tab) (tab.title (titled_page title page) st.tab)
      (navigation_is_sound st.tab.info.id st.tab.current (titled_page title page), tt) done)

  sound-groups : (high low colour : ℕ) (title : List ℕ) (st : Stand) → IsDone (groups_tab high low colour title b st) o
      → Sound o
  sound-groups high low colour title st done =
      let group = given_group high low title colour in
      issued (tab.grouped_tab group st b) (tab.group_tab group st.tab) (tt, (group_is_sound group, tt)) done

  sound-closes_tab : (st : Stand) → IsDone (closes_tab b st) o → Sound o
  sound-closes_tab st done =
      let left = entry_of_tab b.groups b.moment st.tab in
      on-made Sound (outcome (record (closing.closed_tab (stand_key st) b) { closed = with_left left b.closed })
      (closing.close_tab st b) (left_commands left)) o done (tt, told-places st.place (later_tabs st b.windows))

  sound-closes_window : (w : BrowserWindow) → IsDone (closes_window b w) o → Sound o
  sound-closes_window w done =
      let left = entry_of_window b.groups b.moment w in
      on-made Sound (outcome (record (closing.closed_window w.info.id b) { closed = with_left left b.closed })
      (closing.close_window w.info.id b) (left_commands left)) o done (tt, tt)

  sound-moves : (w place : ℤ) (st : Stand) → IsDone (moves w place b st) o → Sound o
  sound-moves w place st done =
      on-passed (is_above place (length (moving.others_of st w b.windows))) (Place place)
      (issues (moving.moved_tab st w (nat_of place) b) (moving.move st w (nat_of place) b)) o done (λ low done.
      issued (moving.moved_tab st w (nat_of place) b) (moving.move st w (nat_of place) b)
      (sound-move st w (nat_of place) b) done)

  -- a verb on a tab that is one command
  one-change : (t : ℤ) (new : Stand → BrowserTab) (commands : Stand → List SessionCommand)
      → ((st : Stand) → AreSound (commands st))
      → IsDone (at_tab t b (λ st. changes_tab st (new st) (commands st) b)) o → Sound o
  one-change t new commands all done =
      on-found (stand_of t b) (NoTab t) (λ st. changes_tab st (new st) (commands st) b) o done
      (λ st found done. changed st (new st) (commands st) (all st) done)

pub act-sound : (verb : Verb) (b : Browser) (o : Outcome) → IsDone (act verb b) o → AreSound o.session
act-sound (At moment) b o done = issued b o (record b { moment = moment }) [] tt done
act-sound (Window w) b o done =
    let new = opening.opened_window w b in
    on-passed (is_open w b) (Taken w) (refused_where (has_most_windows b) (Full w)
    (issues new (opening.open_window w))) o done (λ absent done.
    on-passed (has_most_windows b) (Full w) (issues new (opening.open_window w)) o done (λ few done.
    issued b o new (opening.open_window w) (tt, tt) done))
act-sound (Tab w t) b o done =
    let new = opening.opened_tab w t b in
    on-passed (is_live t b) (Taken t) (refused_where (lacks_room w b) (Full t)
    (issues new (opening.open_tab w t b))) o done (λ absent done.
    on-passed (lacks_room w b) (Full t) (issues new (opening.open_tab w t b)) o done (λ room done.
    issued b o new (opening.open_tab w t b) (tt, (tt, tt)) done))
act-sound (Visit t url state title) b o done =
    on-found (stand_of t b) (NoTab t) (visits t url state title b) o done
    (λ st found done. sound-visits b o t url state title st done)
act-sound (Back t) b o done =
    on-found (stand_of t b) (NoTab t) (λ st. refused_where (int_lt st.tab.current (pos 1)) (NoBack t)
    (changes_tab st (tab.went_back st.tab) (tab.back st.tab) b)) o done (λ st found done.
    on-passed (int_lt st.tab.current (pos 1)) (NoBack t)
    (changes_tab st (tab.went_back st.tab) (tab.back st.tab) b) o done (λ there done.
    changed b o st (tab.went_back st.tab) (tab.back st.tab) (tt, tt) done))
act-sound (Forward t) b o done =
    on-found (stand_of t b) (NoTab t)
    (λ st. refused_where (isnt_below (st.tab.current +ℤ pos 1) (length st.tab.pages)) (NoForward t)
    (changes_tab st (tab.went_forward st.tab) (tab.forward st.tab) b)) o done (λ st found done.
    on-passed (isnt_below (st.tab.current +ℤ pos 1) (length st.tab.pages)) (NoForward t)
    (changes_tab st (tab.went_forward st.tab) (tab.forward st.tab) b) o done (λ there done.
    changed b o st (tab.went_forward st.tab) (tab.forward st.tab) (tt, tt) done))
act-sound (Pin t) b o done =
    one-change b o t (λ st. tab.pinned true st.tab) (λ st. tab.pin true st.tab) (λ st. (tt, tt)) done
act-sound (Unpin t) b o done =
    one-change b o t (λ st. tab.pinned false st.tab) (λ st. tab.pin false st.tab) (λ st. (tt, tt)) done
act-sound (Ungroup t) b o done =
    one-change b o t (λ st. tab.in_group None st.tab) (λ st. tab.ungroup st.tab) (λ st. (tt, tt)) done
act-sound (CloseTab t) b o done =
    on-found (stand_of t b) (NoTab t) (closes_tab b) o done (λ st found done. sound-closes_tab b o st done)
act-sound (Move t w place) b o done =
    on-found (stand_of t b) (NoTab t) (λ st. at_window w b (λ own. moves w place b st)) o done (λ st found done.
    on-found (window_of w b) (NoWindow w) (λ own. moves w place b st) o done
    (λ own live done. sound-moves b o w place st done))
act-sound (Select w place) b o done =
    let new = window.on_window w (window.selected place) b in
    on-found (window_of w b) (NoWindow w) (λ own. refused_where (isnt_below place (length own.tabs)) (Place place)
    (issues new (command.SelectTab w place ∷ []))) o done (λ own found done.
    on-passed (isnt_below place (length own.tabs)) (Place place) (issues new (command.SelectTab w place ∷ [])) o done
    (λ low done. issued b o new (command.SelectTab w place ∷ []) (tt, tt) done))
act-sound (SetBounds w bounds) b o done =
    let new = window.on_window w (window.bounded bounds) b in
    on-found (window_of w b) (NoWindow w) (λ own. issues new (command.WindowBounds w bounds ∷ [])) o done
    (λ own found done. issued b o new (command.WindowBounds w bounds ∷ []) (tt, tt) done)
act-sound (Group t high low colour title) b o done =
    on-found (stand_of t b) (NoTab t) (groups_tab high low colour title b) o done
    (λ st found done. sound-groups b o high low colour title st done)
act-sound (Title t title) b o done =
    on-found (stand_of t b) (NoTab t) (titles t title b) o done (λ st found done. sound-titles b o t title st done)
act-sound (Active w) b o done =
    let new = record b { active = Some w } in
    on-found (window_of w b) (NoWindow w) (λ own. issues new (command.ActiveWindow w ∷ [])) o done
    (λ own found done. issued b o new (command.ActiveWindow w ∷ []) (tt, tt) done)
act-sound (CloseWindow w) b o done =
    on-found (window_of w b) (NoWindow w) (closes_window b) o done (λ own found done. sound-closes_window b o own done)
act-sound Sync b o done = asked-sound b o true false done
act-sound Compact b o done = asked-sound b o false true done
