-- A verb issues few commands beside those of pages that go, and so does a script line by line.
use Rattle.std.proofs.Common.{◌≡◌, ℕ, zero, suc, ◌+◌, ◌*◌, ◌-◌, ◌<◌, ◌≤◌, ◌^◌, nat_le, ℤ, Bool, true, false, not, ◌&&◌}
use Rattle.std.proofs.Common.{◌||◌}
use Rattle.std.proofs.Common.{List, [], ◌∷◌, ◌++◌, flat_map, take, length, sum_by, Some, None, Ok}
use Rattle.std.proofs.Common.{refl, sym, ap, subst, ◌∙◌, arith, inl, inr}
use Rattle.std.specs.Ordering.{int_cmp}
use Rattle.std.proofs.lemmas.Bool.Decides.{nat_tests}
use Rattle.std.proofs.lemmas.List.{length-append, length-drop, length-take}
use Rattle.std.proofs.lemmas.List.Sums.{sum_by-cons}
use Rattle.navigation_entry.specs.declared.navigation.Navigation.{Navigation}
use Rattle.session_commands.specs.declared.command.SessionCommand.{SessionCommand}
use Rattle.session_commands.specs.declared.command.SessionCommand.TheVariants.{ActiveWindow, SelectTab, WindowBounds}
use Rattle.window_state.specs.Keys.{group_key}
use Rattle.window_state.specs.Limits.{limit}
use Rattle.window_state.specs.RowLists.{find_row}
use Rattle.window_state.proofs.RowLaws.{is_none}
use Rattle.script_lines.specs.declared.verb.Verb.{Verb}
use Rattle.script_lines.specs.declared.verb.Verb.TheVariants.{At, Window, Tab, Visit, Back, Forward, Pin, Unpin}
use Rattle.script_lines.specs.declared.verb.Verb.TheVariants.{Ungroup, CloseTab, Move, Select, SetBounds, Group, Title}
use Rattle.script_lines.specs.declared.verb.Verb.TheVariants.{Active, CloseWindow, Sync, Compact}
use Rattle.browser_model.specs.Amounts.{pages_in, HasFew, HasDistinctIds}
use Rattle.browser_model.specs.Browsers.{Browser, BrowserTab, BrowserWindow, Stand, all_stands, open_key, own_id}
use Rattle.browser_model.specs.Browsers.{stand_key}
use Rattle.browser_model.specs.Closing as closing
use Rattle.browser_model.specs.Entries.{entry_of_tab, entry_of_window, left_commands, with_left}
use Rattle.browser_model.specs.Moving as moving
use Rattle.browser_model.specs.Navigations.{given_group, titled_page, visit_state, visited_page}
use Rattle.browser_model.specs.OneTab as tab
use Rattle.browser_model.specs.OneTab.{reached, change_at, current_page}
use Rattle.browser_model.specs.OneWindow as window
use Rattle.browser_model.specs.Opening as opening
use Rattle.browser_model.specs.Pictures.{nat_of}
use Rattle.browser_model.specs.Tabs.{put_tab, stand_of, tabs_or_none}
use Rattle.browser_model.proofs.AmountLaws.{page_count, length-stands}
use Rattle.browser_model.proofs.CommandCounts.{few-close_tab, few-left_tab, few-left_window, few-move, few-visit}
use Rattle.browser_model.proofs.FewSteps.{KeepsFew, keeps-windows, keeps-on_window, keeps-opened_window}
use Rattle.browser_model.proofs.FewSteps.{keeps-opened_tab}
use Rattle.browser_model.proofs.FewSteps.{keeps-tab, keeps-closed_tab, keeps-closed_window, keeps-moved_tab}
use Rattle.browser_model.proofs.Splits.{find-split}
use Rattle.browser_model.proofs.WindowAmounts.{few-tabs_of}
use Rattle.browser_driver.specs.declared.fault.VerbFault.TheVariants.{NoWindow, NoTab, Taken, NoBack, NoForward, NoPage}
use Rattle.browser_driver.specs.declared.fault.VerbFault.TheVariants.{Place, Full}
use Rattle.browser_driver.specs.Acts.{Answer, Outcome, outcome, asked, act, changes_tab, closes_tab, closes_window, moves}
use Rattle.browser_driver.specs.Acts.{titles, visits, has_most_tabs, has_most_windows, is_live, is_open, lacks_room, window_of}
use Rattle.browser_driver.specs.Following.{Comes, Follow, command_count, issued}
use Rattle.browser_driver.proofs.AllowedLaws.{where-allowed, where-found}

-- what a browser keeps, and how many commands are issued beside the pages that go
pub record IsFewStep (b : Browser) (o : Outcome) : Type 0 where
  pub few : HasFew o.browser
  pub distinct : HasDistinctIds o.browser
  pub commands : length o.session + length o.tabs + pages_in o.browser ≤ pages_in b + 2 ^ 24

few-step : (b : Browser) (o : Outcome) (gone come : ℕ) → KeepsFew b o.browser gone come
    → length o.session + length o.tabs + come ≤ gone + 2 ^ 24 → IsFewStep b o
few-step b o gone come keeps short = record {
  few = keeps.few;
  distinct = keeps.distinct;
  commands = let pages = keeps.pages in omega arith;
}

abbrev Gives : Answer → Outcome → Type 0
Gives answer o = answer ≡ Ok o

-- the one outcome of a verb that is done
done : (b : Browser) (made o : Outcome) → IsFewStep b made → Gives (Ok made) o → IsFewStep b o
done b made o few is = let same : made ≡ o = cc in subst (IsFewStep b) same few

neither : (a b : Bool) → (a || b) ≡ false → (a ≡ false) × (b ≡ false)
neither true b e = absurd cc
neither false b e = (refl, e)

below : (n : ℕ) → nat_le limit n ≡ false → n < limit
below n e = grind (arith, nat_tests)

length-change_at : (n : ℕ) (new : Navigation) (pages : List Navigation) → length (change_at n new pages) ≡ length pages
length-change_at n new [] = refl
length-change_at zero new (p ∷ ps) = refl
length-change_at (suc n) new (p ∷ ps) = ap suc (length-change_at n new ps)

few-visited : (page : Navigation) (moment : ℤ) (t : BrowserTab) → length (tab.visited page moment t).pages ≤ 50
few-visited page moment t =
    let r = reached t.current in
    let kept = length-drop (suc r - 50) (take r t.pages ++ page ∷ []) in
    let all = length-append (take r t.pages) (page ∷ []) in
    let front = length-take r t.pages in
    omega arith

module _ (b : Browser) (few : HasFew b) (distinct : HasDistinctIds b) where
  -- a tab becomes another
  few-tab : (id : ℤ) (s : Stand) (new : BrowserTab) (c : Browser) (commands : List SessionCommand)
      → stand_of id b ≡ Some s → own_id new ≡ own_id s.tab → c.windows ≡ put_tab (stand_key s) new b.windows
      → length commands + length new.pages ≤ length s.tab.pages + 2 ^ 24
      → IsFewStep b (outcome c commands [])
  few-tab id s new c commands found same put short =
      let keeps = keeps-tab b few distinct id s new c found same put in
      let went = sum_by-cons page_count s.tab [] in
      let came = sum_by-cons page_count new [] in
      few-step b (outcome c commands []) (sum_by page_count (s.tab ∷ []))
      (sum_by page_count (new ∷ [])) keeps (omega arith)

  few-same : (c : Browser) (commands : List SessionCommand) → c.windows ≡ b.windows → length commands ≤ 1
      → IsFewStep b (outcome c commands [])
  few-same c commands same short =
      few-step b (outcome c commands []) 0 0 (keeps-windows b few distinct c same)
      (omega arith)

  few-asked : (sync compact : Bool) → IsFewStep b (asked sync compact b)
  few-asked sync compact =
      few-step b (asked sync compact b) 0 0 (keeps-windows b few distinct b refl) (omega arith)

  few-closed_tab : (id : ℤ) (s : Stand) → stand_of id b ≡ Some s → (o : Outcome) → closes_tab b s ≡ Ok o → IsFewStep b o
  few-closed_tab id s found o is =
      let left = entry_of_tab b.groups b.moment s.tab in
      let c = record (closing.closed_tab (stand_key s) b) { closed = with_left left b.closed } in
      let keeps = keeps-closed_tab b few distinct id s c found refl in
      let went = sum_by-cons page_count s.tab [] in
      let told = few-close_tab s b in
      let entry = few-left_tab b.groups b.moment s.tab in
      let most = few.tabs in
      done b (outcome c (closing.close_tab s b) (left_commands left)) o
      (few-step b (outcome c (closing.close_tab s b) (left_commands left))
      (sum_by page_count (s.tab ∷ [])) 0 keeps (omega arith)) is

  few-closed_window : (id : ℤ) (w : BrowserWindow) → window_of id b ≡ Some w → (o : Outcome) → closes_window b w ≡ Ok o
      → IsFewStep b o
  few-closed_window id w found o is =
      let left = entry_of_window b.groups b.moment w in
      let c = record (closing.closed_window w.info.id b) { closed = with_left left b.closed } in
      let own = (find-split id b.windows w found).3 in
      let keeps = keeps-closed_window b few distinct w.info.id w c
      (subst (λ k. find_row int_cmp open_key k b.windows ≡ Some w) own found) refl in
      let entry = few-left_window b.groups b.moment w in
      let tabs = few-tabs_of id b.windows in
      let own_tabs : length (tabs_or_none (window_of id b)) ≡ length w.tabs = ap (λ x. length (tabs_or_none x)) found in
      let all = length-stands b.windows in
      let most = few.tabs in
      done b (outcome c (closing.close_window w.info.id b) (left_commands left)) o
      (few-step b (outcome c (closing.close_window w.info.id b) (left_commands left))
      (sum_by page_count w.tabs) 0 keeps (omega arith)) is

  few-moved_tab : (id : ℤ) (s : Stand) (window : ℤ) (place : ℕ) → stand_of id b ≡ Some s
      → IsFewStep b (outcome (moving.moved_tab s window place b) (moving.move s window place b) [])
  few-moved_tab id s window place found =
      let keeps = keeps-moved_tab b few distinct id s window place found in
      let told = few-move s window place b in
      let most = few.tabs in
      few-step b (outcome (moving.moved_tab s window place b) (moving.move s window place b) []) 0 0 keeps (omega arith)

  few-opened_window : (id : ℤ) → has_most_windows b ≡ false
      → IsFewStep b (outcome (opening.opened_window id b) (opening.open_window id) [])
  few-opened_window id room =
      few-step b (outcome (opening.opened_window id b) (opening.open_window id) []) 0 0
      (keeps-opened_window b few distinct id (below (length b.windows) room)) (omega arith)

  few-opened_tab : (window id : ℤ) → is_live id b ≡ false → lacks_room window b ≡ false
      → IsFewStep b (outcome (opening.opened_tab window id b) (opening.open_tab window id b) [])
  few-opened_tab window id fresh room =
      let tests = neither (has_most_tabs b) (not (is_open window b) && has_most_windows b) room in
      few-step b (outcome (opening.opened_tab window id b) (opening.open_tab window id b) []) 0 0
      (keeps-opened_tab b few distinct window id (is_none (stand_of id b) fresh)
      (below (length (all_stands b.windows)) tests.0)
      (λ shut. below (length b.windows) (ap (λ x. not x && has_most_windows b) (sym shut) ∙ tests.1))) (omega arith)

  few-on_window : (id : ℤ) (change : BrowserWindow → BrowserWindow) (command : SessionCommand)
      → ((w : BrowserWindow) → open_key (change w) ≡ open_key w) → ((w : BrowserWindow) → (change w).tabs ≡ w.tabs)
      → IsFewStep b (outcome (window.on_window id change b) (command ∷ []) [])
  few-on_window id change command keys tabs =
      few-step b (outcome (window.on_window id change b) (command ∷ []) []) 0 0
      (keeps-on_window b few distinct id change keys tabs) (omega arith)

  few-change : (id : ℤ) (s : Stand) (new : BrowserTab) (commands : List SessionCommand) (o : Outcome)
      → stand_of id b ≡ Some s → own_id new ≡ own_id s.tab
      → length commands + length new.pages ≤ length s.tab.pages + 2 ^ 24 → changes_tab s new commands b ≡ Ok o
      → IsFewStep b o
  few-change id s new commands o found same short is =
      let c = record b { windows = put_tab (stand_key s) new b.windows } in
      done b (outcome c commands []) o
      (few-tab id s new c commands found same refl short) is

  few-visits : (id : ℤ) (url : List ℕ) (state : ℕ) (title : List ℕ) (s : Stand) (o : Outcome) → stand_of id b ≡ Some s
      → visits id url state title b s ≡ Ok o → IsFewStep b o
  few-visits id url state title s o found is = where-allowed (IsFewStep b o) _ (Full id) _ o
      (λ room is.
      let page = visited_page url title (visit_state state) b.moment in
      let told = few-visit page b.moment s.tab in
      let pages = few-visited page b.moment s.tab in
      few-change id s (tab.visited page b.moment s.tab) (tab.visit page b.moment s.tab) o found refl (omega arith)
      is) is

  few-titles : (id : ℤ) (title : List ℕ) (s : Stand) (o : Outcome) → stand_of id b ≡ Some s → titles id title b s ≡ Ok o
      → IsFewStep b o
  few-titles id title s o found is = where-found (IsFewStep b o) (current_page s.tab) (NoPage id) _ o
      (λ page at is.
      let same = length-change_at (nat_of s.tab.current) (titled_page title page) s.tab.pages in
      few-change id s (tab.titled (titled_page title page) s.tab) (tab.title (titled_page title page) s.tab) o found
      refl (omega arith) is) is

  few-moves : (id window place : ℤ) (s : Stand) (o : Outcome) → stand_of id b ≡ Some s → moves window place b s ≡ Ok o
      → IsFewStep b o
  few-moves id window place s o found is = where-allowed (IsFewStep b o) _ (Place place) _ o
      (λ room is. done b _ o (few-moved_tab id s window (nat_of place) found) is) is

  few-act : (verb : Verb) (o : Outcome) → act verb b ≡ Ok o → IsFewStep b o
  few-act (At moment) o is = done b _ o (few-same (record b { moment = moment }) [] refl (omega arith)) is
  few-act (Window w) o is = where-allowed (IsFewStep b o) (is_open w b) (Taken w) _ o
      (λ shut is. where-allowed (IsFewStep b o) (has_most_windows b) (Full w) _ o
      (λ room is. done b _ o (few-opened_window w room) is) is) is
  few-act (Tab w t) o is = where-allowed (IsFewStep b o) (is_live t b) (Taken t) _ o
      (λ fresh is. where-allowed (IsFewStep b o) (lacks_room w b) (Full t) _ o
      (λ room is. done b _ o (few-opened_tab w t fresh room) is) is) is
  few-act (Visit t url state title) o is = where-found (IsFewStep b o) (stand_of t b) (NoTab t)
      (visits t url state title b) o (λ s found is. few-visits t url state title s o found is) is
  few-act (Back t) o is = where-found (IsFewStep b o) (stand_of t b) (NoTab t) _ o
      (λ s found is. where-allowed (IsFewStep b o) _ (NoBack t) _ o
      (λ behind is. few-change t s (tab.went_back s.tab) (tab.back s.tab) o found refl (omega arith) is) is) is
  few-act (Forward t) o is = where-found (IsFewStep b o) (stand_of t b) (NoTab t) _ o
      (λ s found is. where-allowed (IsFewStep b o) _ (NoForward t) _ o
      (λ ahead is. few-change t s (tab.went_forward s.tab) (tab.forward s.tab) o found refl (omega arith) is) is) is
  few-act (Pin t) o is = where-found (IsFewStep b o) (stand_of t b) (NoTab t) _ o
      (λ s found is. few-change t s (tab.pinned true s.tab) (tab.pin true s.tab) o found refl (omega arith) is) is
  few-act (Unpin t) o is = where-found (IsFewStep b o) (stand_of t b) (NoTab t) _ o
      (λ s found is. few-change t s (tab.pinned false s.tab) (tab.pin false s.tab) o found refl (omega arith) is) is
  few-act (Ungroup t) o is = where-found (IsFewStep b o) (stand_of t b) (NoTab t) _ o
      (λ s found is. few-change t s (tab.in_group None s.tab) (tab.ungroup s.tab) o found refl (omega arith) is) is
  few-act (CloseTab t) o is = where-found (IsFewStep b o) (stand_of t b) (NoTab t) (closes_tab b) o
      (λ s found is. few-closed_tab t s found o is) is
  few-act (Move t w p) o is = where-found (IsFewStep b o) (stand_of t b) (NoTab t) _ o
      (λ s found is. where-found (IsFewStep b o) (window_of w b) (NoWindow w) _ o
      (λ to open_ is. few-moves t w p s o found is) is) is
  few-act (Select w p) o is = where-found (IsFewStep b o) (window_of w b) (NoWindow w) _ o
      (λ found at is. where-allowed (IsFewStep b o) _ (Place p) _ o
      (λ within is. done b _ o
      (few-on_window w (window.selected p) (SelectTab w p) (λ v. refl) (λ v. refl)) is) is) is
  few-act (SetBounds w bounds) o is = where-found (IsFewStep b o) (window_of w b) (NoWindow w) _ o
      (λ found at is. done b _ o
      (few-on_window w (window.bounded bounds) (WindowBounds w bounds) (λ v. refl) (λ v. refl)) is) is
  few-act (Group t high low colour title) o is = where-found (IsFewStep b o) (stand_of t b) (NoTab t) _ o
      (λ s found is.
      let group = given_group high low title colour in
      done b _ o (few-tab t s (tab.in_group (Some (group_key group)) s.tab) (tab.grouped_tab group s b)
      (tab.group_tab group s.tab) found refl refl (omega arith)) is) is
  few-act (Title t title) o is = where-found (IsFewStep b o) (stand_of t b) (NoTab t) (titles t title b) o
      (λ s found is. few-titles t title s o found is) is
  few-act (Active w) o is = where-found (IsFewStep b o) (window_of w b) (NoWindow w) _ o
      (λ found at is. done b _ o
      (few-same (record b { active = Some w }) (ActiveWindow w ∷ []) refl (omega arith)) is) is
  few-act (CloseWindow w) o is = where-found (IsFewStep b o) (window_of w b) (NoWindow w) (closes_window b) o
      (λ found at is. few-closed_window w found at o is) is
  few-act Sync o is = done b (asked true false b) o (few-asked true false) is
  few-act Compact o is = done b (asked false true b) o (few-asked false true) is

pub act-few : (verb : Verb) (b : Browser) (o : Outcome) → HasFew b → HasDistinctIds b → act verb b ≡ Ok o
    → IsFewStep b o
act-few verb b o few distinct is = few-act b few distinct verb o is

-- the same of line after line
pub record IsFewRun (b : Browser) (os : List Outcome) (c : Browser) : Type 0 where
  pub few : HasFew c
  pub distinct : HasDistinctIds c
  pub commands : issued os + pages_in c ≤ pages_in b + length os * 2 ^ 24

few-comes : (b : Browser) (o : Outcome) → HasFew b → HasDistinctIds b → Comes b o → IsFewStep b o
few-comes b o few distinct (inl verb) = act-few verb.0 b o few distinct verb.1
few-comes b o few distinct (inr same) = subst (IsFewStep b) (sym same) (few-same b few distinct b [] refl (omega arith))

pub follow-few : (b : Browser) (os : List Outcome) (c : Browser) → HasFew b → HasDistinctIds b → Follow b os c
    → IsFewRun b os c
follow-few b [] c few distinct same = subst (IsFewRun b []) same (record {
  few = few;
  distinct = distinct;
  commands = omega arith;
})
follow-few b (o ∷ os) c few distinct follow =
    let here = few-comes b o few distinct follow.0 in
    let rest = follow-few o.browser os c here.few here.distinct follow.1 in
    let all = sum_by-cons command_count o os in
    let now = here.commands in
    let later = rest.commands in
    record { few = rest.few; distinct = rest.distinct; commands = omega arith }

-- of each family
pub issued-each : (os : List Outcome)
    → length (flat_map (λ o. o.session) os) + length (flat_map (λ o. o.tabs) os) ≡ issued os
issued-each [] = refl
issued-each (o ∷ os) =
    let rest = issued-each os in
    let all = sum_by-cons command_count o os in
    let session = length-append o.session (flat_map (λ x. x.session) os) in
    let tabs = length-append o.tabs (flat_map (λ x. x.tabs) os) in
    omega arith
