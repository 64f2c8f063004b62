-- What every state keeps, after each step.
use Rattle.std.proofs.Common.{◌≡◌, ℕ, ◌-◌, ◌<◌, ◌≤◌, nat_lt, ℤ, Bool, true, false, List, [], ◌∷◌, ◌++◌, drop, length, Result, Ok, Err, OnOk, OnErr, if◌then◌else◌, refl, sym, subst, length-append, length-drop, arith}
use Rattle.std.proofs.lemmas.Bool.Decides.{nat_tests}
use Rattle.std.specs.List.{AllByRecursion}
use Rattle.tab_restore_commands.specs.declared.command.TabsCommand.{TabsCommand}
use Rattle.tab_restore_commands.specs.declared.command.TabsCommand.TheVariants.{UpdateNavigation, Pinned, Extension, WindowApp, Group, UserAgent, UserTitle}
use Rattle.tab_restore_commands.specs.Table.{IsSound}
use Rattle.tab_pages.proofs.PageLaws.{rising-put_page}
use Rattle.tab_pages.proofs.RangeLaws.{put_page-in_range}
use Rattle.closed_entries.specs.declared.limits.TheConstants.{ENTRIES}
use Rattle.closed_entries.specs.declared.closed_tab.ClosedTab.{ClosedTab}
use Rattle.closed_entries.specs.declared.closed_window.ClosedWindow.{ClosedWindow}
use Rattle.closed_entries.specs.declared.entry.Entry.{Entry}
use Rattle.closed_entries.specs.declared.entry.Entry.TheVariants.{Tab, Window}
use Rattle.closed_entries.specs.LastItem.{on_last}
use Rattle.closed_entries.specs.Changes.{with_more, with_window}
use Rattle.closed_entries.specs.Parts.{changed_tab, changed_window, changed_entry, IsChangeInRange}
use Rattle.closed_entries.specs.States.{State, IsTab, IsWindow, IsEntry, HasRoom, IsState}
use Rattle.closed_entries.specs.Step.{within_limit, with_entry, opened, joined, has_id, without_newest}
use Rattle.closed_entries.proofs.LastItemLaws.{all-appended, all-drop, all-on_last, all-on_last-given, all-without, last-appended, last-on_last, last-some, length-on_last, length-without}

-- what holds of the new value and of the old one holds of what a call leaves
pub either : {T E X : Type 0} (P : X → Type 0) (r : Result T E) (left new old : X) → OnOk r (left ≡ new) → OnErr r (left ≡ old) → P new → P old → P left
either P (Ok v) left new old ok err n o = subst P (sym ok) n
either P (Err e) left new old ok err n o = subst P (sym err) o

-- a tab is changed
pub keeps-changed_tab : (command : TabsCommand) (t : ClosedTab) → IsSound command → IsChangeInRange command → IsTab t → IsTab (changed_tab command t)
keeps-changed_tab (UpdateNavigation tab index n) t sound ranged k = record { id = k.id; selected = k.selected; time = k.time; extension = k.extension; agent = k.agent; group = k.group; pages = put_page-in_range index n t.pages ranged k.pages; rising = rising-put_page index n t.pages k.rising }
keeps-changed_tab (Pinned pinned) t sound ranged k = record { id = k.id; selected = k.selected; time = k.time; extension = k.extension; agent = k.agent; group = k.group; pages = k.pages; rising = k.rising }
keeps-changed_tab (Extension tab text tail) t sound ranged k = record { id = k.id; selected = k.selected; time = k.time; extension = omega (arith, sound.1); agent = k.agent; group = k.group; pages = k.pages; rising = k.rising }
keeps-changed_tab (UserAgent tab rest) t sound ranged k = record { id = k.id; selected = k.selected; time = k.time; extension = k.extension; agent = (sound.0, omega (arith, sound.1)); group = k.group; pages = k.pages; rising = k.rising }
keeps-changed_tab (Group group) t sound ranged k = record { id = k.id; selected = k.selected; time = k.time; extension = k.extension; agent = k.agent; group = ranged; pages = k.pages; rising = k.rising }
keeps-changed_tab command t sound ranged k = k

-- a window, or the last of its tabs, is changed
keeps-last_tab : (command : TabsCommand) (w : ClosedWindow) → IsSound command → IsChangeInRange command → IsWindow w → IsWindow (record w { tabs = on_last (changed_tab command) w.tabs })
keeps-last_tab command w sound ranged k =
    let same = length-on_last (changed_tab command) w.tabs in
    let few = k.few in
    record { id = k.id; selected = k.selected; time = k.time; bounds = k.bounds; app = k.app; title = k.title; tabs = all-on_last IsTab (changed_tab command) (λ t. keeps-changed_tab command t sound ranged) w.tabs k.tabs; few = omega arith }

pub keeps-changed_window : (command : TabsCommand) (w : ClosedWindow) → IsSound command → IsChangeInRange command → IsWindow w → IsWindow (changed_window command w)
keeps-changed_window (WindowApp window text tail) w sound ranged k = record { id = k.id; selected = k.selected; time = k.time; bounds = k.bounds; app = omega (arith, sound.1); title = k.title; tabs = k.tabs; few = k.few }
keeps-changed_window (UserTitle window text tail) w sound ranged k = record { id = k.id; selected = k.selected; time = k.time; bounds = k.bounds; app = k.app; title = omega (arith, sound.1); tabs = k.tabs; few = k.few }
keeps-changed_window command w sound ranged k = keeps-last_tab command w sound ranged k

pub keeps-changed_entry : (command : TabsCommand) (e : Entry) → IsSound command → IsChangeInRange command → IsEntry e → IsEntry (changed_entry command e)
keeps-changed_entry command (Tab t) sound ranged k = keeps-changed_tab command t sound ranged k
keeps-changed_entry command (Window w) sound ranged k = keeps-changed_window command w sound ranged k

room-last_tab : (command : TabsCommand) (more : ℕ) (w : ClosedWindow) → HasRoom more (Window w) → HasRoom more (Window (record w { tabs = on_last (changed_tab command) w.tabs }))
room-last_tab command more w room = let same = length-on_last (changed_tab command) w.tabs in omega (arith, room)

room-changed_window : (command : TabsCommand) (more : ℕ) (w : ClosedWindow) → HasRoom more (Window w) → HasRoom more (Window (changed_window command w))
room-changed_window (WindowApp window text tail) more w room = room
room-changed_window (UserTitle window text tail) more w room = room
room-changed_window command more w room = room-last_tab command more w room

room-changed_entry : (command : TabsCommand) (more : ℕ) (e : Entry) → HasRoom more e → HasRoom more (changed_entry command e)
room-changed_entry command more (Tab t) room = room
room-changed_entry command more (Window w) room = room-changed_window command more w room

-- the open entry is changed
pub keeps-change : (command : TabsCommand) (s : State) → IsSound command → IsChangeInRange command → IsState s → IsState (record s { entries = on_last (changed_entry command) s.entries })
keeps-change command s sound ranged k =
    let same = length-on_last (changed_entry command) s.entries in
    let few = k.few in
    record {
      each = all-on_last IsEntry (changed_entry command) (λ e. keeps-changed_entry command e sound ranged) s.entries k.each;
      few = omega arith;
      closed = λ none. k.closed (last-some (changed_entry command) s.entries none);
      awaits_none = k.awaits_none;
      room = λ some. last-on_last (HasRoom s.awaited) (HasRoom s.awaited) (changed_entry command) (room-changed_entry command s.awaited) s.entries (k.room some);
    }

-- a new entry comes
all-within_limit : (entries : List Entry) → AllByRecursion IsEntry entries → AllByRecursion IsEntry (within_limit entries)
all-within_limit entries all = elim (nat_lt (length entries) ENTRIES) as (λ b. AllByRecursion IsEntry (if b then entries else drop 1 entries)) [ true ↦ all | false ↦ all-drop IsEntry 1 entries all ]

few-with_entry : (entry : Entry) (entries : List Entry) → length entries ≤ ENTRIES → length (with_entry entry entries) ≤ ENTRIES
few-with_entry entry entries few = by (nat_lt (length entries) ENTRIES) refl
  where
    by : (b : Bool) → nat_lt (length entries) ENTRIES ≡ b → length ((if b then entries else drop 1 entries) ++ entry ∷ []) ≤ ENTRIES
    by true below = let less : length entries < ENTRIES = grind (arith, nat_tests) in omega (arith, length-append entries (entry ∷ []))
    by false below = omega (arith, length-append (drop 1 entries) (entry ∷ []), length-drop 1 entries)

some-appended : (entries : List Entry) (entry : Entry) → (entries ++ entry ∷ [] ≡ []) → ⊥
some-appended [] entry none = absurd cc
some-appended (e ∷ es) entry none = absurd cc

pub keeps-opened : (entry : Entry) (awaited : ℕ) (s : State) → IsEntry entry → (0 < awaited → HasRoom awaited entry) → IsState s → IsState (opened entry awaited s)
keeps-opened entry awaited s new room k = record {
  each = all-appended IsEntry (within_limit s.entries) entry (all-within_limit s.entries k.each) new;
  few = few-with_entry entry s.entries k.few;
  closed = λ none. absurd (some-appended (within_limit s.entries) entry none);
  awaits_none = λ none. absurd cc;
  room = λ some. last-appended (HasRoom awaited) (within_limit s.entries) entry (room some);
}

-- a tab that is awaited comes
keeps-more : (t : ClosedTab) (more : ℕ) (e : Entry) → IsTab t → 0 < more → IsEntry e → HasRoom more e → IsEntry (with_window (with_more t) e)
keeps-more t more (Tab own) new some k room = absurd room
keeps-more t more (Window w) new some k room =
    let longer = length-append w.tabs (t ∷ []) in
    record { id = k.id; selected = k.selected; time = k.time; bounds = k.bounds; app = k.app; title = k.title; tabs = all-appended IsTab w.tabs t k.tabs new; few = omega (arith, room) }

room-more : (t : ClosedTab) (more : ℕ) (e : Entry) → 0 < more → HasRoom more e → HasRoom (more - 1) (with_window (with_more t) e)
room-more t more (Tab own) some room = room
room-more t more (Window w) some room = let longer = length-append w.tabs (t ∷ []) in omega (arith, room)

pub keeps-joined : (t : ClosedTab) (s : State) → IsTab t → 0 < s.awaited → IsState s → IsState (joined t s)
keeps-joined t s new some k =
    let same = length-on_last (with_window (with_more t)) s.entries in
    let few = k.few in
    record {
      each = all-on_last-given IsEntry (HasRoom s.awaited) (with_window (with_more t)) (λ e. keeps-more t s.awaited e new some) s.entries k.each (k.room some);
      few = omega arith;
      closed = λ none. k.closed (last-some (with_window (with_more t)) s.entries none);
      awaits_none = λ none. let zero = k.awaits_none none in omega arith;
      room = λ more. last-on_last (HasRoom s.awaited) (HasRoom (s.awaited - 1)) (with_window (with_more t)) (λ e. room-more t s.awaited e some) s.entries (k.room some);
    }

-- an entry was brought back
pub keeps-closed : (entries : List Entry) → AllByRecursion IsEntry entries → length entries ≤ ENTRIES → IsState (record { entries = entries; open_entry = false; awaited = 0 })
keeps-closed entries each few = record { each = each; few = few; closed = λ none. refl; awaits_none = λ closed. refl; room = λ some. absurd (omega arith) }

pub keeps-restored : (id : ℤ) (s : State) → IsState s → IsState (record { entries = without_newest id s.entries; open_entry = false; awaited = 0 })
keeps-restored id s k =
    let fewer = length-without (has_id id) s.entries in
    let few = k.few in
    keeps-closed (without_newest id s.entries) (all-without IsEntry (has_id id) s.entries k.each) (omega arith)
