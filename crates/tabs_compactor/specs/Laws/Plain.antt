-- Every command of a compaction has a row and can be written, so none is the marker, and its numbers are in range.
use Rattle.std.proofs.Common.{◌≡◌, ℕ, zero, suc, ◌+◌, ◌<◌, ◌≤◌, pos, Bool, true, false, List, [], ◌∷◌, length, FitsSigned, w32, refl, ap, subst, arith}
use Rattle.std.specs.List.{AllByRecursion}
use Rattle.std.proofs.lemmas.Int.{ints}
use Rattle.tab_restore_commands.specs.declared.command.TabsCommand.{TabsCommand}
use Rattle.tab_restore_commands.specs.declared.command.TabsCommand.TheVariants.{UpdateNavigation, RestoredEntry, SelectedInTab, Pinned, Extension, WindowApp, WindowEntry, Group, UserAgent, UserTitle, Raw}
use Rattle.tab_restore_commands.specs.Table.{Payload, IsSound, IsInRange, IsKnown}
use Rattle.tab_restore_commands.proofs.MarkerLaws.{marker_command, marker_payload}
use Rattle.tab_restore_commands.proofs.TableLaws.{one_command, navigation_is_sound, group_is_sound}
use Rattle.tab_pages.specs.Ranges.{IsGroupInRange, IsPageInRange}
use Rattle.tab_pages.specs.Fits.{FitsText, FitsRest}
use Rattle.closed_entries.specs.Limits.{tab_limit}
use Rattle.closed_entries.specs.declared.closed_tab.ClosedTab.{ClosedTab}
use Rattle.closed_entries.specs.declared.closed_window.ClosedWindow.{ClosedWindow}
use Rattle.closed_entries.specs.declared.entry.Entry.{Entry}
use Rattle.closed_entries.specs.declared.entry.Entry.TheVariants.{Tab, Window}
use Rattle.closed_entries.specs.LastItem.{HoldsOfLast}
use Rattle.closed_entries.specs.States.{State, IsTab, IsWindow, IsEntry, HasRoom, IsState}
use Rattle.closed_entries.specs.Step.{step}
use Rattle.machine_law.specs.Kind.{marker_id}
use Rattle.compaction_runs.specs.Runs.{Are}
use Rattle.compaction_runs.proofs.CommandLaws.{joint, are-one, are-given, are-flagged, are-map, are-flat}
use Rattle.tabs_compactor.specs.Compaction.{tab_commands, window_commands, entry_commands, entries_commands, closing, compaction}

-- a command that has a row and can be written, with its numbers in range
pub record IsPlain (command : TabsCommand) : Type 0 where
  pub sound : IsSound command
  pub known : IsKnown command
  pub ranged : IsInRange command

-- the marker's id and payload are those of one raw command
is_marker : (command : TabsCommand) → Payload marker_id command [] → command ≡ Raw marker_command
is_marker command holds = one_command (Raw marker_command) command marker_id [] marker_payload holds

-- so a command with a row isn't the marker
pub unmarked : (command : TabsCommand) → IsPlain command → Payload marker_id command [] → ⊥
unmarked command plain holds =
    let bad : IsKnown (Raw marker_command) = subst IsKnown (is_marker command holds) plain.known in
    absurd cc

-- and the marker changes no state
pub marker-leaves : (state : State) (command : TabsCommand) → Payload marker_id command [] → step state command ≡ state
marker-leaves state command holds = ap (step state) (is_marker command holds)

abbrev pub ArePlain : List TabsCommand → Type 0
ArePlain commands = Are IsPlain commands

plain_tab : (t : ClosedTab) → IsTab t → ArePlain (tab_commands t)
plain_tab t is =
    joint (joint (joint (joint (joint
    (are-one IsPlain (SelectedInTab t.id t.selected t.time) (record { sound = tt; known = refl; ranged = (is.id, (is.selected, (is.time, tt))) }))
    (are-flagged IsPlain (Pinned true) t.pinned (record { sound = tt; known = refl; ranged = (tt, tt) })))
    (are-given IsPlain FitsText (λ text. Extension t.id text []) t.extension (λ text fits. record { sound = (refl, omega (arith, fits)); known = refl; ranged = (is.id, (tt, tt)) }) is.extension))
    (are-given IsPlain FitsRest (λ rest. UserAgent t.id rest) t.agent (λ rest fits. record { sound = (fits.0, omega (arith, fits.1)); known = refl; ranged = (is.id, tt) }) is.agent))
    (are-given IsPlain IsGroupInRange (λ group. Group group) t.group (λ group g. record { sound = group_is_sound group; known = refl; ranged = (g.high, (g.low, (g.title, (g.colour, tt)))) }) is.group))
    (are-map IsPlain IsPageInRange (λ page. UpdateNavigation t.id page.0 page.1) t.pages (λ page p. record { sound = navigation_is_sound t.id page.0 page.1; known = refl; ranged = (is.id, (p.0, (tt, (p.1.title, (tt, (p.1.transition, tt)))))) }) is.pages)

plain_window : (awaited : ℕ) (w : ClosedWindow) → length w.tabs + awaited ≤ tab_limit → IsWindow w → ArePlain (window_commands awaited w)
plain_window awaited w room is =
    let b = is.bounds in
    let count : FitsSigned w32 (pos (length w.tabs + awaited)) = omega (arith, ints) in
    joint (joint (joint
    (are-one IsPlain (WindowEntry w.id w.selected (pos (length w.tabs + awaited)) w.time w.bounds [])
    (record { sound = (refl, omega arith); known = refl; ranged = (is.id, (is.selected, (count, (is.time, (b.x, (b.y, (b.width, (b.height, (b.show, tt))))))))) }))
    (are-given IsPlain FitsText (λ text. WindowApp w.id text []) w.app (λ text fits. record { sound = (refl, omega (arith, fits)); known = refl; ranged = (is.id, (tt, tt)) }) is.app))
    (are-given IsPlain FitsText (λ text. UserTitle w.id text []) w.title (λ text fits. record { sound = (refl, omega (arith, fits)); known = refl; ranged = (is.id, (tt, tt)) }) is.title))
    (are-flat IsPlain IsTab tab_commands w.tabs plain_tab is.tabs)

-- what an entry that awaits so many tabs keeps of its count
pub room_for : (awaited : ℕ) (w : ClosedWindow) → IsWindow w → (0 < awaited → HasRoom awaited (Window w)) → length w.tabs + awaited ≤ tab_limit
room_for zero w is room = let few = is.few in omega arith
room_for (suc n) w is room = room (omega arith)

pub plain_entry : (awaited : ℕ) (entry : Entry) → (0 < awaited → HasRoom awaited entry) → IsEntry entry → ArePlain (entry_commands awaited entry)
plain_entry awaited (Tab t) room is = plain_tab t is
plain_entry awaited (Window w) room is = plain_window awaited w (room_for awaited w is room) is

plain_entries : (awaited : ℕ) (entries : List Entry) → (0 < awaited → HoldsOfLast (HasRoom awaited) entries) → AllByRecursion IsEntry entries → ArePlain (entries_commands awaited entries)
plain_entries awaited [] room are = record { all = tt }
plain_entries awaited (entry ∷ []) room are = plain_entry awaited entry room are.0
plain_entries awaited (entry ∷ next ∷ entries) room are = joint (plain_entry 0 entry (λ some. absurd (omega arith)) are.0) (plain_entries awaited (next ∷ entries) room are.1)

plain_closing : (entries : List Entry) (is_open : Bool) → ArePlain (closing entries is_open)
plain_closing [] is_open = record { all = tt }
plain_closing (entry ∷ entries) true = record { all = tt }
plain_closing (entry ∷ entries) false = are-one IsPlain (RestoredEntry (pos 0)) (record { sound = tt; known = refl; ranged = (omega (arith, ints), tt) })

pub plain : (s : State) → IsState s → ArePlain (compaction s)
plain s is = joint (plain_entries s.awaited s.entries is.room is.each) (plain_closing s.entries s.open_entry)
