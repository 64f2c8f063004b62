-- Closed entries along a run: no command makes more of them than there may be, and tidying leaves them and awaits none.
use Rattle.std.proofs.Common.{◌≡◌, ◌≤◌, nat_eq, nat_lt, ℤ, pos, Bool, true, false, if◌then◌else◌, List, [], ◌∷◌, length}
use Rattle.std.proofs.Common.{drop, refl, arith}
use Rattle.std.proofs.lemmas.List.{length-append, length-drop}
use Rattle.std.proofs.lemmas.Bool.Decides.{nat_tests}
use Rattle.std.specs.Ordering.{int_eq}
use Rattle.machine_law.specs.Kind.{fold}
use Rattle.tab_restore_commands.specs.declared.command.TabsCommand.{TabsCommand}
use Rattle.tab_restore_commands.specs.declared.command.TabsCommand.TheVariants.{RestoredEntry, SelectedInTab}
use Rattle.tab_restore_commands.specs.declared.command.TabsCommand.TheVariants.{WindowEntry, Raw}
use Rattle.closed_entries.specs.Changes.{new_tab, new_window, with_more, with_window}
use Rattle.closed_entries.specs.LastItem.{on_last}
use Rattle.closed_entries.specs.States.{State, IsState}
use Rattle.closed_entries.specs.Step.{has_id, joined, on_open_entry, opened, restored, selected, step, with_entry}
use Rattle.closed_entries.specs.Step.{without_newest}
use Rattle.closed_entries.specs.declared.closed_tab.ClosedTab.{ClosedTab}
use Rattle.closed_entries.specs.declared.entry.Entry.{Entry}
use Rattle.closed_entries.specs.declared.entry.Entry.TheVariants.{Tab, Window}
use Rattle.closed_entries.specs.declared.limits.TheConstants.{ENTRIES}
use Rattle.closed_entries.proofs.LastItemLaws.{length-on_last, length-without}
use Rattle.tabs_compactor.specs.TabsKind.{tabs_kind}
use Rattle.tabs_compactor.specs.Tidying.{tidied, tidying}

few-with : (entry : Entry) (entries : List Entry) → length entries ≤ ENTRIES → length (with_entry entry entries)
    ≤ ENTRIES
few-with entry entries few = by (nat_lt (length entries) ENTRIES) refl
  where
    by : (b : Bool) → nat_lt (length entries) ENTRIES ≡ b → length (with_entry entry entries) ≤ ENTRIES
    by true is = rw is (let less = length-append entries (entry ∷ []) in grind (arith, nat_tests))
    by false is = rw is (omega (arith, length-append (drop 1 entries) (entry ∷ []), length-drop 1 entries))

few-selected : (t : ClosedTab) (s : State) → length s.entries ≤ ENTRIES → length (selected t s).entries ≤ ENTRIES
few-selected t s few = by (nat_eq s.awaited 0)
  where
    by : (b : Bool) → length (if b then opened (Tab t) 0 s else joined t s).entries ≤ ENTRIES
    by true = few-with (Tab t) s.entries few
    by false = omega (arith, few, length-on_last (with_window (with_more t)) s.entries)

few-restored : (id : ℤ) (s : State) → length s.entries ≤ ENTRIES → length (restored id s).entries ≤ ENTRIES
few-restored id s few = by (int_eq id (pos 0))
  where
    by : (b : Bool) → length (if b then s.entries else without_newest id s.entries) ≤ ENTRIES
    by true = few
    by false = omega (arith, few, length-without (has_id id) s.entries)

few-changed : (change : Entry → Entry) (s : State) → length s.entries ≤ ENTRIES
    → length (on_open_entry change s).entries ≤ ENTRIES
few-changed change s few = by s.open_entry
  where
    by : (b : Bool) → length (if b then on_last change s.entries else s.entries) ≤ ENTRIES
    by true = omega (arith, few, length-on_last change s.entries)
    by false = few

few-step : (s : State) (c : TabsCommand) → length s.entries ≤ ENTRIES → length (step s c).entries ≤ ENTRIES
few-step s (SelectedInTab tab index time) few = few-selected (new_tab tab index time) s few
few-step s (WindowEntry window index count time bounds tail) few =
    few-with (Window (new_window window index time bounds)) s.entries few
few-step s (RestoredEntry id) few = few-restored id s few
few-step s (Raw raw) few = few
few-step s other few = few-changed _ s few

pub few-fold : (s : State) (cs : List TabsCommand) → length s.entries ≤ ENTRIES
    → length (fold tabs_kind s cs).entries ≤ ENTRIES
few-fold s [] few = few
few-fold s (c ∷ cs) few = few-fold (step s c) cs (few-step s c few)

-- tidying leaves the entries, and awaits no tab
pub fold-tidying : (s : State) → IsState s → fold tabs_kind s (tidying s) ≡ tidied s
fold-tidying s is = by s.open_entry refl
  where
    by : (b : Bool) → s.open_entry ≡ b → fold tabs_kind s (if b then RestoredEntry (pos 0) ∷ [] else []) ≡ tidied s
    by true e = refl
    by false e =
        let none : s.awaited ≡ 0 = is.awaits_none e in
        λ i. record { entries = s.entries; open_entry = e i; awaited = none i }
