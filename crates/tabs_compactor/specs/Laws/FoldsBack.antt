-- A compaction leads from the start to the very state that it restates.
use Rattle.std.proofs.Common.{◌≡◌, ℕ, zero, suc, ◌+◌, ◌<◌, ◌≤◌, pos, Bool, true, false, List, [], ◌∷◌, ◌++◌, length, refl, sym, ap, subst, append_assoc, length-append, arith}
use Rattle.std.specs.List.{AllByRecursion}
use Rattle.tab_restore_commands.specs.declared.command.TabsCommand.TheVariants.{RestoredEntry}
use Rattle.closed_entries.specs.declared.limits.TheConstants.{ENTRIES}
use Rattle.closed_entries.specs.declared.entry.Entry.{Entry}
use Rattle.closed_entries.specs.declared.entry.Entry.TheVariants.{Tab, Window}
use Rattle.closed_entries.specs.LastItem.{HoldsOfLast}
use Rattle.closed_entries.specs.Changes.{new_tab}
use Rattle.closed_entries.specs.States.{State, start, IsEntry, HasRoom, IsState}
use Rattle.closed_entries.proofs.StepLaws.{ending, selected-alone, on_tab-alone}
use Rattle.machine_law.specs.Kind.{fold}
use Rattle.compaction_runs.specs.Runs.{Leads}
use Rattle.compaction_runs.proofs.RunLaws.{followed, leads-none, leads-one}
use Rattle.tabs_compactor.specs.Compaction.{tab_commands, entry_commands, entries_commands, compaction}
use Rattle.tabs_compactor.specs.TabsKind.{tabs_kind}
use Rattle.tabs_compactor.specs.Laws.TabRuns.{leads-tab}
use Rattle.tabs_compactor.specs.Laws.WindowRuns.{leads-window}

none : (n : ℕ) → (0 < n → ⊥) → n ≡ 0
none zero never = refl
none (suc n) never = absurd (never (omega arith))

-- an entry behind those before it, none of whose tabs is awaited
pub leads-entry : (s : State) (entry : Entry) (awaited : ℕ) → length s.entries < ENTRIES → s.awaited ≡ 0 → (0 < awaited → HasRoom awaited entry) → IsEntry entry
    → Leads tabs_kind s (entry_commands awaited entry) (ending s.entries entry true awaited)
leads-entry s (Tab t) awaited below waits room is =
    subst (λ n. Leads tabs_kind s (tab_commands t) (ending s.entries (Tab t) true n)) (sym (none awaited room))
    (leads-tab (λ x. ending s.entries (Tab x) true 0) (λ change x. on_tab-alone change s.entries x 0) s t (selected-alone (new_tab t.id t.selected t.time) s waits below) is.rising)
leads-entry s (Window w) awaited below waits room is = leads-window s below w awaited is.tabs

leads-entries : (awaited : ℕ) (entry : Entry) (entries : List Entry) (s : State) → length s.entries + length (entry ∷ entries) ≤ ENTRIES → s.awaited ≡ 0
    → (0 < awaited → HoldsOfLast (HasRoom awaited) (entry ∷ entries)) → AllByRecursion IsEntry (entry ∷ entries)
    → Leads tabs_kind s (entries_commands awaited (entry ∷ entries)) (record { entries = s.entries ++ entry ∷ entries; open_entry = true; awaited = awaited })
leads-entries awaited entry [] s few waits room are = leads-entry s entry awaited (omega arith) waits room are.0
leads-entries awaited entry (next ∷ entries) s few waits room are =
    let first = leads-entry s entry 0 (omega arith) waits (λ some. absurd (omega arith)) are.0 in
    let later = leads-entries awaited next entries (ending s.entries entry true 0) (omega (arith, length-append s.entries (entry ∷ []))) refl room are.1 in
    followed first
    (subst (λ all. Leads tabs_kind (ending s.entries entry true 0) (entries_commands awaited (next ∷ entries)) (record { entries = all; open_entry = true; awaited = awaited })) (append_assoc s.entries (entry ∷ []) (next ∷ entries)) later)

from_start : (entry : Entry) (entries : List Entry) (awaited : ℕ) → length (entry ∷ entries) ≤ ENTRIES → (0 < awaited → HoldsOfLast (HasRoom awaited) (entry ∷ entries)) → AllByRecursion IsEntry (entry ∷ entries)
    → Leads tabs_kind start (entries_commands awaited (entry ∷ entries)) (record { entries = entry ∷ entries; open_entry = true; awaited = awaited })
from_start entry entries awaited few room are = leads-entries awaited entry entries start (omega arith) refl room are

leads-back : (entries : List Entry) (is_open : Bool) (awaited : ℕ) (is : IsState (record { entries = entries; open_entry = is_open; awaited = awaited }))
    → Leads tabs_kind start (compaction (record { entries = entries; open_entry = is_open; awaited = awaited })) (record { entries = entries; open_entry = is_open; awaited = awaited })
leads-back [] is_open awaited is =
    let closed : is_open ≡ false = is.closed refl in
    let waits : awaited ≡ 0 = is.awaits_none closed in
    record { to = rw (closed, waits) refl }
leads-back (entry ∷ entries) true awaited is =
    followed (from_start entry entries awaited is.few is.room is.each) (leads-none tabs_kind (record { entries = entry ∷ entries; open_entry = true; awaited = awaited }))
leads-back (entry ∷ entries) false awaited is =
    followed (from_start entry entries awaited is.few is.room is.each)
    (leads-one tabs_kind (record { entries = entry ∷ entries; open_entry = true; awaited = awaited }) (record { entries = entry ∷ entries; open_entry = false; awaited = awaited }) (RestoredEntry (pos 0))
    (ap (λ n. record { entries = entry ∷ entries; open_entry = false; awaited = n }) (sym (is.awaits_none refl))))

pub folds_back : (s : State) → IsState s → fold tabs_kind start (compaction s) ≡ s
folds_back s is = (leads-back s.entries s.open_entry s.awaited is).to
