-- The commands of one entry close it behind those that were closed before: it is the newest and open, and where there is
-- one too many the oldest goes.
use Rattle.std.proofs.Common.{◌≡◌, ℕ, zero, ◌+◌, ◌<◌, ◌≤◌, Bool, true, false, List, [], ◌∷◌, ◌++◌, length, drop, nat_eq, nat_lt, refl, sym, ap, ◌∙◌, arith}
use Rattle.std.proofs.lemmas.Bool.Decides.{nat_tests}
use Rattle.std.proofs.lemmas.List.{length-drop}
use Rattle.closed_entries.specs.declared.limits.TheConstants.{ENTRIES}
use Rattle.closed_entries.specs.declared.entry.Entry.{Entry}
use Rattle.closed_entries.specs.declared.entry.Entry.TheVariants.{Tab, Window}
use Rattle.closed_entries.specs.Changes.{new_tab, new_window}
use Rattle.closed_entries.specs.States.{State, IsEntry}
use Rattle.closed_entries.specs.Step.{opened, selected, within_limit}
use Rattle.closed_entries.proofs.StepLaws.{ending}
use Rattle.machine_law.specs.Kind.{fold}
use Rattle.tabs_compactor.specs.Compaction.{entry_commands, tab_commands, window_commands}
use Rattle.tabs_compactor.specs.TabsKind.{tabs_kind}
use Rattle.tabs_compactor.specs.Laws.FoldsBack.{leads-entry}

below : (entries : List Entry) → length entries ≤ ENTRIES → length (within_limit entries) < ENTRIES
below entries few = by (nat_lt (length entries) ENTRIES) refl
  where
    by : (b : Bool) → nat_lt (length entries) ENTRIES ≡ b → length (within_limit entries) < ENTRIES
    by true is = rw is (grind (arith, nat_tests))
    by false is = rw is (omega (arith, length-drop 1 entries))

again : (entries : List Entry) → length entries ≤ ENTRIES → within_limit (within_limit entries) ≡ within_limit entries
again entries few =
    let less = below entries few in
    let is : nat_lt (length (within_limit entries)) ENTRIES ≡ true = grind (arith, nat_tests) in
    rw is refl

-- the state without the entry that is one too many
abbrev pub with_room : State → State
with_room s = record s { entries = within_limit s.entries }

opened-so : (entry : Entry) (awaited : ℕ) (s : State) → length s.entries ≤ ENTRIES → opened entry awaited s ≡ opened entry awaited (with_room s)
opened-so entry awaited s few =
    ap (λ entries. record { entries = entries ++ entry ∷ []; open_entry = true; awaited = awaited }) (sym (again s.entries few))

-- from there on no command looks at the entries before
same-fold : (s : State) (entry : Entry) → s.awaited ≡ 0 → length s.entries ≤ ENTRIES
    → fold tabs_kind s (entry_commands 0 entry) ≡ fold tabs_kind (with_room s) (entry_commands 0 entry)
same-fold s (Tab t) waits few =
    let made = Tab (new_tab t.id t.selected t.time) in
    let none : nat_eq s.awaited 0 ≡ true = grind (arith, nat_tests) in
    let first : selected (new_tab t.id t.selected t.time) s ≡ selected (new_tab t.id t.selected t.time) (with_room s) =
    rw none (opened-so made 0 s few) in
    ap (λ x. fold tabs_kind x (drop 1 (tab_commands t))) first
same-fold s (Window w) waits few =
    ap (λ x. fold tabs_kind x (drop 1 (window_commands 0 w)))
    (opened-so (Window (new_window w.id w.selected w.time w.bounds)) (length w.tabs + 0) s few)

pub entry-closed : (s : State) (entry : Entry) → s.awaited ≡ 0 → length s.entries ≤ ENTRIES → IsEntry entry
    → fold tabs_kind s (entry_commands 0 entry) ≡ opened entry 0 s
entry-closed s entry waits few is =
    same-fold s entry waits few
    ∙ (leads-entry (with_room s) entry 0 (below s.entries few) waits (λ some. absurd (omega arith)) is).to
