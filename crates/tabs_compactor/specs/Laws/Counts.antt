-- A compaction has at most as many commands as its weight says.
use Rattle.std.proofs.Common.{◌≡◌, ℕ, ◌+◌, ◌≤◌, Bool, true, false, List, [], ◌∷◌, length, sum_by, arith}
use Rattle.std.proofs.lemmas.List.{length-append, length-map}
use Rattle.std.proofs.lemmas.List.Concat.{length-flat_map}
use Rattle.std.proofs.lemmas.List.Sums.{sum_by-cons, sum_by-le-sum_by}
use Rattle.tab_restore_commands.specs.declared.command.TabsCommand.TheVariants.{Pinned, Extension, WindowApp, Group, UserAgent, UserTitle}
use Rattle.closed_entries.specs.declared.closed_tab.ClosedTab.{ClosedTab}
use Rattle.closed_entries.specs.declared.closed_window.ClosedWindow.{ClosedWindow}
use Rattle.closed_entries.specs.declared.entry.Entry.{Entry}
use Rattle.closed_entries.specs.declared.entry.Entry.TheVariants.{Tab, Window}
use Rattle.closed_entries.specs.States.{State}
use Rattle.compaction_runs.proofs.Counts.{few-given, few-flagged}
use Rattle.tabs_compactor.specs.Compaction.{tab_commands, window_commands, entry_commands, entries_commands, closing, compaction, tab_weight, window_weight, entry_weight, weight}

few_tab : (t : ClosedTab) → length (tab_commands t) ≤ tab_weight t
few_tab t =
    let pinned = few-flagged (Pinned true) t.pinned in
    let extension = few-given (λ text. Extension t.id text []) t.extension in
    let agent = few-given (λ rest. UserAgent t.id rest) t.agent in
    let group = few-given (λ group. Group group) t.group in
    simp (length-append, length-map) (omega arith)

few_window : (awaited : ℕ) (w : ClosedWindow) → length (window_commands awaited w) ≤ window_weight w
few_window awaited w =
    let app = few-given (λ text. WindowApp w.id text []) w.app in
    let title = few-given (λ text. UserTitle w.id text []) w.title in
    let tabs = sum_by-le-sum_by (λ (t : ClosedTab). length (tab_commands t)) tab_weight w.tabs few_tab in
    let joined = length-flat_map tab_commands w.tabs in
    simp length-append (omega arith)

few_entry : (awaited : ℕ) (entry : Entry) → length (entry_commands awaited entry) ≤ entry_weight entry
few_entry awaited (Tab t) = few_tab t
few_entry awaited (Window w) = few_window awaited w

added : {first later both a b sum : ℕ} → first ≤ a → later ≤ b → both ≡ first + later → sum ≡ a + b → both ≤ sum
added first later joined summed = omega arith

few_entries : (awaited : ℕ) (entries : List Entry) → length (entries_commands awaited entries) ≤ sum_by entry_weight entries
few_entries awaited [] = omega arith
few_entries awaited (entry ∷ []) = let last = few_entry awaited entry in omega arith
few_entries awaited (entry ∷ next ∷ entries) =
    added (few_entry 0 entry) (few_entries awaited (next ∷ entries)) (length-append (entry_commands 0 entry) (entries_commands awaited (next ∷ entries))) (sum_by-cons entry_weight entry (next ∷ entries))

few_closing : (entries : List Entry) (is_open : Bool) → length (closing entries is_open) ≤ 1
few_closing [] is_open = omega arith
few_closing (entry ∷ entries) true = omega arith
few_closing (entry ∷ entries) false = omega arith

pub few : (s : State) → length (compaction s) ≤ weight s
few s =
    let entries = few_entries s.awaited s.entries in
    let last = few_closing s.entries s.open_entry in
    omega (arith, length-append (entries_commands s.awaited s.entries) (closing s.entries s.open_entry))
