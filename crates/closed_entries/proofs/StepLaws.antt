-- What steps make of states that are known at their end: below the limit a new entry goes behind the others, and a
-- command of the current tab or window changes that one alone.
use Rattle.std.proofs.Common.{◌≡◌, ℕ, suc, ◌-◌, ◌<◌, nat_eq, nat_lt, Bool, true, false, List, [], ◌∷◌, ◌++◌, length, refl, ap, arith}
use Rattle.std.proofs.lemmas.Bool.Decides.{nat_tests}
use Rattle.closed_entries.specs.declared.limits.TheConstants.{ENTRIES}
use Rattle.closed_entries.specs.declared.closed_tab.ClosedTab.{ClosedTab}
use Rattle.closed_entries.specs.declared.closed_window.ClosedWindow.{ClosedWindow}
use Rattle.closed_entries.specs.declared.entry.Entry.{Entry}
use Rattle.closed_entries.specs.declared.entry.Entry.TheVariants.{Tab, Window}
use Rattle.closed_entries.specs.LastItem.{on_last}
use Rattle.closed_entries.specs.Changes.{with_more, with_tab, with_window}
use Rattle.closed_entries.specs.States.{State}
use Rattle.closed_entries.specs.Step.{on_tab, on_window, opened, selected}
use Rattle.closed_entries.proofs.LastItemLaws.{on_last-appended}

-- the last entry of a state, behind others
abbrev pub ending : List Entry → Entry → Bool → ℕ → State
ending before entry is_open awaited = record { entries = before ++ entry ∷ []; open_entry = is_open; awaited = awaited }

pub opened-behind : (entry : Entry) (awaited : ℕ) (s : State) → length s.entries < ENTRIES → opened entry awaited s ≡ ending s.entries entry true awaited
opened-behind entry awaited s few =
    let below : nat_lt (length s.entries) ENTRIES ≡ true = grind (arith, nat_tests) in
    rw below refl

pub selected-alone : (t : ClosedTab) (s : State) → s.awaited ≡ 0 → length s.entries < ENTRIES → selected t s ≡ ending s.entries (Tab t) true 0
selected-alone t s none few =
    let below : nat_lt (length s.entries) ENTRIES ≡ true = grind (arith, nat_tests) in
    let waits : nat_eq s.awaited 0 ≡ true = grind (arith, nat_tests) in
    rw (waits, below) refl

-- the last entry alone is changed
changed-end : (change : Entry → Entry) (before : List Entry) (entry : Entry) (is_open : Bool) (awaited : ℕ) → record (ending before entry is_open awaited) { entries = on_last change (before ++ entry ∷ []) } ≡ ending before (change entry) is_open awaited
changed-end change before entry is_open awaited = ap (λ entries. record { entries = entries; open_entry = is_open; awaited = awaited }) (on_last-appended change before entry)

pub selected-awaited : (t : ClosedTab) (before : List Entry) (w : ClosedWindow) (is_open : Bool) (awaited : ℕ) → selected t (ending before (Window w) is_open (suc awaited)) ≡ ending before (Window (with_more t w)) is_open awaited
selected-awaited t before w is_open awaited =
    let fewer : suc awaited - 1 ≡ awaited = omega arith in
    let some : nat_eq (suc awaited) 0 ≡ false = grind (arith, nat_tests) in
    rw (some, fewer) (changed-end (with_window (with_more t)) before (Window w) is_open awaited)

pub on_tab-alone : (change : ClosedTab → ClosedTab) (before : List Entry) (t : ClosedTab) (awaited : ℕ) → on_tab change (ending before (Tab t) true awaited) ≡ ending before (Tab (change t)) true awaited
on_tab-alone change before t awaited = changed-end (with_tab change) before (Tab t) true awaited

pub on_tab-in_window : (change : ClosedTab → ClosedTab) (before : List Entry) (w : ClosedWindow) (tabs : List ClosedTab) (t : ClosedTab) (awaited : ℕ)
    → on_tab change (ending before (Window (record w { tabs = tabs ++ t ∷ [] })) true awaited) ≡ ending before (Window (record w { tabs = tabs ++ change t ∷ [] })) true awaited
on_tab-in_window change before w tabs t awaited = rw (changed-end (with_tab change) before (Window (record w { tabs = tabs ++ t ∷ [] })) true awaited, on_last-appended change tabs t) refl

pub on_window-last : (change : ClosedWindow → ClosedWindow) (before : List Entry) (w : ClosedWindow) (awaited : ℕ) → on_window change (ending before (Window w) true awaited) ≡ ending before (Window (change w)) true awaited
on_window-last change before w awaited = changed-end (with_window change) before (Window w) true awaited
