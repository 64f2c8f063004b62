-- From what a call on a cursor gives, in the words of reading, to what stands in the bytes.
use Rattle.std.proofs.Common.{◌≡◌, ℕ, List, Result, Ok, Err, sym, subst, ap, ◌∙◌}
use Rattle.std.specs.Prelude.{IfOk, IsOkAnd}
use Rattle.pickle_cells.specs.declared.fault.PickleFault.{PickleFault}
use Rattle.pickle_cells.specs.Cell.{IsBytes}
use Rattle.pickle_cells.specs.CellReading.{Unread, Gives}
use Rattle.pickle_cells.proofs.CellLaws.{ok_is}

-- the bytes behind a cursor's slice are the cursor's
pub fits_by : (place : ℕ) (bytes : List ℕ) (cursor : Unread) → (let opened : Unread = record { place = place; bytes = bytes } in opened ≡ cursor) → IsBytes bytes → IsBytes cursor.bytes
fits_by place bytes cursor e fits = subst (λ (u : Unread). IsBytes u.bytes) e fits

-- what is read holds of the result
pub found_by : {X Y : Type 0} (view : X → Y) (P : Y → Unread → Type 0) (old new : Unread) (read : Result (Y × Unread) PickleFault) (result : Result X PickleFault)
    → ((y : Y) (u : Unread) → read ≡ Ok (y, u) → P y u) → Gives view old result new read → IfOk result (λ x. P (view x) new)
found_by view P old new read (Ok x) holds gives = holds (view x) new gives
found_by view P old new read (Err fault) holds gives = tt

-- what is there to be read is the result
pub only_by : {X Y : Type 0} (view : X → Y) (old new : Unread) (read : Result (Y × Unread) PickleFault) (result : Result X PickleFault) (y : Y) (rest : Unread)
    → read ≡ Ok (y, rest) → Gives view old result new read → IsOkAnd result (λ x. view x ≡ y) × (new ≡ rest)
only_by {X} {Y} view old new read (Ok x) y rest is gives =
    let same : ◌≡◌ {A = Y × Unread} (view x, new) (y, rest) = ok_is (view x, new) (y, rest) (sym gives ∙ is) in
    (ap (λ (p : Y × Unread). p.0) same, ap (λ (p : Y × Unread). p.1) same)
only_by view old new read (Err fault) y rest is gives = absurd cc
