-- What a walk over the items of a pickle tells of the whole.
use Rattle.std.proofs.Common.{◌≡◌, ℕ, List, Some, Result, Ok, Err, refl, ap, ◌∙◌}
use Rattle.pickle_cells.specs.declared.fault.PickleFault.{PickleFault}
use Rattle.pickle_cells.specs.declared.kind.ItemKind.{ItemKind}
use Rattle.pickle_cells.specs.CellReading.{Unread, ◌>>=◌, body_at}
use Rattle.pickle_cells.specs.PickleLayout.{Item, items_at, pickled_at, pickled_fault, fault_of}
use Rattle.payload_rows.specs.Faults.{Passes}

abbrev Read : Type 0
Read = Result (List Item × Unread) PickleFault

pub unopened : (kinds : List ItemKind) (payload : List ℕ) (fault : PickleFault) → body_at payload ≡ Err fault → pickled_fault kinds payload ≡ Some fault
unfolding pickled_at
unopened kinds payload fault e =
    ap (λ (r : Result Unread PickleFault). fault_of {X = List Item × List ℕ} (r >>= λ body. items_at kinds body >>= λ x. Ok (x.0, x.1.bytes))) e

faults : (read : Read) → fault_of {X = List Item × List ℕ} (read >>= λ x. Ok (x.0, x.1.bytes)) ≡ fault_of read
faults (Ok x) = refl
faults (Err fault) = refl

pub opened : (kinds : List ItemKind) (payload : List ℕ) (body : Unread) → body_at payload ≡ Ok body → pickled_fault kinds payload ≡ fault_of (items_at kinds body)
unfolding pickled_at
opened kinds payload body e =
    ap (λ (r : Result Unread PickleFault). fault_of {X = List Item × List ℕ} (r >>= λ unread. items_at kinds unread >>= λ x. Ok (x.0, x.1.bytes))) e ∙ faults (items_at kinds body)

pub passed_fault : {T : Type 0} (read : Read) (after : Unread) (result : Result T PickleFault) → Passes read after result → fault_of result ≡ fault_of read
passed_fault (Ok x) after (Ok y) passes = refl
passed_fault (Ok x) after (Err fault) passes = absurd cc
passed_fault (Err fault) after (Ok y) passes = absurd cc
passed_fault (Err fault) after (Err other) passes = cc
